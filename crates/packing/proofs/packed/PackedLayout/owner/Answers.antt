use Rattle.std.proofs.Common.{◌*◌, sym, arith}
use Rattle.packing.proofs.Fitting.{column_fits, held_number}
use Rattle.packing.proofs.packed.PackedLayout.owner.Goals as goal

pub overflow_add-site : goal.overflow_add-site
overflow_add-site g c =
    let s = c.args.self.now in
    let p = g.F.Format.packing s.format in
    let ok = g.met.F.Format.proper s.format in
    let bytes = c.row_bytes-row.ensures in
    let m = column_fits p ok c.args.bit c.row_bytes-row.result (8 * c.of-group.result.figures.bytes) _ _ _ bytes.some bytes.short c.of-group.ensures c.count.ensures in
    omega (arith, m.1, held_number p ok _ c.in_ok-number.number (sym c.in_ok-number.ensures))

pub overflow_mul-site : goal.overflow_mul-site
overflow_mul-site g c = omega (arith, overflow_add-site g c)
