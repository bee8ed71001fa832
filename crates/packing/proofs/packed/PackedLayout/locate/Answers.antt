use Rattle.std.proofs.Common.{◌≡◌, ◌*◌, true, sym, ap, ◌∙◌, arith}
use Rattle.samples.specs.Shapes.{has}
use Rattle.packing.specs.Packed.{shape_of}
use Rattle.packing.proofs.Fitting.{start_fits, start_sum}
use Rattle.packing.proofs.packed.PackedLayout.locate.Goals as goal

-- the start as the code computes it, which is that of the layout, fits
pub overflow_add-result-2 : goal.overflow_add-result-2
overflow_add-result-2 g c =
    let s = c.args.self.now in
    let x = c.args.site in
    let p = g.F.Format.packing s.format in
    let there : has (shape_of p s.size) x ≡ true = ap (λ t. has t x) (sym c.shape-shape.ensures) ∙ sym c.has.ensures ∙ c.if-not-has.false in
    let line = c.row_start-row.ensures ∙ ap (λ l. l.0 * p.row s.size.width) c.stored_line.ensures in
    let same = start_sum p s.size x _ c.row_start-row.result _ _ _ c.of-group.ensures line c.count-count.ensures c.before-2.ensures c.start-start.ensures in
    omega (arith, same, start_fits p (g.met.F.Format.proper s.format) s.size x there)

pub overflow_add-result : goal.overflow_add-result
overflow_add-result g c = omega (arith, overflow_add-result-2 g c)
