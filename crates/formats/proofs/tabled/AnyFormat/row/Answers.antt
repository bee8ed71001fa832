use Rattle.std.proofs.Common.{arith}
use Rattle.formats.proofs.Rows.{unit_pixels, unit_bytes, row_filled}
use Rattle.formats.proofs.tabled.AnyFormat.row.Goals as goal

pub overflow_mul-pixels : goal.overflow_mul-pixels
overflow_mul-pixels g c =
    let met = g.met.T.Tabled in
    let x = c.args.self.now in
    omega (arith, (unit_pixels _ (met.proper x) _ (met.fixed x) _ (met.filled x) _ _ c.GROUP_PIXELS.ensures c.ROW_GROUPS.ensures).1)

pub overflow_mul-bytes : goal.overflow_mul-bytes
overflow_mul-bytes g c =
    let met = g.met.T.Tabled in
    let x = c.args.self.now in
    omega (arith, unit_bytes _ (met.proper x) _ (met.fixed x) _ (met.filled x) _ _ c.GROUP_BYTES.ensures c.ROW_GROUPS-2.ensures)

pub overflow_add-result : goal.overflow_add-result
overflow_add-result g c =
    let met = g.met.T.Tabled in
    let x = c.args.self.now in
    omega (arith, (unit_pixels _ (met.proper x) _ (met.fixed x) _ (met.filled x) _ _ c.GROUP_PIXELS.ensures c.ROW_GROUPS.ensures).1)

pub nonzero_div-result : goal.nonzero_div-result
nonzero_div-result g c =
    let met = g.met.T.Tabled in
    let x = c.args.self.now in
    (unit_pixels _ (met.proper x) _ (met.fixed x) _ (met.filled x) _ _ c.GROUP_PIXELS.ensures c.ROW_GROUPS.ensures).0

pub returns : goal.returns
returns g c =
    let met = g.met.T.Tabled in
    let x = c.args.self.now in
    row_filled _ (met.proper x) _ (met.fixed x) _ (met.filled x) c.args.size _ _ _ _ c.GROUP_PIXELS.ensures c.ROW_GROUPS.ensures c.GROUP_BYTES.ensures c.ROW_GROUPS-2.ensures

pub overflow_mul-result : goal.overflow_mul-result
overflow_mul-result g c =
    omega (arith, returns g c, (g.met.T.Tabled.proper c.args.self.now).short c.args.size.width c.args.size.width_high)
