use Rattle.std.proofs.Common.{◌≡◌, ℕ, ◌*◌, ap, arith}
use Rattle.planes.specs.Words.{plane}
use Rattle.planes.specs.Parts.{plane_le}
use Rattle.planes.proofs.words.PlanesParts.count.Goals as goal

pub overflow_mul-result : goal.overflow_mul-result
overflow_mul-result c =
    let t = c.args.self.now.shape in
    let e : c.columns.result * t.size.height ≡ plane t c.args.component = ap (λ (n : ℕ). n * t.size.height) c.columns.ensures in
    omega (arith, e, plane_le t c.args.component)
