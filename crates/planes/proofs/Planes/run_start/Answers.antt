use Rattle.std.proofs.Common.{◌≡◌, ℕ, ◌+◌, ◌*◌, ap, ◌∙◌, arith}
use Rattle.samples.specs.declared.component.Component.{Component}
use Rattle.samples.specs.declared.shape.Shape.{Shape}
use Rattle.samples.specs.Shapes.{columns}
use Rattle.planes.specs.Words.{offset}
use Rattle.planes.proofs.Running.{run_fits}
use Rattle.planes.proofs.Planes.run_start.Goals as goal

-- the figures that were asked for make the word that is meant
meant : (t : Shape) (c : Component) (line o w : ℕ) → o ≡ offset t c → w ≡ columns t c → o + line * w ≡ offset t c + line * columns t c
meant t c line o w p q = ap (λ z. z + line * w) p ∙ ap (λ z. offset t c + line * z) q

pub overflow_add-result : goal.overflow_add-result
overflow_add-result c =
    let t = c.args.self.shape in
    omega (arith, meant t c.args.component c.args.line.0 _ _ c.before-2.ensures c.columns.ensures, run_fits t c.args.line.0 c.requires c.args.component)

pub overflow_mul-result-2 : goal.overflow_mul-result-2
overflow_mul-result-2 c =
    let t = c.args.self.shape in
    omega (arith, meant t c.args.component c.args.line.0 _ _ c.before-2.ensures c.columns.ensures, run_fits t c.args.line.0 c.requires c.args.component)

pub returns : goal.returns
returns c =
    let t = c.args.self.shape in
    let e = meant t c.args.component c.args.line.0 _ _ c.before-2.ensures c.columns.ensures in
    record { value = ap (λ (z : ℕ). 32 * z) e; room = omega (arith, e, run_fits t c.args.line.0 c.requires c.args.component) }
