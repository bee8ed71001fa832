use Rattle.std.proofs.Common.{◌≡◌, ℕ, ◌+◌, ◌*◌, ◌^◌, ◌<◌, true, sym, ap, ◌∙◌, arith}
use Rattle.samples.specs.declared.shape.Shape.{Shape}
use Rattle.samples.specs.declared.site.Site.{Site}
use Rattle.samples.specs.Shapes.{has, columns}
use Rattle.planes.specs.Words.{offset, word_start}
use Rattle.planes.proofs.Running.{start_fits}
use Rattle.planes.proofs.interface.PlanesLayout.locate.Goals as goal

-- the figures that were asked for make a start that fits
fits : (t : Shape) (s : Site) (o w : ℕ) → has t s ≡ true → o ≡ offset t s.component → w ≡ columns t s.component → 32 * (o + (s.line.0 * w + s.column)) < 2 ^ 32
fits t s o w there p q =
    let meant : 32 * (o + (s.line.0 * w + s.column)) ≡ word_start t s =
    ap (λ z. 32 * (z + (s.line.0 * w + s.column))) p ∙ ap (λ z. 32 * (offset t s.component + (s.line.0 * z + s.column))) q in
    omega (arith, meant, start_fits t s there)

pub overflow_add-result-2 : goal.overflow_add-result-2
overflow_add-result-2 c =
    omega (arith, fits c.args.self.now.shape c.args.site _ _ (sym c.has.ensures ∙ c.if-not-has.false) c.before-2.ensures c.columns-width.ensures)

pub overflow_mul-result-2 : goal.overflow_mul-result-2
overflow_mul-result-2 c =
    omega (arith, fits c.args.self.now.shape c.args.site _ _ (sym c.has.ensures ∙ c.if-not-has.false) c.before-2.ensures c.columns-width.ensures)
