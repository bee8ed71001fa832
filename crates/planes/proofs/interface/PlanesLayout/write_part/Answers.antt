use Rattle.std.proofs.Common.{length, sym, refl, ap, ◌∙◌}
use Rattle.layout.specs.Tests.{part_written}
use Rattle.layout.proofs.Testing.{told_passed}
use Rattle.planes.specs.Words.{plane_words}
use Rattle.planes.proofs.Judged.{written_judged}
use Rattle.planes.proofs.interface.PlanesLayout.write_part.Goals as goal

pub returns-clause-image : goal.returns-clause-image
returns-clause-image g c =
    let m = plane_words c.args.self.now.shape in
    let image = c.args.image.now in
    let line = c.args.line.0 in
    let codes = c.args.codes.now in
    let p = told_passed m (length image) line (length codes) _ _ c.length.ensures.value refl (sym c.judge_line.ensures ∙ c.in_ok-judge_line.was) in
    c.write_plane.ensures
    ∙ written_judged m image line c.component.result codes p.long p.low p.count
    ∙ ap (λ k. part_written m image line k codes) c.component.ensures
