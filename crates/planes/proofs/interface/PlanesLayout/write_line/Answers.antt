use Rattle.std.proofs.Common.{◌≡◌, length, Ok, Err, sym, refl, ◌∙◌, rules}
use Rattle.samples.specs.declared.component.Component.TheVariants.{Luma, Cb, Cr, Alpha}
use Rattle.layout.proofs.Parts.{parts_written}
use Rattle.layout.proofs.Testing.{told_passed, line_passed}
use Rattle.planes.specs.Words.{plane_words}
use Rattle.planes.specs.Lawful.{planes_lawful}
use Rattle.planes.proofs.Judged.{written_judged}
use Rattle.planes.proofs.interface.PlanesLayout.write_line.Goals as goal

pub returns-clause-image : goal.returns-clause-image
returns-clause-image c =
    let t = c.args.self.now.shape in
    let m = plane_words t in
    let image = c.args.image.now in
    let line = c.args.line.0 in
    let codes = c.args.codes.now in
    let one = c.write_plane.new.image in
    let two = c.write_plane-2.new.image in
    let three = c.write_plane-3.new.image in
    let p = told_passed m (length image) line (length codes) _ _ c.length.ensures.value refl (sym c.judge_line.ensures ∙ c.in_ok-judge_line.was) in
    let kept : length one ≡ length image = search rules in
    let kept-2 : length two ≡ length image = search rules in
    let kept-3 : length three ≡ length image = search rules in
    parts_written m (planes_lawful t) image line codes one two three _ (line_passed m image Err (Ok tt) line (length codes) p.long p.low p.count)
    (c.write_plane.ensures ∙ written_judged m image line Luma codes p.long p.low p.count)
    (c.write_plane-2.ensures ∙ written_judged m one line Cb codes (kept ∙ p.long) p.low p.count)
    (c.write_plane-3.ensures ∙ written_judged m two line Cr codes (kept-2 ∙ p.long) p.low p.count)
    (c.write_plane-4.ensures ∙ written_judged m three line Alpha codes (kept-3 ∙ p.long) p.low p.count)
