use Rattle.std.proofs.Common.{◌≡◌, length, Ok, Err, sym, refl, ◌∙◌, rules}
use Rattle.samples.specs.declared.component.Component.TheVariants.{Luma, Cb, Cr, Alpha}
use Rattle.samples.specs.Lines.{line_count}
use Rattle.layout.proofs.Reading.{parts_read}
use Rattle.layout.proofs.Testing.{told_passed, line_passed}
use Rattle.planes.specs.Words.{plane_words}
use Rattle.planes.proofs.Judged.{read_judged}
use Rattle.planes.proofs.interface.PlanesLayout.read_line.Goals as goal

pub returns-clause-codes : goal.returns-clause-codes
returns-clause-codes c =
    let m = plane_words c.args.self.now.shape in
    let image = c.args.image.now in
    let line = c.args.line.0 in
    let codes = c.args.codes.now in
    let one = c.read_plane.new.codes in
    let two = c.read_plane-2.new.codes in
    let three = c.read_plane-3.new.codes in
    let p = told_passed m (length image) line (length codes) _ _ c.length.ensures.value refl (sym c.judge_line.ensures ∙ c.in_ok-judge_line.was) in
    let kept : length one ≡ line_count m.shape = search rules in
    let kept-2 : length two ≡ line_count m.shape = search rules in
    let kept-3 : length three ≡ line_count m.shape = search rules in
    parts_read m image line codes one two three _ (line_passed m image Err (Ok tt) line (length codes) p.long p.low p.count)
    (c.read_plane.ensures ∙ read_judged m image line Luma codes p.long p.low p.count)
    (c.read_plane-2.ensures ∙ read_judged m image line Cb one p.long p.low kept)
    (c.read_plane-3.ensures ∙ read_judged m image line Cr two p.long p.low kept-2)
    (c.read_plane-4.ensures ∙ read_judged m image line Alpha three p.long p.low kept-3)
