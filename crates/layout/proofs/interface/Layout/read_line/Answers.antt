use Rattle.std.proofs.Common.{◌≡◌, length, Ok, Err, sym, ap, ◌∙◌, rules}
use Rattle.layout.specs.Tests.{line_answer, line_tests}
use Rattle.layout.proofs.Reading.{parts_read}
use Rattle.layout.proofs.interface.Layout.read_line.Goals as goal

pub returns : goal.returns
returns g c =
    let m = g.Self.Layout.meaning c.args.self.now in
    let image = c.args.image.now in
    let line = c.args.line.0 in
    let codes = c.args.codes.now in
    let ok : line_answer m image line codes ≡ Ok tt = sym c.read_part.ensures.answer ∙ c.in_ok-read_part.was in
    let kept : length c.read_part-3.new.codes ≡ length codes = search rules in
    record {
      answer = c.read_part-4.ensures.answer ∙ ap (λ n. line_tests m image line n Err (Ok tt)) kept;
      codes =
          parts_read m image line codes _ _ _ _ ok c.read_part.ensures.codes c.read_part-2.ensures.codes c.read_part-3.ensures.codes c.read_part-4.ensures.codes;
    }
