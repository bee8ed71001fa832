use Rattle.std.proofs.Common.{◌≡◌, length, Ok, Err, sym, ap, ◌∙◌, rules}
use Rattle.layout.specs.Tests.{line_answer, judged}
use Rattle.layout.proofs.Parts.{parts_written}
use Rattle.layout.proofs.interface.Layout.write_line.Goals as goal

pub returns : goal.returns
returns g c =
    let x = c.args.self.now in
    let m = g.Self.Layout.meaning x in
    let image = c.args.image.now in
    let line = c.args.line.0 in
    let codes = c.args.codes.now in
    let ok : line_answer m image line codes ≡ Ok tt = sym c.write_part.ensures.answer ∙ c.in_ok-write_part.was in
    let kept : length c.write_part-3.new.image ≡ length image = search rules in
    record {
      answer = c.write_part-4.ensures.answer ∙ ap (λ n. judged n m.size m.shape line (length codes) Err (Ok tt)) kept;
      image =
          parts_written m (g.met.Self.Layout.lawful x) image line codes _ _ _ _ ok c.write_part.ensures.image c.write_part-2.ensures.image c.write_part-3.ensures.image c.write_part-4.ensures.image;
    }
