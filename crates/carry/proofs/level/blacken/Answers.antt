use Rattle.std.proofs.Common.{◌≡◌, Ok, sym, ap, ◌∙◌, add-one, arith}
use Rattle.std.proofs.lemmas.Bool.Decides.{nat_tests}
use Rattle.layout.specs.Tests.{line_answer, line_written}
use Rattle.carry.specs.Levels.{written_to}
use Rattle.carry.proofs.level.blacken.Goals as goal

-- one line more, which was not refused
pub loop-line-preserved : goal.loop-line-preserved
loop-line-preserved g c =
    let m = g.L.Layout.meaning c.args.layout.now in
    let line = c.loop-line.line in
    let codes = c.args.codes.now in
    let taken : line_answer m c.loop-line.image line codes ≡ Ok tt = sym c.write_line.ensures.answer ∙ c.in_ok-write_line.was in (
      c.write_line.ensures.image
          ∙ ap (λ v. line_written m v line codes) c.loop-line.invariant.0
          ∙ sym (ap (written_to m codes c.args.image.now) (add-one line)),
      λ _. grind (arith, nat_tests),
    )
