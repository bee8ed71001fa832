use Rattle.std.proofs.Common.{arith}
use Rattle.std.proofs.lemmas.List.FromFn.{fill_by_all}
use Rattle.samples.specs.Lines.{line_count}
use Rattle.layout.specs.Images.{rest_at}
use Rattle.frame.proofs.blank.rest_line.Goals as goal

pub returns : goal.returns
returns c =
    let t = c.args.shape in
    fill_by_all (rest_at t) c.loop-i.codes (line_count t) 0 (omega (arith, c.requires)) (λ k h. c.loop-i.invariant k (omega (arith, c.requires)))
