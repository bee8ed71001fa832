use Rattle.std.proofs.Common.{◌≡◌, ℕ, ◌<◌, get_or}
use Rattle.layout.specs.Images.{rest_at}
use Rattle.frame.proofs.blank.rest_line.Given as goal

abbrev pub invariant-loop-i : goal.invariant-loop-i
invariant-loop-i l = (k : ℕ) → k < l.i → get_or l.codes k 0 ≡ rest_at l.shape k
