use Rattle.std.proofs.Common.{◌≡◌, ℕ, ◌+◌, ◌*◌, ◌<◌, get_or}
use Rattle.image.specs.Bits.{number}
use Rattle.layout.proofs.interface.Layout.wipe.Given as goal

abbrev pub invariant-loop-i : goal.invariant-loop-i
invariant-loop-i g l = (k : ℕ) → k < l.i → get_or l.image k 0 ≡ number 8 (λ b. (g.Self.Layout.meaning l.self).fixed (8 * k + b))
