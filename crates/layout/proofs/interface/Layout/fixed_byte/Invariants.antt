use Rattle.std.proofs.Common.{◌≡◌, ◌+◌, ◌*◌}
use Rattle.image.specs.Bits.{number}
use Rattle.layout.proofs.interface.Layout.fixed_byte.Given as goal

abbrev pub invariant-loop-k : goal.invariant-loop-k
invariant-loop-k g l = l.byte ≡ number l.k (λ k. (g.Self.Layout.meaning l.self).fixed (8 * l.at + k))
