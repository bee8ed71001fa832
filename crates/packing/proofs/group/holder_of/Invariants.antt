use Rattle.std.proofs.Common.{◌≡◌, ℕ, ◌<◌, false, slice_index}
use Rattle.formats.specs.Packing.{covers}
use Rattle.packing.proofs.group.holder_of.Given as goal

abbrev pub invariant-loop-number : goal.invariant-loop-number
invariant-loop-number g l =
    (k : ℕ) → k < l.number → covers l.bits l.bit (slice_index (g.F.Format.packing l.format).starts k) ≡ false
