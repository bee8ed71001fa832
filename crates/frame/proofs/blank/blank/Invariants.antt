use Rattle.std.proofs.Common.{◌≡◌}
use Rattle.layout.specs.Images.{rewritten, wiped}
use Rattle.layout.proofs.Filling.{rested}
use Rattle.frame.proofs.blank.blank.Given as goal

abbrev pub invariant-loop-line : goal.invariant-loop-line
invariant-loop-line g l =
    let m = g.L.Layout.meaning l.layout in
    l.image ≡ rewritten m (rested m.shape l.line) (wiped m)
