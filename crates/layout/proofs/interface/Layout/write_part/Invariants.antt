use Rattle.std.proofs.Common.{◌≡◌}
use Rattle.layout.specs.Images.{rewritten}
use Rattle.layout.proofs.Parts.{part_below}
use Rattle.layout.proofs.interface.Layout.write_part.Given as goal

abbrev pub invariant-loop-column : goal.invariant-loop-column
invariant-loop-column g l =
    let m = g.Self.Layout.meaning l.self in
    l.image ≡ rewritten m (part_below m.shape l.line.0 l.component l.codes l.column) l.initial.image
