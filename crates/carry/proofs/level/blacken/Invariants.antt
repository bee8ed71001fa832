use Rattle.std.proofs.Common.{◌≡◌, ◌<◌, Ok}
use Rattle.layout.specs.Tests.{line_answer}
use Rattle.carry.specs.Levels.{written_to}
use Rattle.carry.proofs.level.blacken.Given as goal

abbrev pub invariant-loop-line : goal.invariant-loop-line
invariant-loop-line g l =
    (l.image ≡ written_to (g.L.Layout.meaning l.layout) l.codes l.initial.image l.line)
    × (0 < l.line → line_answer (g.L.Layout.meaning l.layout) l.initial.image 0 l.codes ≡ Ok tt)
