use Rattle.std.proofs.Common.{◌≡◌}
use Rattle.layout.specs.Images.{rewritten, filled_row}
use Rattle.layout.proofs.Filling.{filled_rows}
use Rattle.frame.proofs.fill.fill_component.Given as goal

abbrev pub invariant-loop-line : goal.invariant-loop-line
invariant-loop-line g l =
    l.image ≡ rewritten (g.L.Layout.meaning l.layout) (filled_rows l.component l.code l.line) l.initial.image

abbrev pub invariant-loop-column : goal.invariant-loop-column
invariant-loop-column g l =
    l.image ≡ rewritten (g.L.Layout.meaning l.layout) (filled_row l.component l.code l.line l.column) l.initial.image
