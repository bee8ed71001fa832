use Rattle.std.proofs.Common.{sym, ap, ◌∙◌}
use Rattle.layout.specs.Tests.{line_written}
use Rattle.anylayout.specs.Layouts.{layout_meaning}
use Rattle.anylayout.proofs.layouts.AnyLayoutLayout.write_line.Goals as goal

pub returns-in-OrderedPacking-clause-image : goal.returns-in-OrderedPacking-clause-image
returns-in-OrderedPacking-clause-image c =
    c.write_line-in-OrderedPacking.ensures.image
    ∙ ap (λ x. line_written (layout_meaning x) c.args.image.now c.args.line.0 c.args.codes.now) (sym c.in-OrderedPacking.is)
