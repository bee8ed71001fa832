use Rattle.std.proofs.Common.{◌∙◌, ap}
use Rattle.layout.specs.Tests.{line_written}
use Rattle.order.proofs.Handing.{written_handed}
use Rattle.order.proofs.layer.OrderedLayout.write_line.Goals as goal

pub returns-clause-image : goal.returns-clause-image
returns-clause-image g c =
    let x = c.args.self.now in
    let m = g.L.Layout.meaning x.below in
    let image = c.args.image.now in
    let codes = c.args.codes.now in
    c.write_line.ensures.image
    ∙ ap (λ z. line_written m image z.0 codes) c.line_below-under.ensures
    ∙ written_handed x.order m (g.met.L.Layout.lawful x.below) image codes c.args.line
