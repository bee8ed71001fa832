use Rattle.std.proofs.Common.{◌∙◌, arith}
use Rattle.std.proofs.lemmas.List.FromFn.{fill_by_all}
use Rattle.samples.specs.Lines.{site_of}
use Rattle.samples.specs.Shapes.{columns}
use Rattle.exports.specs.Frames.{Frame, code_taken}
use Rattle.exports.proofs.back.take_row.Goals as goal

pub returns : goal.returns
returns g c =
    let m = g.L.Layout.meaning c.args.frame.now.layout in
    let f : Frame = record { come = c.args.frame.now.come; image = c.args.image.now } in
    fill_by_all (λ x. code_taken m f (site_of c.args.component x c.args.line.0)) c.loop-column.row (columns m.shape c.args.component) 0 (c.loop-column.auto.row ∙ c.requires)
    (λ x h. c.loop-column.invariant x (omega (arith, c.requires)))
