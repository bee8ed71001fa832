use Rattle.std.proofs.Common.{◌≡◌, ap, ◌∙◌, rules}
use Rattle.exports.specs.Frames.{Frame, laid_frame, codes_back}
use Rattle.exports.proofs.picture.carry_picture.Goals as goal

pub returns-clause-codes : goal.returns-clause-codes
returns-clause-codes g c =
    let m = g.L.Layout.meaning c.args.layout in
    let laid : Frame = laid_frame m c.args.codes.now c.args.image.now in
    let frame = c.in-Some.frame in
    let image = c.laid.new.image in
    let layout_is : frame.layout ≡ c.args.layout = search rules in
    let come_is : frame.come ≡ laid.come = search rules in
    let image_is : image ≡ laid.image = search rules in
    let back : c.take_lines.new.back ≡ codes_back m laid =
    c.take_lines.ensures ∙ ap (λ x. codes_back (g.L.Layout.meaning x) (record { come = frame.come; image = image })) layout_is
    ∙ ap (λ z. codes_back m (record { come = z; image = image })) come_is ∙ ap (λ z. codes_back m (record { come = laid.come; image = z })) image_is in
    search rules
