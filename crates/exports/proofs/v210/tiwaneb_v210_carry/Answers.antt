use Rattle.std.proofs.Common.{◌≡◌, ap}
use Rattle.formats.specs.Formats.{p_v210}
use Rattle.packing.specs.Packed.{packed}
use Rattle.exports.specs.Frames.{lines_carried, image_carried, codes_carried}
use Rattle.exports.proofs.Sizing.{at_size}
use Rattle.exports.proofs.v210.tiwaneb_v210_carry.Goals as goal

pub returns : goal.returns
returns c =
    let w = c.args.width in
    let h = c.args.height in
    let size = c.in-Ok.size in
    let used = c.new-2.result.size in
    let codes = c.args.codes.now in
    let image = c.args.image.now in
    let back = c.args.back.now in
    let made = c.in-Ok.ensures in
    let same : used ≡ size = ap (λ p. p.size) c.new-2.ensures in
    record {
      answer = at_size w h (λ z. lines_carried (packed p_v210 z) codes image back) 0 c.carry_picture.result size used made same c.carry_picture.ensures.answer;
      image = at_size w h (λ z. image_carried (packed p_v210 z) codes image back) image c.carry_picture.new.image size used made same c.carry_picture.ensures.image;
      codes = at_size w h (λ z. codes_carried (packed p_v210 z) codes image back) back c.carry_picture.new.back size used made same c.carry_picture.ensures.codes;
    }
