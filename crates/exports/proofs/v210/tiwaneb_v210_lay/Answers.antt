use Rattle.std.proofs.Common.{◌≡◌, ap}
use Rattle.formats.specs.Formats.{p_v210}
use Rattle.packing.specs.Packed.{packed}
use Rattle.exports.specs.Frames.{lines_laid, image_laid}
use Rattle.exports.proofs.Sizing.{at_size}
use Rattle.exports.proofs.v210.tiwaneb_v210_lay.Goals as goal

pub returns : goal.returns
returns c =
    let w = c.args.width in
    let h = c.args.height in
    let size = c.in-Ok.size in
    let used = c.new-2.result.size in
    let codes = c.args.codes.now in
    let image = c.args.image.now in
    let made = c.in-Ok.ensures in
    let same : used ≡ size = ap (λ p. p.size) c.new-2.ensures in
    record {
      answer = at_size w h (λ z. lines_laid (packed p_v210 z) codes image) 0 c.lay_picture.result size used made same c.lay_picture.ensures.answer;
      image = at_size w h (λ z. image_laid (packed p_v210 z) codes image) image c.lay_picture.new.image size used made same c.lay_picture.ensures.image;
    }
