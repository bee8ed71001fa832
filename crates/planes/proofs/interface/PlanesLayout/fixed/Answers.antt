use Rattle.std.proofs.Common.{◌%◌, refl, ap}
use Rattle.image.specs.Bits.{bit_of}
use Rattle.planes.proofs.interface.PlanesLayout.fixed.Goals as goal

pub returns : goal.returns
unfolding bit_of
returns c = record { value = ap (λ w. bit_of w (c.args.bit % 32)) c.blank.ensures; shaped = refl }
