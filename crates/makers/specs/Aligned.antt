-- The group of 2vuy, in rows that end at a boundary of 128 bytes.
use Rattle.std.specs.Prelude.{◌+◌, ◌*◌, ◌/◌, false, [], ◌∷◌, refl}
use Rattle.std.proofs.Common.{arith}
use Rattle.samples.specs.declared.shape.Chroma.TheVariants.{Half}
use Rattle.formats.specs.Packing.{Packing, Proper}
use Rattle.formats.specs.Formats.{eight}

-- Y' 8, 24; Cb 0; Cr 16
abbrev pub p_aligned : Packing
p_aligned = record { pixels = 2; bytes = 4; depth = 24; chroma = Half; alpha = false; bits = eight; starts = 8 ∷ 24 ∷ 0 ∷ 16 ∷ []; row = λ w. 128 * ((2 * w + 127) / 128) }

pub proper_aligned : Proper p_aligned
proper_aligned = record {
  some_pixels = omega arith;
  few_pixels = omega arith;
  pairs = refl;
  some_bytes = omega arith;
  few_bytes = omega arith;
  room = λ w e. omega arith;
  short = λ w h. omega arith;
  every = refl;
  disjoint = refl;
}
