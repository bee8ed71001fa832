-- The six types of packing.
use Rattle.std.specs.Prelude.{◌≡◌, ℕ, ◌+◌, ◌*◌, ◌/◌, ◌<◌, Bool, true, false, [], ◌∷◌, ◌==◌}
use Rattle.std.proofs.Common.{arith}
use Rattle.samples.specs.declared.bounds.Bits.{Bits}
use Rattle.samples.specs.declared.component.Component.{Component}
use Rattle.samples.specs.declared.shape.Chroma.TheVariants.{Half, Full}
use Rattle.formats.specs.declared.kind.Kind.{Kind}
use Rattle.formats.specs.declared.kind.Kind.TheVariants.{TwoVuy, V308, V408, V216, V410, V210}
use Rattle.formats.specs.Packing.{Packing, runs, start_in}
use Rattle.formats.specs.Wide.{v216_width, v216_starts}

abbrev pub eight : Bits
eight = record { count = 8; low = omega arith; high = omega arith }

abbrev pub ten : Bits
ten = record { count = 10; low = omega arith; high = omega arith }

abbrev pub plain_row : ℕ → ℕ → ℕ → ℕ
plain_row px bytes w = w * bytes / px

-- Y' 8, 24; Cb 0; Cr 16
abbrev pub p_2vuy : Packing
p_2vuy = record { pixels = 2; bytes = 4; depth = 24; chroma = Half; alpha = false; bits = eight; starts = 8 ∷ 24 ∷ 0 ∷ 16 ∷ []; row = plain_row 2 4 }

-- Y' 8; Cb 16; Cr 0
abbrev pub p_v308 : Packing
p_v308 = record { pixels = 1; bytes = 3; depth = 24; chroma = Full; alpha = false; bits = eight; starts = 8 ∷ 16 ∷ 0 ∷ []; row = plain_row 1 3 }

-- Y' 8; Cb 0; Cr 16; A 24
abbrev pub p_v408 : Packing
p_v408 = record { pixels = 1; bytes = 4; depth = 32; chroma = Full; alpha = true; bits = eight; starts = 8 ∷ 0 ∷ 16 ∷ 24 ∷ []; row = plain_row 1 4 }

-- each code at the top of a word of 16 bits
abbrev pub p_v216 : Bits → Packing
p_v216 n = record { pixels = 2; bytes = 8; depth = 24; chroma = Half; alpha = false; bits = n; starts = v216_starts n.count; row = plain_row 2 8 }

-- Y' 12; Cb 2; Cr 22
abbrev pub p_v410 : Packing
p_v410 = record { pixels = 1; bytes = 4; depth = 24; chroma = Full; alpha = false; bits = ten; starts = 12 ∷ 2 ∷ 22 ∷ []; row = plain_row 1 4 }

-- rows end at a boundary of 48 pixels
abbrev pub v210_row : ℕ → ℕ
v210_row w = 128 * ((w + 47) / 48)

-- Y' 10, 32, 52, 74, 96, 116; Cb 0, 42, 84; Cr 20, 64, 106
abbrev pub p_v210 : Packing
p_v210 = record {
  pixels = 6;
  bytes = 16;
  depth = 24;
  chroma = Half;
  alpha = false;
  bits = ten;
  starts = 10 ∷ 32 ∷ 52 ∷ 74 ∷ 96 ∷ 116 ∷ 0 ∷ 42 ∷ 84 ∷ 20 ∷ 64 ∷ 106 ∷ [];
  row = v210_row;
}

-- the packing of a type that is known only as the program runs; n counts in v216 alone
abbrev pub packing_of : Kind → Bits → Packing
packing_of TwoVuy n = p_2vuy
packing_of V308 n = p_v308
packing_of V408 n = p_v408
packing_of V216 n = p_v216 n
packing_of V410 n = p_v410
packing_of V210 n = p_v210

-- the widths of codes that a type takes
abbrev pub takes : Kind → ℕ → Bool
takes TwoVuy n = n == 8
takes V308 n = n == 8
takes V408 n = n == 8
takes V216 n = v216_width n
takes V410 n = n == 10
takes V210 n = n == 10

-- two runs of a group that share a bit are one run
abbrev pub RunsApart : Packing → Type 0
RunsApart p =
    (k l : Component) (i j a b : ℕ) → i < runs p k → j < runs p l → a < p.bits.count → b < p.bits.count
    → start_in p k i + a ≡ start_in p l j + b → (k ≡ l) × (i ≡ j)

-- in a group of any of the six packings
abbrev pub SlotsDisjoint : Type 0
SlotsDisjoint = (k : Kind) (n : Bits) → takes k n.count ≡ true → RunsApart (packing_of k n)
