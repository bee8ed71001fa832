-- A packing whose type is known only as the program runs.
use Rattle.std.specs.Prelude.{ℕ, cond, List, Ok, Err, Result}
use Rattle.samples.specs.declared.fault.Fault.{Fault}
use Rattle.samples.specs.declared.fault.Rule.TheVariants.{Content}
use Rattle.samples.specs.Bounds.{size_tests}
use Rattle.samples.specs.Faults.{refusal}
use Rattle.layout.specs.Meaning.{Meaning}
use Rattle.formats.specs.declared.kind.Kind.{Kind}
use Rattle.formats.specs.declared.kind.Kind.TheVariants as kind
use Rattle.formats.specs.Formats.{takes, p_2vuy, p_v308, p_v408, p_v216, p_v410, p_v210}
use Rattle.formats.specs.Names.{kind_named}
use Rattle.packing.specs.Packed.{packed}
use Rattle.anypacking.specs.declared.packings.AnyPacking.{AnyPacking}
use Rattle.anypacking.specs.declared.packings.AnyPacking.TheVariants.{TwoVuy, V308, V408, V216, V410, V210}

abbrev pub packing_meaning : AnyPacking → Meaning
packing_meaning (TwoVuy p) = packed p_2vuy p.size
packing_meaning (V308 p) = packed p_v308 p.size
packing_meaning (V408 p) = packed p_v408 p.size
packing_meaning (V216 p) = packed (p_v216 p.format.bits) p.size
packing_meaning (V410 p) = packed p_v410 p.size
packing_meaning (V210 p) = packed p_v210 p.size

abbrev pub kind_of : AnyPacking → Kind
kind_of (TwoVuy p) = kind.TwoVuy
kind_of (V308 p) = kind.V308
kind_of (V408 p) = kind.V408
kind_of (V216 p) = kind.V216
kind_of (V410 p) = kind.V410
kind_of (V210 p) = kind.V210

abbrev pub row_bytes_of : AnyPacking → ℕ
row_bytes_of (TwoVuy p) = p_2vuy.row p.size.width
row_bytes_of (V308 p) = p_v308.row p.size.width
row_bytes_of (V408 p) = p_v408.row p.size.width
row_bytes_of (V216 p) = (p_v216 p.format.bits).row p.size.width
row_bytes_of (V410 p) = p_v410.row p.size.width
row_bytes_of (V210 p) = p_v210.row p.size.width

-- a packing has no more to it than these
pub record PlainPacking : Type 0 where
  pub kind : Kind
  pub width : ℕ
  pub height : ℕ
  pub bits : ℕ

abbrev pub plain : AnyPacking → PlainPacking
plain x = record {
  kind = kind_of x;
  width = (packing_meaning x).shape.size.width;
  height = (packing_meaning x).shape.size.height;
  bits = (packing_meaning x).shape.bits.count;
}

abbrev pub plain_packing : Result AnyPacking Fault → Result PlainPacking Fault
plain_packing (Ok x) = Ok (plain x)
plain_packing (Err f) = Err f

-- 4 for the width or the height, then 9 for the width of codes
abbrev pub packing_made : Kind → ℕ → ℕ → ℕ → Result PlainPacking Fault
packing_made k w h n =
    size_tests w h Err (cond (takes k n) (Ok (record { kind = k; width = w; height = h; bits = n })) (Err (refusal Content 0)))

abbrev pub of_kind : Result Kind Fault → ℕ → ℕ → ℕ → Result PlainPacking Fault
of_kind (Ok k) w h n = packing_made k w h n
of_kind (Err f) w h n = Err f

-- 2 for the letters first
abbrev pub packing_named : List ℕ → ℕ → ℕ → ℕ → Result PlainPacking Fault
packing_named letters w h n = of_kind (kind_named letters) w h n
