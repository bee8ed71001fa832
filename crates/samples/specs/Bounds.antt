-- Which sizes and code widths are allowed.
use Rattle.std.specs.Prelude.{ℕ, ◌%◌, Bool, cond, ◌&&◌, Ok, Err, Result, ◌==◌, nat_le}
use Rattle.samples.specs.declared.bounds.Size.{Size}
use Rattle.samples.specs.declared.bounds.Bits.{Bits}
use Rattle.samples.specs.declared.fault.Fault.{Fault}
use Rattle.samples.specs.declared.fault.Rule.TheVariants as rule
use Rattle.samples.specs.Faults.{refusal}

abbrev pub width_allowed : ℕ → Bool
width_allowed w = w % 2 == 0 && (nat_le 2 w && nat_le w 4096)

abbrev pub height_allowed : ℕ → Bool
height_allowed h = nat_le 1 h && nat_le h 2304

abbrev pub bits_allowed : ℕ → Bool
bits_allowed n = nat_le 8 n && nat_le n 16

-- a size has no more to it than its two numbers, a code width no more than its count
pub record PlainSize : Type 0 where
  pub width : ℕ
  pub height : ℕ

abbrev pub plain_size : Result Size Fault → Result PlainSize Fault
plain_size (Ok s) = Ok (record { width = s.width; height = s.height })
plain_size (Err f) = Err f

abbrev pub plain_bits : Result Bits Fault → Result ℕ Fault
plain_bits (Ok n) = Ok n.count
plain_bits (Err f) = Err f

-- x where width and height are allowed, else refused by 4
abbrev pub size_tests : {X : Type 0} → ℕ → ℕ → (Fault → X) → X → X
size_tests w h refused x =
    cond (width_allowed w) (cond (height_allowed h) x (refused (refusal rule.Size 0))) (refused (refusal rule.Size 0))

-- x where the code width is allowed, else refused by 9
abbrev pub bits_tests : {X : Type 0} → ℕ → (Fault → X) → X → X
bits_tests n refused x = cond (bits_allowed n) x (refused (refusal rule.Content 0))

abbrev pub size_made : ℕ → ℕ → Result PlainSize Fault
size_made w h = size_tests w h Err (Ok (record { width = w; height = h }))

abbrev pub bits_made : ℕ → Result ℕ Fault
bits_made n = bits_tests n Err (Ok n)
