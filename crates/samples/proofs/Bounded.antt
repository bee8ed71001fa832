-- Sizes and code widths with equal numbers are equal: the facts in their types have one proof each.
use Rattle.std.proofs.Common.{◌≡◌, ◌%◌, ◌≤◌}
use mathlib.Core.HLevel.{is_prop→PathP}
use native.Mathlib.Nat.{ℕ_set}
use native.Mathlib.Bridge.{le_prop}
use Rattle.samples.specs.declared.bounds.Size.{Size}
use Rattle.samples.specs.declared.bounds.Bits.{Bits}

pub same_size : (a b : Size) → a.width ≡ b.width → a.height ≡ b.height → a ≡ b
same_size a b w h = λ i. record {
  width = w i;
  height = h i;
  even = is_prop→PathP (λ j. w j % 2 ≡ 0) (λ j. ℕ_set (w j % 2) 0) a.even b.even i;
  width_low = is_prop→PathP (λ j. 2 ≤ w j) (λ j. le_prop) a.width_low b.width_low i;
  width_high = is_prop→PathP (λ j. w j ≤ 4096) (λ j. le_prop) a.width_high b.width_high i;
  height_low = is_prop→PathP (λ j. 1 ≤ h j) (λ j. le_prop) a.height_low b.height_low i;
  height_high = is_prop→PathP (λ j. h j ≤ 2304) (λ j. le_prop) a.height_high b.height_high i;
}

pub same_bits : (a b : Bits) → a.count ≡ b.count → a ≡ b
same_bits a b n = λ i. record {
  count = n i;
  low = is_prop→PathP (λ j. 8 ≤ n j) (λ j. le_prop) a.low b.low i;
  high = is_prop→PathP (λ j. n j ≤ 16) (λ j. le_prop) a.high b.high i;
}
