-- The bits of a word with no code.
use Rattle.std.specs.Prelude.{◌≡◌, ℕ, ◌*◌, ◌/◌, ◌%◌, ◌^◌, ◌<◌, false, Some, None, Option, nat_eq}
use Rattle.std.proofs.Common.{sym, ap, ◌∙◌, zero-add, arith}
use Rattle.std.proofs.lemmas.Nat.{shr_le}
use Rattle.samples.specs.declared.component.Component.{Component}
use Rattle.samples.specs.Components.{component_number}
use Rattle.image.specs.Bits.{bit_of}
use Rattle.image.proofs.Numbers.{bit_low}
use Rattle.planes.specs.Words.{blank_of}

pub bit_zero : (k : ℕ) → bit_of 0 k ≡ false
unfolding bit_of
bit_zero k = let none : 0 / 2 ^ k ≡ 0 = omega (arith, shr_le 0 k) in ap (λ n. nat_eq (n % 2) 1) none

-- below its top two bits it has none
pub low_blank : (o : Option Component) (k : ℕ) → k < 30 → bit_of (blank_of o) k ≡ false
low_blank None k h = bit_zero k
low_blank (Some c) k h =
    let kind : ℕ = component_number c in
    ap (λ n. bit_of n k) (sym (zero-add (kind * 2 ^ 30))) ∙ bit_low 0 kind 30 k h ∙ bit_zero k
