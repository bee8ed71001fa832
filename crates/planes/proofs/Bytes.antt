-- The bytes of a word with no code.
use Rattle.std.proofs.Common.{◌≡◌, ℕ, ◌+◌, ◌*◌, ◌/◌, ◌%◌, ◌^◌, ◌<◌, Bool, false, ◌≢◌, Some, None, Option, ap, ◌∙◌, arith, lit<}
use Rattle.samples.specs.declared.component.Component.{Component}
use Rattle.samples.specs.declared.component.Component.TheVariants.{Luma, Cb, Cr, Alpha}
use Rattle.samples.specs.declared.shape.Shape.{Shape}
use Rattle.image.specs.Bits.{bit_of, number}
use Rattle.image.proofs.Numbers.{number_ext, number_bits}
use Rattle.planes.specs.Words.{plane_of, blank_of, plane_words}
use Rattle.planes.specs.Blanks.{low_blank}

blank_small : (o : Option Component) → blank_of o < 2 ^ 32
blank_small None = lit< tt
blank_small (Some Luma) = lit< tt
blank_small (Some Cb) = lit< tt
blank_small (Some Cr) = lit< tt
blank_small (Some Alpha) = lit< tt

module _ (t : Shape) (at : ℕ) where
  abbrev bits : ℕ → Bool
  bits k = (plane_words t).fixed (8 * at + k)

  pub early_byte : at % 4 ≢ 3 → number 8 bits ≡ 0
  unfolding number
  early_byte h =
      number_ext 8 bits (λ _. false)
      (λ k l. low_blank (plane_of t ((8 * at + k) / 32)) ((8 * at + k) % 32) (omega arith))

  pub last_byte : at % 4 ≡ 3 → number 8 bits ≡ blank_of (plane_of t (at / 4)) / 2 ^ 24
  last_byte h =
      let w : ℕ = blank_of (plane_of t (at / 4)) in
      number_ext 8 bits (λ k. bit_of w (24 + k))
      (λ k l.
      let word : (8 * at + k) / 32 ≡ at / 4 = omega arith in
      let bit : (8 * at + k) % 32 ≡ 24 + k = omega arith in
      ap (λ q. bit_of (blank_of (plane_of t q)) ((8 * at + k) % 32)) word ∙ ap (bit_of w) bit)
      ∙ number_bits 8 w 24
      ∙ omega (arith, blank_small (plane_of t (at / 4)))
