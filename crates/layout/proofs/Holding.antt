-- Images of given codes: what is read of them, and what a write leaves.
use Rattle.std.proofs.Common.{◌≡◌, ℕ, ◌+◌, ◌*◌, ◌/◌, ◌%◌, ◌^◌, ◌<◌, ◌≤◌, true, List, length, Some, None, Option, sym, refl, ap, ◌∙◌, ⊎_elim, mod-eq_of_lt, div-one, arith}
use Rattle.std.proofs.lemmas.List.{get_or_past}
use Rattle.std.proofs.lemmas.Bool.{cases_lt}
use Rattle.image.specs.Bits.{bit_of, number, bit, image_of}
use Rattle.image.proofs.Numbers.{number_ext, number_bits}
use Rattle.image.proofs.Images.{image_of_ext, bit_image_of, length_image_of}
use Rattle.samples.specs.declared.site.Site.{Site}
use Rattle.samples.specs.Shapes.{has}
use Rattle.layout.specs.Meaning.{Meaning, Lawful, width}
use Rattle.layout.specs.Images.{code_of, bit_held, holding, wiped, bit_new, bit_written, rewritten}
use Rattle.layout.proofs.Writing.{rewritten_length}

-- the code that a site gets, or else its old one
abbrev pub or_old : Option ℕ → ℕ → ℕ
or_old (Some v) old = v
or_old None old = old

-- a code is the number of its bits
number_whole : (n v : ℕ) → v < 2 ^ n → number n (λ k. bit_of v (0 + k)) ≡ v
number_whole n v h = number_bits n v 0 ∙ ap (λ z. z % 2 ^ n) (div-one v) ∙ mod-eq_of_lt h

-- past its end an image has no bit set, so two images of one length agree there
pub bits_past : (a b : List ℕ) (k : ℕ) → 8 * length a ≤ k → 8 * length b ≤ k → bit a k ≡ bit b k
bits_past a b k p q = ap (λ z. bit_of z (k % 8)) (get_or_past a (k / 8) 0 (omega arith) ∙ sym (get_or_past b (k / 8) 0 (omega arith)))

module _ (m : Meaning) (laws : Lawful m) where
  -- what is read of an image of codes
  pub code_holding : (codes : Site → ℕ) (s : Site) → has m.shape s ≡ true → codes s < 2 ^ width m → code_of m (holding m codes) s ≡ codes s
  code_holding codes s there fits =
      number_ext (width m) (λ k. bit (holding m codes) (m.start s + k)) (λ k. bit_of (codes s) (0 + k))
      (λ k h.
      bit_image_of m.size (λ b. bit_held m codes b (m.owner b)) (m.start s + k) (omega (arith, laws.within s there))
      ∙ ap (bit_held m codes (m.start s + k)) (laws.owned s there k h)
      ∙ ap (bit_of (codes s)) (omega arith))
      ∙ number_whole (width m) (codes s) fits

  -- codes written at every site of a wiped image make the image that holds them
  pub rewritten_wiped : (codes : Site → ℕ) → rewritten m (λ s. Some (codes s)) (wiped m) ≡ holding m codes
  rewritten_wiped codes =
      let new : Site → Option ℕ = λ s. Some (codes s) in
      ap (λ z. image_of z (λ b. bit_written m new (wiped m) b (m.owner b))) (length_image_of m.size m.fixed)
      ∙ image_of_ext m.size (λ b. bit_written m new (wiped m) b (m.owner b)) (λ b. bit_held m codes b (m.owner b))
      (λ b l. at b (bit_image_of m.size m.fixed b l) (m.owner b))
    where
      at : (b : ℕ) → bit (wiped m) b ≡ m.fixed b → (o : Option Site) → bit_written m (λ s. Some (codes s)) (wiped m) b o ≡ bit_held m codes b o
      at b p None = p
      at b p (Some s) = refl

  -- ---- an image with some codes replaced
  module _ (new : Site → Option ℕ) (image : List ℕ) where
    pub code_rewritten : length image ≡ m.size → (s : Site) → has m.shape s ≡ true → ((v : ℕ) → new s ≡ Some v → v < 2 ^ width m) → code_of m (rewritten m new image) s ≡ or_old (new s) (code_of m image s)
    code_rewritten long s there fits = at (new s) refl fits
      where
        bit_is : (k : ℕ) → k < width m → bit (rewritten m new image) (m.start s + k) ≡ bit_new m image (m.start s + k) s (new s)
        bit_is k h =
            bit_image_of (length image) (λ b. bit_written m new image b (m.owner b)) (m.start s + k) (omega (arith, laws.within s there, long))
            ∙ ap (bit_written m new image (m.start s + k)) (laws.owned s there k h)

        at : (o : Option ℕ) → new s ≡ o → ((v : ℕ) → o ≡ Some v → v < 2 ^ width m) → code_of m (rewritten m new image) s ≡ or_old o (code_of m image s)
        at None e small =
            number_ext (width m) (λ k. bit (rewritten m new image) (m.start s + k)) (λ k. bit image (m.start s + k))
            (λ k h. bit_is k h ∙ ap (bit_new m image (m.start s + k) s) e)
        at (Some v) e small =
            number_ext (width m) (λ k. bit (rewritten m new image) (m.start s + k)) (λ k. bit_of v (0 + k))
            (λ k h. bit_is k h ∙ ap (bit_new m image (m.start s + k) s) e ∙ ap (bit_of v) (omega arith))
            ∙ number_whole (width m) v (small v refl)

    -- a bit that nobody owns stays
    pub bit_rewritten : (b : ℕ) → m.owner b ≡ None → bit (rewritten m new image) b ≡ bit image b
    bit_rewritten b e =
        ⊎_elim
        (λ (l : b < 8 * length image). bit_image_of (length image) (λ z. bit_written m new image z (m.owner z)) b l ∙ ap (bit_written m new image b) e)
        (λ (l : 8 * length image ≤ b). bits_past (rewritten m new image) image b (omega (arith, rewritten_length m new image)) l)
        (cases_lt b (8 * length image))

  -- a bit that nobody owns has its fixed value in an image of codes
  pub bit_holding : (codes : Site → ℕ) (b : ℕ) → b < 8 * m.size → m.owner b ≡ None → bit (holding m codes) b ≡ m.fixed b
  bit_holding codes b l e = bit_image_of m.size (λ z. bit_held m codes z (m.owner z)) b l ∙ ap (bit_held m codes b) e
