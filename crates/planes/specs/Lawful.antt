-- Plane words are lawful.
use Rattle.std.specs.Prelude.{◌≡◌, ℕ, ◌+◌, ◌-◌, ◌*◌, ◌/◌, ◌%◌, ◌<◌, ◌≤◌, Bool, true, false, cond, Some, None, Option, nat_lt, refl}
use Rattle.std.proofs.Common.{◌∙◌}
use Rattle.std.proofs.Math.Path.{ap, subst}
use Rattle.std.proofs.Math.Nat.{mul_comm}
use native.Mathlib.Omega.{arith}
use Rattle.std.proofs.Math.Arith.{digits_div, digits_mod, digits_lt}
use Rattle.std.proofs.lemmas.Nat.{div_below, mod_below, div-add-mod'}
use Rattle.std.proofs.lemmas.Bool.{lt-ltb, ltb-true}
use Rattle.samples.specs.declared.component.Component.{Component}
use Rattle.samples.specs.declared.shape.Shape.{Shape}
use Rattle.samples.specs.declared.site.Site.{Site}
use Rattle.samples.specs.Shapes.{columns, has}
use Rattle.samples.specs.Lines.{site_of}
use Rattle.image.specs.Bits.{bit_of}
use Rattle.layout.specs.Meaning.{Lawful}
use Rattle.layout.proofs.Sites.{has_parts, has_from}
use Rattle.layout.proofs.Following.{unowned}
use Rattle.planes.specs.Words.{plane, offset, words, plane_of, word_start, site_in, word_owner, blank_of, plane_words}
use Rattle.planes.specs.Blanks.{bit_zero, low_blank}
use Rattle.planes.specs.Parts.{here, holds, none_past, fit_all, words_le, in_part}

if_some : (b : Bool) (o : Option Site) (x : Site) → cond b o None ≡ Some x → (b ≡ true) × (o ≡ Some x)
if_some true o x e = (refl, e)
if_some false o x e = let z : ◌≡◌ {A = ℕ} 0 1 = cc in absurd (omega arith)

module _ (t : Shape) where
  -- ---- from a site to its word
  module _ (s : Site) (there : has t s ≡ true) where
    index : ℕ
    index = s.line.0 * columns t s.component + s.column

    in_columns : s.column < columns t s.component
    in_columns = (has_parts t s there).0

    in_plane : index < plane t s.component
    unfolding index
    in_plane = omega (arith, digits_lt (has_parts t s there).1 in_columns, mul_comm t.size.height (columns t s.component))

    within_words : word_start t s + t.bits.count ≤ 8 * (4 * words t)
    unfolding index
    within_words = omega (arith, in_plane, fit_all t s.component, t.bits.high)

    owned_word : (k : ℕ) → k < t.bits.count → word_owner t (word_start t s + k) ≡ Some s
    unfolding index
    owned_word k l =
        let n : ℕ = t.bits.count in
        let q : ℕ = offset t s.component + index in
        let b : ℕ = word_start t s + k in
        let w : ℕ = columns t s.component in
        let word : b / 32 ≡ q = omega (arith, t.bits.high) in
        let bit : b % 32 ≡ k = omega (arith, t.bits.high) in
        let back : q - offset t s.component ≡ index = omega arith in
        ap (λ (i : ℕ). cond (nat_lt i n) (site_in t (b / 32) (plane_of t (b / 32))) None) bit
        ∙ ap (λ (i : ℕ). cond (nat_lt k n) (site_in t i (plane_of t i)) None) word
        ∙ ap (λ (z : Bool). cond z (site_in t q (plane_of t q)) None) (lt-ltb k n l)
        ∙ ap (site_in t q) (here t s.component index in_plane)
        ∙ ap (λ (i : ℕ). Some (site_of s.component (i % w) (i / w))) back
        ∙ ap (λ (i : ℕ). Some (site_of s.component i (index / w))) (digits_mod s.line.0 in_columns)
        ∙ ap (λ (i : ℕ). Some (site_of s.component s.column i)) (digits_div s.line.0 in_columns)

  -- ---- from a bit to its site
  module _ (b : ℕ) where
    Holds : Site → Type 0
    Holds s = (has t s ≡ true) × (word_start t s ≤ b) × (b < word_start t s + t.bits.count)

    held_in : (o : Option Component) (s : Site) → b % 32 < t.bits.count → plane_of t (b / 32) ≡ o → site_in t (b / 32) o ≡ Some s → Holds s
    unfolding Holds
    held_in None s l e d = let z : ◌≡◌ {A = ℕ} 0 1 = cc in absurd (omega arith)
    held_in (Some c) s l e d =
        let i : ℕ = b / 32 - offset t c in
        let w : ℕ = columns t c in
        let y : Site = site_of c (i % w) (i / w) in
        let same : y ≡ s = cc in
        let h = holds t c (b / 32) e in
        let below : i < t.size.height * w = omega (arith, h.0, h.1, mul_comm w t.size.height) in
        let some : 0 < w = (in_part t (b / 32) c e).1 in
        let whole : i / w * w + i % w ≡ i = div-add-mod' i w in
        subst Holds same (
          has_from t y (mod_below i w some) (div_below i w t.size.height some below),
          omega (arith, whole, h.0),
          omega (arith, whole, h.0, l),
        )

    parts : (s : Site) → word_owner t b ≡ Some s → (nat_lt (b % 32) t.bits.count ≡ true) × (site_in t (b / 32) (plane_of t (b / 32)) ≡ Some s)
    parts s e = if_some (nat_lt (b % 32) t.bits.count) (site_in t (b / 32) (plane_of t (b / 32))) s e

    held_word : (s : Site) → word_owner t b ≡ Some s → Holds s
    held_word s e = held_in (plane_of t (b / 32)) s (ltb-true _ _ (parts s e).0) refl (parts s e).1

    unfixed_word : (s : Site) → word_owner t b ≡ Some s → bit_of (blank_of (plane_of t (b / 32))) (b % 32) ≡ false
    unfixed_word s e =
        low_blank (plane_of t (b / 32)) (b % 32) (omega (arith, ltb-true _ _ (parts s e).0, t.bits.high))

    unfixed_past : 8 * (4 * words t) ≤ b → bit_of (blank_of (plane_of t (b / 32))) (b % 32) ≡ false
    unfixed_past l =
        ap (λ o. bit_of (blank_of o) (b % 32)) (none_past t (b / 32) (omega arith)) ∙ bit_zero (b % 32)

  pub planes_lawful : Lawful (plane_words t)
  unfolding Holds
  planes_lawful = record {
    small = omega (arith, words_le t);
    within = within_words;
    owned = owned_word;
    held = held_word;
    unfixed = unfixed_word;
    outside = λ b l. (unowned (plane_words t) within_words held_word b l, unfixed_past b l);
  }
