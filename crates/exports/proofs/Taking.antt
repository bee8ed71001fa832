-- Codes taken back in the order of the lines.
use Rattle.std.proofs.Common.{◌≡◌, ℕ, zero, suc, ◌+◌, ◌-◌, ◌*◌, ◌/◌, ◌%◌, ◌<◌, ◌≤◌, List, [], ◌∷◌, length, get_or, sym, refl, ap, ◌∙◌, ⊎_elim, arith, rules, zero-add}
use borrow.Rule.Slice.PartMut.{put_mid}
use lib.Arith.{digits_div, digits_mod}
use Rattle.std.proofs.lemmas.Bool.{cases_lt}
use Rattle.std.proofs.lemmas.List.{places}
use Rattle.samples.specs.declared.component.Component.{Component}
use Rattle.samples.specs.declared.component.Component.TheVariants.{Luma, Cb, Cr, Alpha}
use Rattle.samples.specs.declared.shape.Shape.{Shape}
use Rattle.samples.specs.Lines.{first_of, line_count, component_at, site_of, site_at}
use Rattle.samples.specs.Shapes.{columns}
use Rattle.samples.proofs.Dividing.{part_here}

module _ (t : Shape) (l : ℕ) where
  -- the site of a component's code in a line
  pub site_here : (c : Component) (x : ℕ) → x < columns t c → site_of c x l ≡ site_at t l (first_of t c + x)
  site_here c x h =
      let i : ℕ = first_of t c + x in
      let here : component_at t i ≡ c = part_here (columns t) c x h in
      let left : i - first_of t c ≡ x = omega arith in
      sym (ap (λ z. site_of z (i - first_of t z) l) here ∙ ap (λ z. site_of c z l) left)

  -- the site of a line's code among those of all lines
  pub site_there : (i : ℕ) → i < line_count t → site_at t l i ≡ site_at t ((l * line_count t + i) / line_count t) ((l * line_count t + i) % line_count t)
  site_there i h =
      let k : ℕ = line_count t in
      sym (ap (λ z. site_at t z ((l * k + i) % k)) (digits_div l h) ∙ ap (λ z. site_at t l z) (digits_mod l h))

-- one part more of a list stands as f says
module _ (f : ℕ → ℕ) (xs ys : List ℕ) (a n : ℕ) (fits : a + n ≤ length xs) (long : length ys ≡ n) where
  below : (i : ℕ) → i < a → get_or (put_mid a n xs ys) i 0 ≡ get_or xs i 0
  below i h = search (rules, places)

  inside : (i : ℕ) → a ≤ i → i < a + n → get_or (put_mid a n xs ys) i 0 ≡ get_or ys (i - a) 0
  inside i p h = search (rules, places)

  pub part_filled : ((i : ℕ) → i < a → get_or xs i 0 ≡ f i) → ((x : ℕ) → x < n → get_or ys x 0 ≡ f (a + x)) → (i : ℕ) → i < a + n → get_or (put_mid a n xs ys) i 0 ≡ f i
  part_filled old new i h =
      ⊎_elim
      (λ (p : i < a). below i p ∙ old i p)
      (λ (p : a ≤ i). inside i p h ∙ new (i - a) (omega arith) ∙ ap f (omega arith))
      (cases_lt i a)

-- the codes of a component lie within the line
pub part_fits : (t : Shape) (c : Component) → first_of t c + columns t c ≤ line_count t
part_fits t Luma = omega arith
part_fits t Cb = omega arith
part_fits t Cr = omega arith
part_fits t Alpha = omega arith

-- how many codes of a line stand before those of component k
abbrev pub filled : Shape → ℕ → ℕ
filled t zero = 0
filled t (suc zero) = first_of t Cb
filled t (suc (suc zero)) = first_of t Cr
filled t (suc (suc (suc zero))) = first_of t Alpha
filled t (suc (suc (suc (suc k)))) = line_count t

abbrev pub all_four : List Component
all_four = Luma ∷ (Cb ∷ (Cr ∷ (Alpha ∷ [])))

pub filled_all : (t : Shape) (k : ℕ) → 4 ≤ k → filled t k ≡ line_count t
filled_all t zero h = omega arith
filled_all t (suc zero) h = omega arith
filled_all t (suc (suc zero)) h = omega arith
filled_all t (suc (suc (suc zero))) h = omega arith
filled_all t (suc (suc (suc (suc k)))) h = refl

pub filled_first : (t : Shape) (k : ℕ) (d : Component) → k < 4 → filled t k ≡ first_of t (get_or all_four k d)
filled_first t zero d h = refl
filled_first t (suc zero) d h = refl
filled_first t (suc (suc zero)) d h = refl
filled_first t (suc (suc (suc zero))) d h = refl
filled_first t (suc (suc (suc (suc k)))) d h = omega arith

pub filled_more : (t : Shape) (k : ℕ) (d : Component) → k < 4 → filled t (k + 1) ≡ first_of t (get_or all_four k d) + columns t (get_or all_four k d)
filled_more t zero d h = sym (zero-add (columns t Luma))
filled_more t (suc zero) d h = refl
filled_more t (suc (suc zero)) d h = refl
filled_more t (suc (suc (suc zero))) d h = refl
filled_more t (suc (suc (suc (suc k)))) d h = omega arith
