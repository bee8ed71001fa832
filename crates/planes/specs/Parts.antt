-- The words of each component: where they lie, and how many there are at most.
use Rattle.std.specs.Prelude.{◌≡◌, ℕ, zero, suc, ◌+◌, ◌-◌, ◌*◌, ◌^◌, ◌<◌, ◌≤◌, Bool, true, false, cond, Some, None, nat_lt, refl}
use Rattle.std.proofs.Common.{ap, subst, ◌∙◌, mul_comm, mul-zero, arith}
use Rattle.std.proofs.lemmas.Nat.{mul-le}
use Rattle.std.proofs.lemmas.Bool.{ltb-true, lt-ltb, le-ltb, cond-true, cond-false}
use Rattle.samples.specs.declared.component.Component.{Component}
use Rattle.samples.specs.declared.component.Component.TheVariants.{Luma, Cb, Cr, Alpha}
use Rattle.samples.specs.declared.shape.Shape.{Shape}
use Rattle.samples.specs.Parts.{part_at}
use Rattle.samples.specs.Fitting.{columns_le}
use Rattle.samples.specs.Shapes.{columns}
use Rattle.samples.proofs.Dividing.{part_here, part_small, part_holds}
use Rattle.planes.specs.Words.{plane, offset, words, plane_of}

positive : (h w i : ℕ) → i < h * w → 0 < w
positive h zero i l = omega (arith, mul-zero h)
positive h (suc w) i l = omega arith

if_some : (b : Bool) (x k : Component) → cond b (Some x) None ≡ Some k → (b ≡ true) × (x ≡ k)
if_some true x k e = (refl, cc)
if_some false x k e = let z : ◌≡◌ {A = ℕ} 0 1 = cc in absurd (omega arith)

-- ---- the parts of the words
module _ (t : Shape) where
  pub here : (k : Component) (i : ℕ) → i < plane t k → plane_of t (offset t k + i) ≡ Some k
  here k i h =
      let q : ℕ = offset t k + i in
      cond-true (nat_lt q (words t)) (Some (part_at (plane t) q)) None (lt-ltb q (words t) (part_small (plane t) k i h))
      ∙ ap Some (part_here (plane t) k i h)

  -- a word of a component lies in the component's part
  pub holds : (k : Component) (q : ℕ) → plane_of t q ≡ Some k → (offset t k ≤ q) × (q < offset t k + plane t k)
  holds k q e =
      let p = if_some (nat_lt q (words t)) (part_at (plane t) q) k e in
      let in' = part_holds (plane t) q (ltb-true q (words t) p.0) in
      subst (λ c. (offset t c ≤ q) × (q < offset t c + plane t c)) p.1 (in'.0, omega (arith, in'.0, in'.1))

  pub none_past : (q : ℕ) → words t ≤ q → plane_of t q ≡ None
  none_past q h = cond-false (nat_lt q (words t)) (Some (part_at (plane t) q)) None (le-ltb q (words t) h)

  pub fit_all : (k : Component) → offset t k + plane t k ≤ words t
  fit_all Luma = omega arith
  fit_all Cb = omega arith
  fit_all Cr = omega arith
  fit_all Alpha = omega arith

  pub plane_le : (k : Component) → plane t k ≤ 4096 * 2304
  plane_le k = mul-le (columns t k) t.size.height 4096 2304 (omega (arith, columns_le t k)) t.size.height_high

  pub words_le : words t ≤ 4 * (4096 * 2304)
  words_le = omega (arith, plane_le Luma, plane_le Cb, plane_le Cr, plane_le Alpha)

  pub words_fit : words t < 2 ^ 32
  words_fit = omega (arith, words_le)

  -- a word of a component, put against the words before
  pub in_part : (q : ℕ) (k : Component) → plane_of t q ≡ Some k → (offset t k ≤ q) × (0 < columns t k)
  in_part q k e =
      let h = holds k q e in
      let w = columns t k in
      let last : ℕ = t.size.height in
      (h.0, positive last w (q - offset t k) (omega (arith, h.0, h.1, mul_comm w last)))
