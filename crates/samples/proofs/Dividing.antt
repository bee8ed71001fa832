-- Four parts one after the other: each index is that of one member of one component.
use Rattle.std.proofs.Common.{◌≡◌, ℕ, ◌+◌, ◌-◌, ◌<◌, ◌≤◌, cond, ltb, sym, ap, ◌∙◌, subst, ⊎_elim, arith}
use Rattle.std.proofs.lemmas.Bool.{cases_lt}
use Rattle.std.proofs.lemmas.Bool.Decides.{nat_tests}
use Rattle.samples.specs.declared.component.Component.{Component}
use Rattle.samples.specs.declared.component.Component.TheVariants.{Luma, Cb, Cr, Alpha}
use Rattle.samples.specs.Parts.{before, whole, part_at}

-- the same over plain numbers
abbrev part : ℕ → ℕ → ℕ → ℕ → Component
part a b c i = cond (ltb i a) Luma (cond (ltb i (a + b)) Cb (cond (ltb i (a + b + c)) Cr Alpha))

luma_part : (a b c x : ℕ) → x < a → part a b c (0 + x) ≡ Luma
luma_part a b c x h = grind (arith, nat_tests)

cb_part : (a b c x : ℕ) → x < b → part a b c (a + x) ≡ Cb
cb_part a b c x h = grind (arith, nat_tests)

cr_part : (a b c x : ℕ) → x < c → part a b c (a + b + x) ≡ Cr
cr_part a b c x h = grind (arith, nat_tests)

alpha_part : (a b c x : ℕ) → part a b c (a + b + c + x) ≡ Alpha
alpha_part a b c x = grind (arith, nat_tests)

module _ (size : Component → ℕ) where
  -- the component of a member's index is the member's
  pub part_here : (c : Component) (x : ℕ) → x < size c → part_at size (before size c + x) ≡ c
  part_here Luma x h = luma_part (size Luma) (size Cb) (size Cr) x h
  part_here Cb x h = cb_part (size Luma) (size Cb) (size Cr) x h
  part_here Cr x h = cr_part (size Luma) (size Cb) (size Cr) x h
  part_here Alpha x h = alpha_part (size Luma) (size Cb) (size Cr) x

  pub part_small : (c : Component) (x : ℕ) → x < size c → before size c + x < whole size
  part_small Luma x h = omega arith
  part_small Cb x h = omega arith
  part_small Cr x h = omega arith
  part_small Alpha x h = omega arith

  -- an index stands for a component and a member of it
  pub split_part : (i : ℕ) → i < whole size → (c : Component) × (x : ℕ) × (x < size c) × (i ≡ before size c + x)
  split_part i h =
      ⊎_elim
      (λ (p : i < before size Cb). (Luma, i, p, omega arith))
      (λ (p : before size Cb ≤ i).
      ⊎_elim
      (λ (q : i < before size Cr). (Cb, i - before size Cb, omega arith, omega arith))
      (λ (q : before size Cr ≤ i).
      ⊎_elim
      (λ (r : i < before size Alpha). (Cr, i - before size Cr, omega arith, omega arith))
      (λ (r : before size Alpha ≤ i). (Alpha, i - before size Alpha, omega arith, omega arith))
      (cases_lt i (before size Alpha)))
      (cases_lt i (before size Cr)))
      (cases_lt i (before size Cb))

  -- an index lies in the part of its component
  pub part_holds : (i : ℕ) → i < whole size → (before size (part_at size i) ≤ i) × (i - before size (part_at size i) < size (part_at size i))
  part_holds i h =
      let p = split_part i h in
      let e : part_at size i ≡ p.0 = ap (part_at size) p.3 ∙ part_here p.0 p.1 p.2 in
      subst (λ c. (before size c ≤ i) × (i - before size c < size c)) (sym e) (omega (arith, p.3), omega (arith, p.2, p.3))
