-- The holder of a bit, sought run by run.
use Rattle.std.proofs.Common.{◌≡◌, ℕ, ◌+◌, ◌<◌, ◌≤◌, Bool, true, false, cond, length, get_or, nat_lt, slice_index, Some, None, sym, ap, ◌∙◌, ⊎_elim, arith}
use Rattle.std.proofs.lemmas.Bool.{lt-ltb, le-ltb, cases_lt}
use Rattle.std.proofs.lemmas.List.Sums.{position_or_len_is}
use Rattle.samples.specs.Parts.{whole}
use Rattle.formats.specs.declared.format.Figures.{Figures}
use Rattle.formats.specs.Packing.{Packing, Proper, figures_of, runs_of, covers, holder}

module _ (p : Packing) (ok : Proper p) (f : Figures) (told : f ≡ figures_of p) (w : ℕ) where
  -- whether run k holds the bit, as the code tests it
  abbrev held_by : ℕ → Bool
  held_by k = covers f.bits.count w (slice_index p.starts k)

  abbrev pub NoneBelow : ℕ → Type 0
  NoneBelow i = (k : ℕ) → k < i → held_by k ≡ false

  meant : (k : ℕ) (b : Bool) → held_by k ≡ b → covers p.bits.count w (get_or p.starts k 0) ≡ b
  meant k b e = sym (ap (λ z. covers z.bits.count w (slice_index p.starts k)) told) ∙ e

  counted : (n : ℕ) → n ≡ whole (runs_of f) → n ≡ length p.starts
  counted n e = e ∙ ap (λ z. whole (runs_of z)) told ∙ sym ok.every

  first : (i : ℕ) → i ≤ length p.starts → NoneBelow i → (i < length p.starts → held_by i ≡ true) → holder p w ≡ cond (nat_lt i (length p.starts)) (Some i) None
  first i h below here =
      ap (λ k. cond (nat_lt k (length p.starts)) (Some k) None)
      (position_or_len_is (covers p.bits.count w) p.starts i 0 h (λ k l. meant k false (below k l)) (λ l. meant i true (here l)))

  pub found : (i n : ℕ) → n ≡ whole (runs_of f) → i < n → NoneBelow i → held_by i ≡ true → Some i ≡ holder p w
  found i n en h below t =
      let all : n ≡ length p.starts = counted n en in
      let low : i < length p.starts = omega (arith, all, h) in
      sym (first i (omega (arith, low)) below (λ _. t) ∙ ap (λ b. cond b (Some i) None) (lt-ltb i (length p.starts) low))

  pub none : (i n : ℕ) → n ≡ whole (runs_of f) → i ≤ n → n ≤ i → NoneBelow i → None ≡ holder p w
  none i n en high low below =
      let all : n ≡ length p.starts = counted n en in
      sym (first i (omega (arith, all, high)) below (λ l. absurd (omega (arith, all, low, l))) ∙ ap (λ b. cond b (Some i) None) (le-ltb i (length p.starts) (omega (arith, all, low))))

  pub next : (i s : ℕ) (b : Bool) → s ≡ slice_index p.starts i → b ≡ covers f.bits.count w s → b ≡ false → NoneBelow i → NoneBelow (i + 1)
  next i s b es eb e below k h =
      let here : held_by i ≡ false = sym (eb ∙ ap (covers f.bits.count w) es) ∙ e in
      ⊎_elim
      (λ (l : k < i). below k l)
      (λ (l : i ≤ k). ap held_by (omega (arith, h, l)) ∙ here)
      (cases_lt k i)
