-- The test of a table turned into the fact at each run and bit: the one proof that runs are disjoint.
use Rattle.std.specs.Prelude.{◌≡◌, ℕ, zero, suc, ◌+◌, ◌*◌, ◌<◌, ◌≤◌, Bool, true, length, Some, None, Option, nat_le, nat_lt, slice_index}
use Rattle.std.proofs.Common.{sym, ap, ◌∙◌, ⊎_elim, arith}
use Rattle.std.proofs.lemmas.List.Quantifiers.{position-Some}
use Rattle.std.proofs.lemmas.Bool.{cases_lt, and_parts, eqb-true, ltb-true, leb-true}
use Rattle.samples.specs.declared.component.Component.{Component}
use Rattle.samples.specs.Parts.{before, whole, part_at}
use Rattle.samples.proofs.Dividing.{part_here, part_small}
use Rattle.formats.specs.Packing.{Packing, Proper, runs, start_in, covers, holder, all_below, is_run, run_apart}
use Rattle.formats.specs.Formats.{RunsApart}

none_below : (k : ℕ) → k < 0 → ⊥
none_below k h = omega arith

-- what the test says at each number below m
pub at_below : (m : ℕ) (f : ℕ → Bool) → all_below m f ≡ true → (k : ℕ) → k < m → f k ≡ true
at_below zero f t k h = absurd (none_below k h)
at_below (suc m) f t k h =
    let p = and_parts (f m) (all_below m f) t in
    ⊎_elim
    (λ (l : k < m). at_below m f p.1 k l)
    (λ (l : m ≤ k). ap f (omega arith) ∙ p.0)
    (cases_lt k m)

is_that : (q : ℕ) (o : Option ℕ) → is_run q o ≡ true → o ≡ Some q
is_that q None t = let z : ◌≡◌ {A = ℕ} 0 1 = cc in absurd (omega arith)
is_that q (Some r) t = ap Some (sym (eqb-true q r t))

module _ (p : Packing) (ok : Proper p) where
  run : (q : ℕ) → q < length p.starts → run_apart p q ≡ true
  run q h = at_below (length p.starts) (run_apart p) ok.disjoint q h

  number_small : (k : Component) (i : ℕ) → i < runs p k → before (runs p) k + i < length p.starts
  number_small k i h = omega (arith, ok.every, part_small (runs p) k i h)

  -- a run lies within its group
  pub run_within : (k : Component) (i : ℕ) → i < runs p k → start_in p k i + p.bits.count ≤ 8 * p.bytes
  run_within k i h =
      let q = before (runs p) k + i in
      leb-true (start_in p k i + p.bits.count) (8 * p.bytes) (and_parts (nat_le (start_in p k i + p.bits.count) (8 * p.bytes)) (all_below p.bits.count (λ j. is_run q (holder p (start_in p k i + j)))) (run q (number_small k i h))).0

  -- each bit of a run has that run for its holder
  pub run_held : (k : Component) (i j : ℕ) → i < runs p k → j < p.bits.count → holder p (start_in p k i + j) ≡ Some (before (runs p) k + i)
  run_held k i j h l =
      let q = before (runs p) k + i in
      is_that q (holder p (start_in p k i + j))
      (at_below p.bits.count (λ m. is_run q (holder p (start_in p k i + m)))
      (and_parts (nat_le (start_in p k i + p.bits.count) (8 * p.bytes)) (all_below p.bits.count (λ m. is_run q (holder p (start_in p k i + m)))) (run q (number_small k i h))).1 j l)

  -- a holder is a run of the group, and holds the bit
  pub held_run : (w q : ℕ) → holder p w ≡ Some q → (q < whole (runs p)) × (slice_index p.starts q ≤ w) × (w < slice_index p.starts q + p.bits.count)
  held_run w q e =
      let r = position-Some (covers p.bits.count w) p.starts q 0 e in
      let s : ℕ = slice_index p.starts q in
      let c = and_parts (nat_le s w) (nat_lt w (s + p.bits.count)) r.1 in
      (omega (arith, r.0, ok.every), leb-true s w c.0, ltb-true w (s + p.bits.count) c.1)

  -- two runs that share a bit are one run
  pub runs_apart : RunsApart p
  runs_apart k l i j a b hi hj ha hb e =
      let x : ℕ = before (runs p) k + i in
      let y : ℕ = before (runs p) l + j in
      let both : Some x ≡ Some y = sym (run_held k i a hi ha) ∙ ap (holder p) e ∙ run_held l j b hj hb in
      let same : x ≡ y = cc in
      let comp : k ≡ l = sym (part_here (runs p) k i hi) ∙ ap (part_at (runs p)) same ∙ part_here (runs p) l j hj in
      (comp, omega (arith, same, ap (before (runs p)) comp))
