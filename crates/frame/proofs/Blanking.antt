-- An image blanked: wiped, then one line at rest written to every picture line.
use Rattle.std.proofs.Common.{◌≡◌, ℕ, ◌+◌, ◌<◌, Bool, true, false, eqb, List, map, length, get_or, Ok, Err, sym, ap, ◌∙◌, ⊎_elim, zero-add}
use Rattle.std.specs.List.{range_with_len}
use Rattle.std.proofs.lemmas.List.FromFn.{length-map-range_with_len, get_or-map-range_with_len}
use Rattle.std.proofs.lemmas.Bool.{cases_Bool, eqb-true, cond-false}
use Rattle.image.proofs.Images.{length_image_of, bytes_image}
use Rattle.samples.specs.declared.fault.Rule.TheVariants.{ImageLength}
use Rattle.samples.specs.declared.shape.Shape.{Shape}
use Rattle.samples.specs.Faults.{refusal}
use Rattle.samples.specs.Lines.{line_count}
use Rattle.layout.specs.Images.{rewritten, wiped, laid, rest_at, blank}
use Rattle.layout.specs.Meaning.{Meaning, Lawful}
use Rattle.layout.specs.Tests.{wipe_answer, wipe_image, line_written}
use Rattle.layout.proofs.Filling.{rested, rested_more, rested_none, rested_all}
use Rattle.layout.proofs.Testing.{sized_passed, line_passed}
use Rattle.layout.proofs.Writing.{rewritten_length, begins, goes_on}
use Rattle.frame.specs.Calls.{blanked}
use Rattle.frame.proofs.Coming.{ok_err}

module _ (m : Meaning) (laws : Lawful m) (image : List ℕ) where
  -- what was wiped had the layout's length
  pub wiped_length : (u : Unit {0}) → Ok u ≡ wipe_answer m image → length image ≡ m.size
  wiped_length u e =
      let test : Bool = eqb (length image) m.size in
      ⊎_elim
      (λ (t : test ≡ true). eqb-true (length image) m.size t)
      (λ (t : test ≡ false). absurd (ok_err (wipe_answer m image) u (refusal ImageLength 0) (sym e) (cond-false test (Ok tt) (Err (refusal ImageLength 0)) t)))
      (cases_Bool test)

  pub wiped_is : (after : List ℕ) → length image ≡ m.size → after ≡ wipe_image m image → after ≡ wiped m
  wiped_is after long e = e ∙ sized_passed m image (λ _. image) (wiped m) long

  pub blank_is : (after : List ℕ) → length image ≡ m.size → after ≡ blank m → after ≡ blanked m image
  blank_is after long e = e ∙ sym (sized_passed m image (λ _. image) (blank m) long)

module _ (m : Meaning) (laws : Lawful m) where
  pub none_rested : wiped m ≡ rewritten m (rested m.shape 0) (wiped m)
  none_rested = begins m laws (wiped m) (bytes_image m.size m.fixed) (rested m.shape 0) (rested_none m.shape)

  rested_length : (now' : List ℕ) (n : ℕ) → now' ≡ rewritten m (rested m.shape n) (wiped m) → length now' ≡ m.size
  rested_length now' n e = ap length e ∙ rewritten_length m (rested m.shape n) (wiped m) ∙ length_image_of m.size m.fixed

  -- one line more
  module _ (codes : List ℕ) (is : codes ≡ map (rest_at m.shape) (range_with_len 0 (line_count m.shape))) (now' : List ℕ) (n : ℕ) (inv : now' ≡ rewritten m (rested m.shape n) (wiped m)) (low : n < m.shape.size.height) where
    count : length codes ≡ line_count m.shape
    count = ap length is ∙ length-map-range_with_len (rest_at m.shape) 0 (line_count m.shape)

    pub line_rested : (after : List ℕ) → after ≡ line_written m now' n codes → after ≡ rewritten m (rested m.shape (n + 1)) (wiped m)
    line_rested after e =
        let t : Shape = m.shape in
        goes_on m laws (wiped m) now' after (rested t n) (laid t n codes) (rested t (n + 1))
        (rested_more t codes n (λ i h. ap (λ z. get_or z i 0) is ∙ get_or-map-range_with_len (rest_at t) 0 (line_count t) i i 0 h (zero-add i)))
        inv
        (e ∙ line_passed m now' (λ _. now') (rewritten m (laid t n codes) now') n (length codes) (rested_length now' n inv) low count)

  pub all_rested : (now' : List ℕ) (n : ℕ) → now' ≡ rewritten m (rested m.shape n) (wiped m) → n ≡ m.shape.size.height → now' ≡ blank m
  all_rested now' n inv e = inv ∙ ap (λ k. rewritten m (rested m.shape k) (wiped m)) e ∙ rested_all m laws
