-- The laws of one write, from a layout's laws alone.
use Rattle.std.proofs.Common.{◌≡◌, ℕ, ◌*◌, ◌<◌, true, false, eqb, ◌⊎◌, List, length, None, Ok, Err, sym, refl, ap, ◌∙◌, inl, inr, ⊎_elim, arith}
use Rattle.std.proofs.lemmas.Bool.{cases_Bool, ne_eqb, cond-true, cond-false}
use Rattle.image.specs.Bits.{bit}
use Rattle.image.proofs.Images.{length_image_of}
use Rattle.samples.specs.declared.fault.Fault.{Fault}
use Rattle.samples.specs.declared.fault.Rule.TheVariants.{NoSite}
use Rattle.samples.specs.declared.site.Site.{Site}
use Rattle.samples.specs.Faults.{refusal}
use Rattle.samples.specs.Shapes.{has}
use Rattle.layout.specs.Images.{code_of, bit_held, resting, blank}
use Rattle.layout.specs.Meaning.{Meaning, Lawful}
use Rattle.layout.proofs.Holding.{or_old, code_holding, code_rewritten, bit_rewritten, bit_holding}
use Rattle.layout.proofs.Testing.{sized_passed}
use Rattle.layout.proofs.Writing.{rewritten_length}
use Rattle.frame.specs.Calls.{Call, lay, put, fill, restart, take, writes, left, answer, image_after, lines_after, blanked}
use Rattle.onewrite.specs.Laws.{taken, taken_after, Writes, Accepted, Refused, OneWrite, OneBegin, LawsOfOneWrite}
use Rattle.frame.proofs.Testing.{Passed, called_both}
use Rattle.onewrite.proofs.Fitting.{rests_fit, writes_fit}
use Rattle.onewrite.proofs.Telling.{writes_some, writes_none}

ok_err : (n : ℕ) (f : Fault) → Err f ≡ Ok n → ⊥
ok_err n f e = let z : ◌≡◌ {A = ℕ} 0 1 = cc in omega arith

module _ (m : Meaning) (laws : Lawful m) where
  -- ---- takes
  taken_there : (come : ℕ) (image : List ℕ) (s : Site) → length image ≡ m.size → has m.shape s ≡ true → taken m come image s ≡ Ok (code_of m image s)
  taken_there come image s long there =
      sized_passed m image Err _ long ∙ cond-true (has m.shape s) (Ok (code_of m image s)) (Err (refusal NoSite 0)) there

  taken_absent : (come : ℕ) (image : List ℕ) (s : Site) → length image ≡ m.size → has m.shape s ≡ false → taken m come image s ≡ Err (refusal NoSite 0)
  taken_absent come image s long lacks =
      sized_passed m image Err _ long ∙ cond-false (has m.shape s) (Ok (code_of m image s)) (Err (refusal NoSite 0)) lacks

  length_blank : length (blank m) ≡ m.size
  length_blank = length_image_of m.size (λ b. bit_held m (resting m.shape) b (m.owner b))

  code_blank : (s : Site) → has m.shape s ≡ true → code_of m (blank m) s ≡ resting m.shape s
  code_blank s there = code_holding m laws (resting m.shape) s there (rests_fit m.shape s)

  -- ---- a call
  module _ (come : ℕ) (image : List ℕ) where
    -- a call that passed its tests
    record Done (call : Call) : Type 0 where
      long : length image ≡ m.size
      passed : Passed m.shape come call
      is : image_after m come image call ≡ left m come image call

    done : (call : Call) → Accepted m come image call → Done call
    done call ok =
        let both = called_both m come image call (λ a b. a ≡ Ok ok.0 → (length image ≡ m.size) × Passed m.shape come call × (b ≡ left m come image call)) Err (λ _. image) (λ f e. absurd (ok_err ok.0 f e)) (λ long passed _. (long, passed, refl)) ok.1 in
        record { long = both.0; passed = both.1; is = both.2 }

    -- a call leaves the image as it was, or passed its tests
    either : (call : Call) → (image_after m come image call ≡ image) ⊎ Done call
    either call =
        ⊎_elim inl (λ p. inr (record { long = p.0; passed = p.1; is = p.2 }))
        (called_both m come image call (λ a _. (a ≡ image) ⊎ ((length image ≡ m.size) × Passed m.shape come call × (a ≡ left m come image call))) (λ _. image) (λ _. image) {y = image} (λ _. inl refl) (λ long passed. inr (long, passed, refl)))

    length_left : (call : Call) → length image ≡ m.size → length (left m come image call) ≡ m.size
    length_left (lay codes) long = rewritten_length m (writes m.shape come (lay codes)) image ∙ long
    length_left (put s v) long = rewritten_length m (writes m.shape come (put s v)) image ∙ long
    length_left (fill c v) long = rewritten_length m (writes m.shape come (fill c v)) image ∙ long
    length_left restart long = length_blank
    length_left (take s) long = long

    length_after : (call : Call) → length image ≡ m.size → length (image_after m come image call) ≡ m.size
    length_after call long = ⊎_elim (λ e. ap length e ∙ long) (λ (d : Done call). ap length d.is ∙ length_left call long) (either call)

    -- the code of a site afterwards
    code_left : (call : Call) → Done call → (s : Site) → has m.shape s ≡ true → code_of m (left m come image call) s ≡ or_old (writes m.shape come call s) (code_of m image s)
    code_left (lay codes) d s there = code_rewritten m laws (writes m.shape come (lay codes)) image d.long s there (writes_fit m.shape come (lay codes) d.passed s there)
    code_left (put z v) d s there = code_rewritten m laws (writes m.shape come (put z v)) image d.long s there (writes_fit m.shape come (put z v) d.passed s there)
    code_left (fill c v) d s there = code_rewritten m laws (writes m.shape come (fill c v)) image d.long s there (writes_fit m.shape come (fill c v) d.passed s there)
    code_left restart d s there = code_blank s there
    code_left (take z) d s there = refl

    taken_left : (call : Call) → Done call → (s : Site) → has m.shape s ≡ true → taken_after m come image call s ≡ Ok (or_old (writes m.shape come call s) (code_of m image s))
    taken_left call d s there =
        taken_there (lines_after m come image call) (image_after m come image call) s (length_after call d.long) there
        ∙ ap (λ z. Ok (code_of m z s)) d.is
        ∙ ap (λ z. Ok z) (code_left call d s there)

    new : (call : Call) → Accepted m come image call → (s : Site) (v : ℕ) → has m.shape s ≡ true → Writes m.shape come call s v → taken_after m come image call s ≡ Ok v
    new call ok s v there w =
        taken_left call (done call ok) s there ∙ ap (λ o. Ok (or_old o (code_of m image s))) (writes_some m.shape come call s v w)

    absent : (call : Call) (s : Site) → has m.shape s ≡ false → taken_after m come image call s ≡ taken m come image s
    absent call s lacks =
        ⊎_elim
        (λ (e : image_after m come image call ≡ image). ap (λ z. taken m come z s) e)
        (λ (d : Done call). taken_absent (lines_after m come image call) (image_after m come image call) s (length_after call d.long) lacks ∙ sym (taken_absent come image s d.long lacks))
        (either call)

    old : (call : Call) → Accepted m come image call → (s : Site) → ((v : ℕ) → Writes m.shape come call s v → ⊥) → taken_after m come image call s ≡ taken m come image s
    old call ok s never =
        let d : Done call = done call ok in
        ⊎_elim
        (λ (there : has m.shape s ≡ true).
        taken_left call d s there
        ∙ ap (λ o. Ok (or_old o (code_of m image s))) (writes_none m.shape come call s never)
        ∙ sym (taken_there come image s d.long there))
        (λ (lacks : has m.shape s ≡ false). absent call s lacks)
        (cases_Bool (has m.shape s))

    -- ---- fixed bits
    bit_left : (call : Call) → (call ≡ restart → ⊥) → (b : ℕ) → m.owner b ≡ None → bit (left m come image call) b ≡ bit image b
    bit_left (lay codes) other b e = bit_rewritten m laws (writes m.shape come (lay codes)) image b e
    bit_left (put s v) other b e = bit_rewritten m laws (writes m.shape come (put s v)) image b e
    bit_left (fill c v) other b e = bit_rewritten m laws (writes m.shape come (fill c v)) image b e
    bit_left restart other b e = absurd (other refl)
    bit_left (take s) other b e = refl

    fixed : (call : Call) → (call ≡ restart → ⊥) → (b : ℕ) → m.owner b ≡ None → bit (image_after m come image call) b ≡ bit image b
    fixed call other b e =
        ⊎_elim
        (λ (q : image_after m come image call ≡ image). ap (λ z. bit z b) q)
        (λ (d : Done call). ap (λ z. bit z b) d.is ∙ bit_left call other b e)
        (either call)

    reset : (call : Call) → Accepted m come image call → call ≡ restart → (b : ℕ) → b < 8 * m.size → m.owner b ≡ None → bit (image_after m come image call) b ≡ m.fixed b
    reset call ok is b l e =
        ap (λ z. bit z b) ((done call ok).is ∙ ap (left m come image) is) ∙ bit_holding m laws (resting m.shape) b l e

    -- ---- refusals
    nothing : (call : Call) → Refused m come image call → (image_after m come image call ≡ image) × (lines_after m come image call ≡ come)
    nothing call no' =
        let clash : (n : ℕ) → Ok n ≡ Err no'.0 → ⊥ = λ n e. ok_err n no'.0 (sym e) in (
          called_both m come image call (λ a b. a ≡ Err no'.0 → b ≡ image) Err (λ _. image) (λ f e. refl) (λ _ _ e. absurd (clash (answer m come image call) e)) no'.1,
          called_both m come image call (λ a b. a ≡ Err no'.0 → b ≡ come) Err (λ _. come) (λ f e. refl) (λ _ _ e. absurd (clash (answer m come image call) e)) no'.1,
        )

    pub one_write : (call : Call) → OneWrite m come image call
    one_write call = record {
      new = new call;
      old = old call;
      absent = absent call;
      fixed = fixed call;
      reset = reset call;
      nothing = nothing call;
    }

  -- ---- begin
  pub one_begin : (image : List ℕ) → OneBegin m image
  one_begin image =
      let is : length image ≡ m.size → blanked m image ≡ blank m = λ long. sized_passed m image (λ _. image) (blank m) long in
      record {
        new = λ long s there. ap (λ z. taken m 0 z s) (is long) ∙ taken_there 0 (blank m) s length_blank there ∙ ap (λ z. Ok z) (code_blank s there);
        reset = λ long b l e. ap (λ z. bit z b) (is long) ∙ bit_holding m laws (resting m.shape) b l e;
        nothing = λ wrong. cond-false (eqb (length image) m.size) (blank m) image (ne_eqb (length image) m.size wrong);
      }

pub laws_of_one_write : LawsOfOneWrite
laws_of_one_write m laws = (λ come image call. one_write m laws come image call, λ image. one_begin m laws image)
