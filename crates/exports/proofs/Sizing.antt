-- The size of a picture is settled by its numbers.
use Rattle.std.proofs.Common.{◌≡◌, ℕ, Bool, true, false, cond, is_ok, Ok, Err, Result, sym, ap, ◌∙◌, arith}
use Rattle.std.proofs.lemmas.Bool.{both_ways}
use Rattle.samples.specs.declared.bounds.Size.{Size}
use Rattle.samples.specs.declared.fault.Fault.{Fault}
use Rattle.samples.specs.declared.fault.Rule.TheVariants as rule
use Rattle.samples.specs.Bounds.{PlainSize, plain_size, size_made, width_allowed, height_allowed}
use Rattle.samples.specs.Faults.{refusal}
use Rattle.samples.proofs.Bounded.{same_size}
use Rattle.exports.specs.Sizes.{AtSize}

ok_err : (p : PlainSize) (f : Fault) → ◌≡◌ {A = Result PlainSize Fault} (Ok p) (Err f) → ⊥
ok_err p f e = let z : ◌≡◌ {A = ℕ} 0 1 = cc in omega arith

ok_ok : (p q : PlainSize) → ◌≡◌ {A = Result PlainSize Fault} (Ok p) (Ok q) → p ≡ q
ok_ok p q e = cc

passed : (a b : Bool) (p q : PlainSize) (f : Fault) → Ok p ≡ cond a (cond b (Ok q) (Err f)) (Err f) → p ≡ q
passed true true p q f e = ok_ok p q e
passed true false p q f e = absurd (ok_err p f e)
passed false b p q f e = absurd (ok_err p f e)

-- used is the size that the layout was made with
pub at_size : {X : Type 0} (w h : ℕ) (f : Size → X) (x r : X) (size used : Size) → plain_size (Ok size) ≡ size_made w h → used ≡ size → r ≡ f used → AtSize w h f x r
at_size w h f x r size used made same e =
    let numbers : record { width = size.width; height = size.height } ≡ record { width = w; height = h } =
    passed (width_allowed w) (height_allowed h) (record { width = size.width; height = size.height }) (record { width = w; height = h }) (refusal rule.Size 0) made in
    (λ z ew eh. e ∙ ap f (same ∙ same_size size z (ap (λ n. n.width) numbers ∙ sym ew) (ap (λ n. n.height) numbers ∙ sym eh)), λ no. absurd (both_ways (is_ok (size_made w h)) no (sym (ap is_ok made))))
