-- Tests that are passed.
use Rattle.std.proofs.Common.{◌≡◌, ℕ, ◌+◌, ◌-◌, ◌<◌, Bool, true, false, cond, eqb, ltb, List, length, take, drop, Ok, Err, Result, sym, refl, ap, ◌∙◌, arith}
use Rattle.std.specs.declared.ops.Range.{Range}
use Rattle.std.proofs.lemmas.Bool.{eq-eqb, lt-ltb, eqb-true, ltb-true, cond-true}
use Rattle.samples.specs.declared.component.Component.{Component}
use Rattle.samples.specs.declared.fault.Fault.{Fault}
use Rattle.samples.specs.declared.fault.Rule.TheVariants.{ImageLength, NoSite, CodeCount}
use Rattle.samples.specs.declared.shape.Shape.{Shape}
use Rattle.samples.specs.Faults.{refusal}
use Rattle.samples.specs.Lines.{first_of, line_count}
use Rattle.samples.specs.Shapes.{columns}
use Rattle.layout.specs.Meaning.{Meaning}
use Rattle.layout.proofs.Sites.{part_span}
use Rattle.layout.specs.Tests.{length_tests, sized, judged, line_tests}

module _ {X : Type 0} (m : Meaning) (image : List ℕ) (refused : Fault → X) (x : X) where
  pub sized_passed : length image ≡ m.size → sized m image refused x ≡ x
  sized_passed e = cond-true (eqb (length image) m.size) x _ (eq-eqb (length image) m.size e)

  pub line_passed : (l n : ℕ) → length image ≡ m.size → l < m.shape.size.height → n ≡ line_count m.shape → line_tests m image l n refused x ≡ x
  line_passed l n e h c =
      cond-true (eqb (length image) m.size) _ _ (eq-eqb (length image) m.size e)
      ∙ cond-true (ltb l m.shape.size.height) _ _ (lt-ltb l m.shape.size.height h)
      ∙ cond-true (eqb n (line_count m.shape)) x _ (eq-eqb n (line_count m.shape) c)

-- the tests by what they come to
abbrev tests : {X : Type 0} → Bool → Bool → Bool → (Fault → X) → X → X
tests a b c refused x =
    cond a (cond b (cond c x (refused (refusal CodeCount 0))) (refused (refusal NoSite 0))) (refused (refusal ImageLength 0))

ok_not_err : (f : Fault) → ◌≡◌ {A = Result (Unit {0}) Fault} (Err f) (Ok tt) → ⊥
ok_not_err f e = let z : ◌≡◌ {A = ℕ} 0 1 = cc in omega arith

tests_passed : (a b c : Bool) → tests a b c Err (Ok (tt {0})) ≡ Ok (tt {0}) → (a ≡ true) × (b ≡ true) × (c ≡ true)
tests_passed true true true e = (refl, refl, refl)
tests_passed true true false e = absurd (ok_not_err _ e)
tests_passed true false c e = absurd (ok_not_err _ e)
tests_passed false b c e = absurd (ok_not_err _ e)

pub length_judged : (have size : ℕ) → length_tests have size Err (Ok (tt {0})) ≡ Ok (tt {0}) → have ≡ size
length_judged have size e = eqb-true have size (tests_passed (eqb have size) true true e).0

-- what holds where the tests are passed
pub record Passed (have size : ℕ) (t : Shape) (l n : ℕ) : Type 0 where
  pub long : have ≡ size
  pub low : l < t.size.height
  pub count : n ≡ line_count t

pub judged_passed : (have size : ℕ) (t : Shape) (l n : ℕ) → judged have size t l n Err (Ok (tt {0})) ≡ Ok (tt {0}) → Passed have size t l n
judged_passed have size t l n e =
    let p = tests_passed (eqb have size) (ltb l t.size.height) (eqb n (line_count t)) e in
    record {
      long = eqb-true have size p.0;
      low = ltb-true l t.size.height p.1;
      count = eqb-true n (line_count t) p.2;
    }

-- the same of a layout that told its length and its shape
pub told_passed : (m : Meaning) (have l n size : ℕ) (t : Shape) → size ≡ m.size → t ≡ m.shape → judged have size t l n Err (Ok (tt {0})) ≡ Ok (tt {0}) → Passed have m.size m.shape l n
told_passed m have l n size t a b e =
    judged_passed have m.size m.shape l n (ap (λ s. judged have s m.shape l n Err (Ok tt)) (sym a) ∙ ap (λ y. judged have size y l n Err (Ok tt)) (sym b) ∙ e)

-- what holds of a part of a line too: its codes stand at the places r
pub record PartPassed (m : Meaning) (have l : ℕ) (codes : List ℕ) (c : Component) (r : Range ℕ) : Type 0 where
  pub long : have ≡ m.size
  pub low : l < m.shape.size.height
  pub count : length codes ≡ line_count m.shape
  pub first : r.start ≡ first_of m.shape c
  pub wide : r.end - r.start ≡ columns m.shape c
  pub span : length (take (r.end - r.start) (drop r.start codes)) ≡ columns m.shape c

pub part_passed : (m : Meaning) (have l size : ℕ) (t : Shape) (codes : List ℕ) (c k : Component) (r : Range ℕ) → size ≡ m.size → t ≡ m.shape → judged have size t l (length codes) Err (Ok (tt {0})) ≡ Ok (tt {0}) → k ≡ c → r ≡ record { start = first_of t k; end = first_of t k + columns t k } → PartPassed m have l codes c r
part_passed m have l size t codes c k r a b e same places =
    let p : Passed have m.size m.shape l (length codes) = told_passed m have l (length codes) size t a b e in
    let first : r.start ≡ first_of m.shape c = ap (λ q. q.start) places ∙ ap (λ u. first_of u k) b ∙ ap (first_of m.shape) same in
    let wide : r.end - r.start ≡ columns m.shape c =
    omega (arith, ap (λ q. q.start) places, ap (λ q. q.end) places, ap (λ u. columns u k) b, ap (columns m.shape) same) in
    record {
      long = p.long;
      low = p.low;
      count = p.count;
      first = first;
      wide = wide;
      span = part_span m.shape c codes r.start (r.end - r.start) p.count first wide;
    }
