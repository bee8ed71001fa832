-- The tests of a call.
use Rattle.std.proofs.Common.{◌≡◌, ℕ, Bool, true, false, cond, eqb, ltb, List, length, Some, None, Option, refl}
use Rattle.std.proofs.lemmas.Bool.{eqb-true}
use Rattle.samples.specs.declared.fault.Fault.{Fault}
use Rattle.samples.specs.declared.fault.Rule.TheVariants.{ImageLength, NoSite, CodeCount, CodeNotAdmitted, EveryLineCome, LineNotCome}
use Rattle.samples.specs.declared.shape.Shape.{Shape}
use Rattle.samples.specs.Faults.{refusal}
use Rattle.samples.specs.Lines.{line_count}
use Rattle.samples.specs.Shapes.{columns, has}
use Rattle.layout.specs.Meaning.{Meaning}
use Rattle.layout.specs.Tests.{sized}
use Rattle.frame.specs.Calls.{Call, lay, put, fill, restart, take, admitted, admitted_at, first_failing, unless_failing, line_come, tests}

-- what is known of a call that passed its tests
abbrev pub Passed : Shape → ℕ → Call → Type 0
Passed t come (lay codes) = (length codes ≡ line_count t) × (first_failing (admitted_at t codes) (line_count t) ≡ None) × (ltb come t.size.height ≡ true)
Passed t come (put s v) = (has t s ≡ true) × (admitted t s.component v ≡ true)
Passed t come (fill c v) = admitted t c v ≡ true
Passed t come restart = Unit
Passed t come (take s) = has t s ≡ true

cond_both : {X Y : Type 0} (R : X → Y → Type 0) (b : Bool) {x x' : X} {y y' : Y} → (b ≡ true → R x y) → R x' y' → R (cond b x x') (cond b y y')
cond_both R true p q = p refl
cond_both R false p q = q

unless_both : {X Y : Type 0} (R : X → Y → Type 0) (o : Option ℕ) (f : Fault → X) (g : Fault → Y) {x : X} {y : Y} → ((e : Fault) → R (f e) (g e)) → (o ≡ None → R x y) → R (unless_failing o f x) (unless_failing o g y)
unless_both R (Some i) f g r p = r (refusal CodeNotAdmitted i)
unless_both R None f g r p = p refl

-- what relates the refusals, and the ends of a call that passed, relates what the tests give
pub tests_both : (t : Shape) (come : ℕ) (call : Call) {X Y : Type 0} (R : X → Y → Type 0) (f : Fault → X) (g : Fault → Y) {x : X} {y : Y} → ((e : Fault) → R (f e) (g e)) → (Passed t come call → R x y) → R (tests t come call f x) (tests t come call g y)
tests_both t come (lay codes) R f g r p =
    cond_both R (eqb (length codes) (line_count t))
    (λ n. unless_both R (first_failing (admitted_at t codes) (line_count t)) f g r (λ o. cond_both R (ltb come t.size.height) (λ e. p (eqb-true (length codes) (line_count t) n, o, e)) (r (refusal EveryLineCome 0))))
    (r (refusal CodeCount 0))
tests_both t come (put s v) R f g r p =
    cond_both R (has t s)
    (λ h. cond_both R (admitted t s.component v) (λ a. cond_both R (line_come t come s.line.0) (λ _. p (h, a)) (r (refusal LineNotCome 0))) (r (refusal CodeNotAdmitted 0)))
    (r (refusal NoSite 0))
tests_both t come (fill c v) R f g r p =
    cond_both R (ltb 0 (columns t c)) (λ _. cond_both R (admitted t c v) (λ a. p a) (r (refusal CodeNotAdmitted 0))) (r (refusal NoSite 0))
tests_both t come restart R f g r p = p tt
tests_both t come (take s) R f g r p = cond_both R (has t s) (λ h. p h) (r (refusal NoSite 0))

-- the same with the test of the image's length before
pub called_both : (m : Meaning) (come : ℕ) (image : List ℕ) (call : Call) {X Y : Type 0} (R : X → Y → Type 0) (f : Fault → X) (g : Fault → Y) {x : X} {y : Y} → ((e : Fault) → R (f e) (g e)) → (length image ≡ m.size → Passed m.shape come call → R x y) → R (sized m image f (tests m.shape come call f x)) (sized m image g (tests m.shape come call g y))
called_both m come image call R f g r p =
    cond_both R (eqb (length image) m.size) (λ n. tests_both m.shape come call R f g r (p (eqb-true (length image) m.size n))) (r (refusal ImageLength 0))
