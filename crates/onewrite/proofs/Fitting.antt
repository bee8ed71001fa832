-- The codes that an accepted call writes fit their bits.
use Rattle.std.proofs.Common.{◌≡◌, ℕ, zero, suc, ◌-◌, ◌*◌, ◌^◌, ◌<◌, ◌≤◌, Bool, true, false, cond, ltb, leb, List, get_or, Some, None, Option, refl, ap, ◌∙◌, ⊎_elim, arith, pow-add}
use Rattle.std.proofs.lemmas.Nat.{pow_pos}
use Rattle.std.proofs.lemmas.Bool.{cases_lt, and_parts, ltb-true}
use Rattle.samples.specs.declared.component.Component.{Component}
use Rattle.samples.specs.declared.component.Component.TheVariants.{Luma, Cb, Cr, Alpha}
use Rattle.samples.specs.declared.shape.Shape.{Shape}
use Rattle.samples.specs.declared.site.Site.{Site}
use Rattle.samples.specs.Codes.{unreserved, admits, rest_of}
use Rattle.samples.specs.Lines.{line_count, index_of, component_at}
use Rattle.samples.specs.Shapes.{has}
use Rattle.layout.specs.Images.{resting, same_component, same_site}
use Rattle.layout.proofs.Sites.{index_small}
use Rattle.frame.specs.Calls.{Call, lay, put, fill, restart, take, admitted_at, or_else, first_failing, writes}
use Rattle.frame.proofs.Testing.{Passed}

-- ---- codes
unreserved_small : (n v : ℕ) → unreserved n v ≡ true → v < 2 ^ n
unreserved_small n v t =
    let h = ltb-true v (2 ^ n - 2 ^ (n - 8)) (and_parts (leb (2 ^ (n - 8)) v) (ltb v (2 ^ n - 2 ^ (n - 8))) t).1 in
    omega arith

admits_small : (n : ℕ) (c : Component) (v : ℕ) → admits n c v ≡ true → v < 2 ^ n
admits_small n Luma v t = unreserved_small n v t
admits_small n Cb v t = unreserved_small n v t
admits_small n Cr v t = unreserved_small n v t
admits_small n Alpha v t = ltb-true v (2 ^ n) t

rest_small : (n : ℕ) → 8 ≤ n → (c : Component) → rest_of n c < 2 ^ n
rest_small n h c =
    let whole : 2 ^ n ≡ 256 * 2 ^ (n - 8) = ap (λ z. 2 ^ z) (omega arith) ∙ pow-add 2 8 (n - 8) in
    let some = pow_pos (n - 8) in
    elim c as (λ z. rest_of n z < 2 ^ n) [ Luma ↦ omega arith | Cb ↦ omega arith | Cr ↦ omega arith | Alpha ↦ omega arith ]

pub rests_fit : (t : Shape) (s : Site) → resting t s < 2 ^ t.bits.count
rests_fit t s = rest_small t.bits.count t.bits.low s.component

-- ---- a line
none_left : (o : Option ℕ) (b : Bool) (n : ℕ) → or_else o (cond b None (Some n)) ≡ None → (o ≡ None) × (b ≡ true)
none_left (Some i) b n e = let z : ◌≡◌ {A = ℕ} 0 1 = cc in absurd (omega arith)
none_left None true n e = (refl, refl)
none_left None false n e = let z : ◌≡◌ {A = ℕ} 0 1 = cc in absurd (omega arith)

-- where no index fails, the test holds of each
all_pass : (test : ℕ → Bool) (n : ℕ) → first_failing test n ≡ None → (i : ℕ) → i < n → test i ≡ true
unfolding first_failing
all_pass test zero e i h = absurd (omega arith)
all_pass test (suc n) e i h =
    let p = none_left (first_failing test n) (test n) n e in
    ⊎_elim (λ (l : i < n). all_pass test n p.0 i l) (λ (l : n ≤ i). let at : i ≡ n = omega arith in ap test at ∙ p.1) (cases_lt i n)

line_fits : (t : Shape) (codes : List ℕ) → first_failing (admitted_at t codes) (line_count t) ≡ None → (s : Site) → has t s ≡ true → get_or codes (index_of t s) 0 < 2 ^ t.bits.count
line_fits t codes none s there =
    let i : ℕ = index_of t s in
    admits_small t.bits.count (component_at t i) (get_or codes i 0) (all_pass (admitted_at t codes) (line_count t) none i (index_small t s there))

-- ---- every call
some_fits : (b : Bool) (n v w : ℕ) → v < n → cond b (Some v) None ≡ Some w → w < n
some_fits true n v w h e = let z : v ≡ w = cc in omega arith
some_fits false n v w h e = let z : ◌≡◌ {A = ℕ} 0 1 = cc in absurd (omega arith)

pub writes_fit : (t : Shape) (come : ℕ) (call : Call) → Passed t come call → (s : Site) → has t s ≡ true → (v : ℕ) → writes t come call s ≡ Some v → v < 2 ^ t.bits.count
writes_fit t come (lay codes) p s there v e = some_fits _ (2 ^ t.bits.count) (get_or codes (index_of t s) 0) v (line_fits t codes p.1 s there) e
writes_fit t come (put z w) p s there v e = some_fits (same_site z s) (2 ^ t.bits.count) w v (admits_small t.bits.count z.component w p.1) e
writes_fit t come (fill c w) p s there v e = some_fits (same_component c s.component) (2 ^ t.bits.count) w v (admits_small t.bits.count c w p) e
writes_fit t come restart p s there v e = some_fits true (2 ^ t.bits.count) (resting t s) v (rests_fit t s) e
writes_fit t come (take z) p s there v e = let y : ◌≡◌ {A = ℕ} 0 1 = cc in absurd (omega arith)
