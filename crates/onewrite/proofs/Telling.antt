-- Where a call writes, in words and by its definition.
use Rattle.std.proofs.Common.{◌≡◌, ℕ, Bool, true, false, cond, eqb, get_or, Some, None, sym, refl, ap, ◌∙◌, subst, ⊎_elim}
use Rattle.std.proofs.lemmas.Bool.{cases_Bool, eqb-true, eq-eqb, cond-true, cond-false}
use Rattle.samples.specs.declared.shape.Shape.{Shape}
use Rattle.samples.specs.declared.site.Site.{Site}
use Rattle.samples.specs.Components.{component_number}
use Rattle.samples.specs.Lines.{index_of}
use Rattle.layout.specs.Images.{resting, same_component, same_site}
use Rattle.layout.proofs.Sites.{same_component as component-is, same_site_true, same_site_refl}
use Rattle.frame.specs.Calls.{Call, lay, put, fill, restart, take, time_of, writes}
use Rattle.onewrite.specs.Laws.{Writes}

taken_true : (b : Bool) (v : ℕ) → b ≡ true → cond b (Some v) None ≡ Some v
taken_true b v t = cond-true b (Some v) None t

pub writes_some : (t : Shape) (come : ℕ) (call : Call) (s : Site) (v : ℕ) → Writes t come call s v → writes t come call s ≡ Some v
writes_some t come (lay codes) s v w =
    taken_true (eqb (time_of t s.line.0) come) (get_or codes (index_of t s) 0) (eq-eqb (time_of t s.line.0) come w.0) ∙ ap (λ z. Some z) (sym w.1)
writes_some t come (put z u) s v w =
    taken_true (same_site z s) u (subst (λ y. same_site y s ≡ true) w.0 (same_site_refl s)) ∙ ap (λ y. Some y) (sym w.1)
writes_some t come (fill c u) s v w =
    taken_true (same_component c s.component) u (eq-eqb (component_number c) (component_number s.component) (ap component_number (sym w.0))) ∙ ap (λ y. Some y) (sym w.1)
writes_some t come restart s v w = ap (λ y. Some y) (sym w)
writes_some t come (take z) s v w = absurd w

-- a write that never happens
unless_true : (b : Bool) (v : ℕ) → (b ≡ true → ⊥) → cond b (Some v) None ≡ None
unless_true b v no' = ⊎_elim (λ (t : b ≡ true). absurd (no' t)) (λ (t : b ≡ false). cond-false b (Some v) None t) (cases_Bool b)

pub writes_none : (t : Shape) (come : ℕ) (call : Call) (s : Site) → ((v : ℕ) → Writes t come call s v → ⊥) → writes t come call s ≡ None
writes_none t come (lay codes) s never =
    unless_true (eqb (time_of t s.line.0) come) (get_or codes (index_of t s) 0) (λ e. never (get_or codes (index_of t s) 0) (eqb-true (time_of t s.line.0) come e, refl))
writes_none t come (put z u) s never = unless_true (same_site z s) u (λ e. never u (sym (same_site_true z s e), refl))
writes_none t come (fill c u) s never =
    unless_true (same_component c s.component) u (λ e. never u (sym (component-is c s.component (eqb-true (component_number c) (component_number s.component) e)), refl))
writes_none t come restart s never = absurd (never (resting t s) refl)
writes_none t come (take z) s never = refl
