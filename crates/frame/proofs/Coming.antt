-- The line that comes next.
use Rattle.std.proofs.Common.{◌≡◌, ℕ, ◌<◌, true, cond, eqb, List, length, get_or, Some, None, Ok, Err, Result, sym, refl, ap, ◌∙◌, ⊎_elim, arith}
use Rattle.std.proofs.lemmas.Bool.{cases_eq, ne_eqb, eq-eqb, ltb-true}
use Rattle.samples.specs.declared.fault.Fault.{Fault}
use Rattle.samples.specs.declared.lines.PictureLine.{PictureLine}
use Rattle.samples.specs.declared.shape.Shape.{Shape}
use Rattle.samples.specs.declared.site.Site.{Site}
use Rattle.samples.specs.Lines.{line_count, index_of}
use Rattle.samples.specs.Shapes.{has}
use Rattle.samples.specs.Times.{picture_line}
use Rattle.samples.proofs.Timing.{times_are_lines}
use Rattle.layout.specs.Images.{rewritten, laid}
use Rattle.layout.specs.Meaning.{Meaning, Lawful}
use Rattle.layout.specs.Tests.{sized, line_written}
use Rattle.layout.proofs.Sites.{has_parts}
use Rattle.layout.proofs.Testing.{line_passed}
use Rattle.layout.proofs.Writing.{rewritten_ext}
use Rattle.frame.specs.Calls.{lay, tests, time_of, coming, next_line}
use Rattle.frame.proofs.Testing.{called_both}

-- a call cannot be both accepted and refused
pub ok_err : {X : Type 0} (r : Result X Fault) (x : X) (f : Fault) → r ≡ Ok x → r ≡ Err f → ⊥
ok_err r x f p q = let z : ◌≡◌ {A = ℕ} 0 1 = cc in omega arith

same_ok : (x y : PictureLine) → ◌≡◌ {A = Result PictureLine Fault} (Ok x) (Ok y) → x ≡ y
same_ok x y e = cc

-- what is known of the picture line that comes next
pub record Next (m : Meaning) (come : ℕ) (image codes : List ℕ) (line : ℕ) : Type 0 where
  pub long : length image ≡ m.size
  pub count : length codes ≡ line_count m.shape
  pub early : come < m.shape.size.height
  pub is : line ≡ picture_line m.shape.time m.shape.size.height come
  pub low : line < m.shape.size.height

module _ (m : Meaning) (come : ℕ) (image codes : List ℕ) (line : PictureLine) (e : Ok line ≡ next_line m come image codes) where
  -- whatever the tests end in, a lay that has its line comes to that end
  pub comes_to : {X : Type 0} (refused : Fault → X) (x : X) → sized m image refused (tests m.shape come (lay codes) refused x) ≡ x
  comes_to {X} refused x =
      called_both m come image (lay codes) (λ a b. Ok line ≡ a → b ≡ x) Err refused (λ f p. absurd (ok_err (Err f) line f (sym p) refl)) (λ _ _ _. refl) e

  pub next : Next m come image codes line.0
  next =
      called_both m come image (lay codes) (λ a _. Ok line ≡ a → Next m come image codes line.0) Err Err {y = Ok line} (λ f p. absurd (ok_err (Err f) line f (sym p) refl))
      (λ long passed p.
      let h : ℕ = m.shape.size.height in
      let early : come < h = ltb-true come h passed.2 in
      let is : line.0 ≡ picture_line m.shape.time h come = ap (λ z. z.0) (same_ok line (record { 0 = picture_line m.shape.time h come }) p) in
      record { long = long; count = passed.0; early = early; is = is; low = omega (arith, is, (times_are_lines m.shape.time h).back come early) })
      e

-- the codes of that picture line are those of the line that comes
coming_is : (m : Meaning) (come line : ℕ) (image codes : List ℕ) → Next m come image codes line → (s : Site) → has m.shape s ≡ true → laid m.shape line codes s ≡ coming m.shape come codes s
coming_is m come line image codes n s there =
    let t : Shape = m.shape in
    let l : ℕ = s.line.0 in
    let inverse = times_are_lines t.time t.size.height in
    let low : l < t.size.height = (has_parts t s there).1 in
    let back : picture_line t.time t.size.height (time_of t l) ≡ l = inverse.left l low in
    let forth : time_of t (picture_line t.time t.size.height come) ≡ come = inverse.right come n.early in
    let test : eqb l line ≡ eqb (time_of t l) come =
    ⊎_elim
    (λ (e : l ≡ line). eq-eqb l line e ∙ sym (eq-eqb (time_of t l) come (ap (time_of t) (e ∙ n.is) ∙ forth)))
    (λ (e : l ≡ line → ⊥). ne_eqb l line e ∙ sym (ne_eqb (time_of t l) come (λ k. e (sym back ∙ ap (picture_line t.time t.size.height) k ∙ sym n.is))))
    (cases_eq l line) in
    ap (λ b. cond b (Some (get_or codes (index_of t s) 0)) None) test

-- the line written there is the line that comes
pub line_comes : (m : Meaning) → Lawful m → (image after : List ℕ) (come line : ℕ) (codes : List ℕ) → Next m come image codes line → after ≡ line_written m image line codes → after ≡ rewritten m (coming m.shape come codes) image
line_comes m laws image after come line codes n e =
    let t : Shape = m.shape in
    e ∙ line_passed m image (λ _. image) (rewritten m (laid t line codes) image) line (length codes) n.long n.low n.count
    ∙ rewritten_ext m laws image (laid t line codes) (coming t come codes) (coming_is m come line image codes n)
