-- The first code of a line that is not admitted.
use Rattle.std.proofs.Common.{◌≡◌, ℕ, ◌+◌, ◌-◌, ◌<◌, ◌≤◌, Bool, true, false, cond, not, List, [], ◌∷◌, length, get_or, position, option_map, slice_range, drop, Some, None, Option, sym, refl, ap, ◌∙◌, add-one, add-zero, arith}
use Rattle.std.specs.List.{position_from}
use Rattle.std.proofs.lemmas.Iterator.Adapters.{position_from-zero}
use Rattle.std.proofs.lemmas.List.{get_or-take, get_or-drop, length-take-le, length-drop}
use Rattle.samples.specs.declared.component.Component.{Component}
use Rattle.samples.specs.declared.component.Component.TheVariants.{Luma, Cb, Cr, Alpha}
use Rattle.samples.specs.declared.shape.Shape.{Shape}
use Rattle.samples.specs.Codes.{admits}
use Rattle.samples.specs.Lines.{first_of, line_count}
use Rattle.samples.specs.Shapes.{columns}
use Rattle.samples.proofs.Dividing.{part_here}
use Rattle.layout.proofs.Sites.{count_fits}
use Rattle.frame.specs.Calls.{admitted_at, or_else, first_failing}

or_none : (o : Option ℕ) → or_else o None ≡ o
or_none (Some i) = refl
or_none None = refl

one_more : (o : Option ℕ) (b : Bool) (a : ℕ) (r : Option ℕ) → or_else o (cond b (Some a) r) ≡ or_else (or_else o (cond (not b) None (Some a))) r
one_more (Some i) b a r = refl
one_more None true a r = refl
one_more None false a r = refl

map_cond : (f : ℕ → ℕ) (b : Bool) (k : ℕ) (r : Option ℕ) → option_map f (cond b (Some k) r) ≡ cond b (Some (f k)) (option_map f r)
map_cond f true k r = refl
map_cond f false k r = refl

not_not : (b : Bool) → b ≡ not (not b)
not_not true = refl
not_not false = refl

-- a search of a list whose first element stands at index a of another
shifted : (p : ℕ → Bool) (a k : ℕ) (xs : List ℕ) → option_map (λ i. a + i) (position_from p k xs) ≡ position_from p (a + k) xs
shifted p a k [] = refl
shifted p a k (x ∷ xs) =
    let next : a + (k + 1) ≡ a + k + 1 = omega arith in
    map_cond (λ i. a + i) (p x) k (position_from p (k + 1) xs)
    ∙ ap (cond (p x) (Some (a + k))) (shifted p a (k + 1) xs ∙ ap (λ z. position_from p z xs) next)

-- what fails first is what fails before a, or else what a search of the list from a on finds
sought : (test p : ℕ → Bool) (a : ℕ) (xs : List ℕ) → ((i : ℕ) → i < length xs → test (a + i) ≡ not (p (get_or xs i 0))) → or_else (first_failing test a) (position_from p a xs) ≡ first_failing test (a + length xs)
unfolding first_failing
sought test p a [] h = or_none (first_failing test a) ∙ ap (first_failing test) (sym (add-zero a))
sought test p a (x ∷ xs) h =
    let rest : Option ℕ = position_from p (a + 1) xs in
    let here : test a ≡ not (p x) = ap test (sym (add-zero a)) ∙ h 0 (omega arith) in
    let more : first_failing test (a + 1) ≡ or_else (first_failing test a) (cond (test a) None (Some a)) = ap (first_failing test) (add-one a) in
    let end : a + 1 + length xs ≡ a + length (x ∷ xs) = omega arith in
    one_more (first_failing test a) (p x) a rest
    ∙ ap (λ b. or_else (or_else (first_failing test a) (cond b None (Some a))) rest) (sym here)
    ∙ ap (λ o. or_else o rest) (sym more)
    ∙ sought test p (a + 1) xs
    (λ i l.
    let at : a + 1 + i ≡ a + (i + 1) = omega arith in
    ap test at ∙ h (i + 1) (omega (arith, l)) ∙ ap (λ k. not (p (get_or (x ∷ xs) k 0))) (add-one i))
    ∙ ap (first_failing test) end

-- ---- a line, component by component
module _ (t : Shape) (codes : List ℕ) (long : length codes ≡ line_count t) where
  abbrev pub bad_below : ℕ → Option ℕ
  bad_below n = first_failing (admitted_at t codes) n

  -- the first code of a component that is not admitted, by its index in the line
  abbrev pub bad_in : Component → Option ℕ
  bad_in c = option_map (λ x. first_of t c + x) (position (λ v. not (admits t.bits.count c v)) (slice_range codes (first_of t c) (first_of t c + columns t c)))

  part_sought : (c : Component) → or_else (bad_below (first_of t c)) (bad_in c) ≡ bad_below (first_of t c + columns t c)
  part_sought c =
      let a : ℕ = first_of t c in
      let n : ℕ = columns t c in
      let p : ℕ → Bool = λ v. not (admits t.bits.count c v) in
      let part : List ℕ = slice_range codes a (a + n) in
      let fits : a + n ≤ line_count t = count_fits t c in
      let width : a + n - a ≡ n = omega arith in
      let left : length (drop a codes) ≡ length codes - a = length-drop a codes in
      let count : length part ≡ n = length-take-le (a + n - a) (drop a codes) (omega (arith, left, long, fits)) ∙ width in
      let found : option_map (λ x. a + x) (position p part) ≡ position_from p a part =
      ap (option_map (λ x. a + x)) (position_from-zero p part) ∙ shifted p a 0 part ∙ ap (λ z. position_from p z part) (add-zero a) in
      ap (or_else (bad_below a)) found
      ∙ sought (admitted_at t codes) p a part
      (λ i l.
      let low : i < n = omega (arith, l, count) in
      let same : get_or part i 0 ≡ get_or codes (a + i) 0 = get_or-take (a + n - a) (drop a codes) i 0 (omega (arith, low)) ∙ get_or-drop a codes i 0 in
      ap (λ k. admits t.bits.count k (get_or codes (a + i) 0)) (part_here (columns t) c i low)
      ∙ ap (admits t.bits.count c) (sym same)
      ∙ not_not (admits t.bits.count c (get_or part i 0)))
      ∙ ap (λ k. bad_below (a + k)) count

  -- the four components in their order
  pub line_sought : or_else (or_else (or_else (bad_in Luma) (bad_in Cb)) (bad_in Cr)) (bad_in Alpha) ≡ bad_below (line_count t)
  unfolding first_failing
  line_sought =
      let luma : bad_in Luma ≡ bad_below (first_of t Cb) = let at : first_of t Luma + columns t Luma ≡ first_of t Cb = omega arith in part_sought Luma ∙ ap bad_below at in
      let cb : or_else (bad_in Luma) (bad_in Cb) ≡ bad_below (first_of t Cr) = ap (λ o. or_else o (bad_in Cb)) luma ∙ part_sought Cb in
      let cr : or_else (or_else (bad_in Luma) (bad_in Cb)) (bad_in Cr) ≡ bad_below (first_of t Alpha) = ap (λ o. or_else o (bad_in Cr)) cb ∙ part_sought Cr in
      ap (λ o. or_else o (bad_in Alpha)) cr ∙ part_sought Alpha
