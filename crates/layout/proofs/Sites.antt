-- Sites and the indices of their codes in a line.
use Rattle.std.proofs.Common.{◌≡◌, ℕ, ◌+◌, ◌-◌, ◌<◌, ◌≤◌, true, cond, ◌&&◌, eqb, ltb, List, length, get_or, take, drop, sym, refl, ap, ◌∙◌, arith}
use Rattle.std.proofs.lemmas.List.{length-take-le, length-drop, get_or-take, get_or-drop}
use Rattle.std.proofs.lemmas.Bool.{and_parts, and_from, eqb-true, eq-eqb, ltb-true, lt-ltb}
use Rattle.image.specs.Bits.{width}
use Rattle.samples.specs.declared.component.Component.{Component}
use Rattle.samples.specs.declared.component.Component.TheVariants.{Luma, Cb, Cr, Alpha}
use Rattle.samples.specs.declared.shape.Shape.{Shape}
use Rattle.samples.specs.declared.site.Site.{Site}
use Rattle.samples.specs.Components.{component_number}
use Rattle.samples.specs.Shapes.{columns, has}
use Rattle.samples.specs.Lines.{first_of, line_count, index_of, site_of, site_at}
use Rattle.samples.proofs.Dividing.{part_here, part_small}
use Rattle.layout.specs.Images.{same_site}

-- ---- one site
numbered : ℕ → Component
numbered p = cond (eqb p 0) Luma (cond (eqb p 1) Cb (cond (eqb p 2) Cr Alpha))

numbered_back : (a : Component) → numbered (component_number a) ≡ a
unfolding numbered
numbered_back Luma = refl
numbered_back Cb = refl
numbered_back Cr = refl
numbered_back Alpha = refl

-- a component is known by its number
pub same_component : (a b : Component) → component_number a ≡ component_number b → a ≡ b
same_component a b e = sym (numbered_back a) ∙ ap numbered e ∙ numbered_back b

pub same_site_true : (a b : Site) → same_site a b ≡ true → a ≡ b
same_site_true a b t =
    let p = and_parts (eqb (component_number a.component) (component_number b.component)) (eqb a.column b.column && eqb a.line.0 b.line.0) t in
    let q = and_parts (eqb a.column b.column) (eqb a.line.0 b.line.0) p.1 in
    let c : a.component ≡ b.component = same_component a.component b.component (eqb-true (component_number a.component) (component_number b.component) p.0) in
    let x : a.column ≡ b.column = eqb-true a.column b.column q.0 in
    let l : a.line.0 ≡ b.line.0 = eqb-true a.line.0 b.line.0 q.1 in
    ap (λ z. site_of z a.column a.line.0) c ∙ ap (λ z. site_of b.component z a.line.0) x ∙ ap (λ z. site_of b.component b.column z) l

pub same_site_refl : (a : Site) → same_site a a ≡ true
same_site_refl a =
    and_from (eqb (component_number a.component) (component_number a.component)) (eqb a.column a.column && eqb a.line.0 a.line.0) (eq-eqb (component_number a.component) (component_number a.component) refl)
    (and_from (eqb a.column a.column) (eqb a.line.0 a.line.0) (eq-eqb a.column a.column refl) (eq-eqb a.line.0 a.line.0 refl))

-- what it is to have a site
pub has_parts : (t : Shape) (s : Site) → has t s ≡ true → (s.column < columns t s.component) × (s.line.0 < t.size.height)
has_parts t s h =
    let p = and_parts (ltb s.column (columns t s.component)) (ltb s.line.0 t.size.height) h in
    (ltb-true s.column (columns t s.component) p.0, ltb-true s.line.0 t.size.height p.1)

pub has_from : (t : Shape) (s : Site) → s.column < columns t s.component → s.line.0 < t.size.height → has t s ≡ true
has_from t s x l =
    and_from (ltb s.column (columns t s.component)) (ltb s.line.0 t.size.height) (lt-ltb s.column (columns t s.component) x) (lt-ltb s.line.0 t.size.height l)

-- ---- the sites of a line
module _ (t : Shape) (line : ℕ) where
  pub site_here : (c : Component) (x : ℕ) → x < columns t c → site_at t line (first_of t c + x) ≡ site_of c x line
  site_here c x h =
      let i : ℕ = first_of t c + x in
      ap (λ k. site_of k (i - first_of t k) line) (part_here (columns t) c x h) ∙ ap (λ z. site_of c z line) (omega arith)

pub index_small : (t : Shape) (s : Site) → has t s ≡ true → index_of t s < line_count t
index_small t s h = part_small (columns t) s.component s.column (has_parts t s h).0

-- the codes of a component lie among those of the line
pub count_fits : (t : Shape) (c : Component) → first_of t c + columns t c ≤ line_count t
count_fits t Luma = omega arith
count_fits t Cb = omega arith
count_fits t Cr = omega arith
count_fits t Alpha = omega arith

pub part_span : (t : Shape) (c : Component) (codes : List ℕ) (first n : ℕ) → length codes ≡ line_count t → first ≡ first_of t c → n ≡ columns t c → length (take n (drop first codes)) ≡ columns t c
part_span t c codes first n count e d =
    length-take-le n (drop first codes) (omega (arith, length-drop first codes, count, count_fits t c, e, d)) ∙ d

-- the code at a column, among those of its component
pub part_code : (t : Shape) (c : Component) (codes : List ℕ) (first n x : ℕ) → first ≡ first_of t c → x < n → get_or (take n (drop first codes)) x 0 ≡ get_or codes (first_of t c + x) 0
part_code t c codes first n x e h =
    get_or-take n (drop first codes) x 0 h ∙ get_or-drop first codes x 0 ∙ ap (λ k. get_or codes (k + x) 0) e

-- a code has at most 16 bits
pub code_width_is : (t : Shape) → width t.bits.count ≡ t.bits.count
code_width_is t = omega (arith, t.bits.high)
