-- Writes one after another: a component filled column by column and line by line, and an image blanked line by line.
use Rattle.std.proofs.Common.{◌≡◌, ℕ, ◌+◌, ◌<◌, Bool, true, false, cond, ◌&&◌, ◌||◌, eqb, ltb, List, get_or, Some, None, Option, sym, refl, ap, ◌∙◌, ⊎_elim, arith}
use Rattle.std.proofs.lemmas.Bool.{cases_order, and_right, ne_eqb, eq-eqb, eqb-true, lt-ltb, le-ltb}
use Rattle.samples.specs.declared.component.Component.{Component}
use Rattle.samples.specs.declared.shape.Shape.{Shape}
use Rattle.samples.specs.declared.site.Site.{Site}
use Rattle.samples.specs.Codes.{rest_of}
use Rattle.samples.specs.Components.{component_number}
use Rattle.samples.specs.Lines.{line_count, index_of, site_of}
use Rattle.samples.specs.Shapes.{columns, has}
use Rattle.samples.proofs.Dividing.{part_here}
use Rattle.layout.specs.Meaning.{Meaning, Lawful}
use Rattle.layout.specs.Images.{rewritten, wiped, resting, rest_at, blank, same_component, only, filled, filled_row, laid}
use Rattle.layout.proofs.Holding.{rewritten_wiped}
use Rattle.layout.proofs.Sites.{has_parts, index_small, same_component as component_is}
use Rattle.layout.proofs.Writing.{later, rewritten_ext}

-- ---- tests
and_true : (a : Bool) → (a && true) ≡ a
and_true true = refl
and_true false = refl

-- below n + 1: at n, or below n
below_next : (k n : ℕ) → (eqb n k || ltb k n) ≡ ltb k (n + 1)
below_next k n =
    ⊎_elim
    (λ (e : k ≡ n). ap (λ z. z || ltb k n) (eq-eqb n k (sym e)) ∙ sym (lt-ltb k (n + 1) (omega arith)))
    (⊎_elim
    (λ (h : k < n). ap (λ z. z || ltb k n) (ne_eqb n k (λ e. omega arith)) ∙ lt-ltb k n h ∙ sym (lt-ltb k (n + 1) (omega arith)))
    (λ (h : n < k). ap (λ z. z || ltb k n) (ne_eqb n k (λ e. omega arith)) ∙ le-ltb k n (omega arith) ∙ sym (le-ltb k (n + 1) (omega arith))))
    (cases_order k n)

eqb_sym : (a b : ℕ) → eqb a b ≡ eqb b a
eqb_sym a b =
    ⊎_elim
    (λ (e : a ≡ b). eq-eqb a b e ∙ sym (eq-eqb b a (sym e)))
    (⊎_elim (λ (h : a < b). ne_eqb a b (λ e. omega arith) ∙ sym (ne_eqb b a (λ e. omega arith))) (λ (h : b < a). ne_eqb a b (λ e. omega arith) ∙ sym (ne_eqb b a (λ e. omega arith))))
    (cases_order a b)

-- two writes of one code
later_or : (v : ℕ) (a b : Bool) → later (cond a (Some v) None) (cond b (Some v) None) ≡ cond (a || b) (Some v) None
later_or v true b = refl
later_or v false b = refl

-- ---- a component, column by column
-- a code at every site of a component on the first n lines
abbrev pub filled_rows : Component → ℕ → ℕ → Site → Option ℕ
filled_rows c v n s = cond (same_component c s.component && ltb s.line.0 n) (Some v) None

tests_more : (k a b c d : Bool) → (a || c) ≡ d → ((k && (a && b)) || (k && (b && c))) ≡ (k && (b && d))
tests_more false a b c d e = refl
tests_more true a false c d e = ap (λ z. z || false) (and_right a false refl)
tests_more true true true c d e = e
tests_more true false true c d e = e

pub row_more : (c : Component) (v line n : ℕ) (s : Site) → later (only (site_of c n line) v s) (filled_row c v line n s) ≡ filled_row c v line (n + 1) s
row_more c v line n s =
    let k : Bool = same_component c s.component in
    let b : Bool = eqb s.line.0 line in
    ap (λ z. later (cond (k && (eqb n s.column && z)) (Some v) None) (filled_row c v line n s)) (eqb_sym line s.line.0)
    ∙ later_or v (k && (eqb n s.column && b)) (k && (b && ltb s.column n))
    ∙ ap (λ z. cond z (Some v) None) (tests_more k (eqb n s.column) b (ltb s.column n) (ltb s.column (n + 1)) (below_next s.column n))

pub row_none : (c : Component) (v line : ℕ) (s : Site) → filled_row c v line 0 s ≡ None
row_none c v line s =
    ap (λ z. cond z (Some v) None)
    (and_right (same_component c s.component) (eqb s.line.0 line && ltb s.column 0) (and_right (eqb s.line.0 line) (ltb s.column 0) (le-ltb s.column 0 (omega arith))))

-- ---- and line by line
parts_more : (k a b c d : Bool) → (k ≡ true → b ≡ true) → (a || c) ≡ d → ((k && (a && b)) || (k && c)) ≡ (k && d)
parts_more false a b c d h e = refl
parts_more true true b c d h e = ap (λ z. z || c) (h refl) ∙ e
parts_more true false b c d h e = e

pub rows_more : (t : Shape) (c : Component) (v n : ℕ) (s : Site) → has t s ≡ true → later (filled_row c v n (columns t c) s) (filled_rows c v n s) ≡ filled_rows c v (n + 1) s
rows_more t c v n s there =
    let k : Bool = same_component c s.component in
    let a : Bool = eqb s.line.0 n in
    let b : Bool = ltb s.column (columns t c) in
    let one : k ≡ true → c ≡ s.component = λ e. component_is c s.component (eqb-true (component_number c) (component_number s.component) e) in
    later_or v (k && (a && b)) (k && ltb s.line.0 n)
    ∙ ap (λ z. cond z (Some v) None)
    (parts_more k a b (ltb s.line.0 n) (ltb s.line.0 (n + 1)) (λ e. ap (λ z. ltb s.column (columns t z)) (one e) ∙ lt-ltb s.column (columns t s.component) (has_parts t s there).0)
    (ap (λ z. z || ltb s.line.0 n) (eqb_sym s.line.0 n) ∙ below_next s.line.0 n))

pub rows_none : (c : Component) (v : ℕ) (s : Site) → filled_rows c v 0 s ≡ None
rows_none c v s = ap (λ z. cond z (Some v) None) (and_right (same_component c s.component) (ltb s.line.0 0) (le-ltb s.line.0 0 (omega arith)))

pub rows_all : (t : Shape) (c : Component) (v : ℕ) (s : Site) → has t s ≡ true → filled_rows c v t.size.height s ≡ filled c v s
rows_all t c v s there =
    ap (λ z. cond (same_component c s.component && z) (Some v) None) (lt-ltb s.line.0 t.size.height (has_parts t s there).1)
    ∙ ap (λ z. cond z (Some v) None) (and_true (same_component c s.component))

-- ---- every site at rest, line by line
-- the rest codes on the first n lines
abbrev pub rested : Shape → ℕ → Site → Option ℕ
rested t n s = cond (ltb s.line.0 n) (Some (resting t s)) None

later_either : (v w : ℕ) (a b : Bool) → (a ≡ true → w ≡ v) → later (cond a (Some w) None) (cond b (Some v) None) ≡ cond (a || b) (Some v) None
later_either v w true b e = ap (λ z. Some z) (e refl)
later_either v w false b e = refl

-- the code of a site in a line at rest
pub rest_here : (t : Shape) (s : Site) → has t s ≡ true → rest_at t (index_of t s) ≡ resting t s
rest_here t s there = ap (rest_of t.bits.count) (part_here (columns t) s.component s.column (has_parts t s there).0)

pub rested_more : (t : Shape) (codes : List ℕ) (n : ℕ) → ((i : ℕ) → i < line_count t → get_or codes i 0 ≡ rest_at t i) → (s : Site) → has t s ≡ true → later (laid t n codes s) (rested t n s) ≡ rested t (n + 1) s
rested_more t codes n rests s there =
    let v : ℕ = get_or codes (index_of t s) 0 in
    later_either (resting t s) v (eqb s.line.0 n) (ltb s.line.0 n) (λ _. rests (index_of t s) (index_small t s there) ∙ rest_here t s there)
    ∙ ap (λ z. cond z (Some (resting t s)) None) (ap (λ z. z || ltb s.line.0 n) (eqb_sym s.line.0 n) ∙ below_next s.line.0 n)

pub rested_none : (t : Shape) (s : Site) → rested t 0 s ≡ None
rested_none t s = ap (λ z. cond z (Some (resting t s)) None) (le-ltb s.line.0 0 (omega arith))

-- with every line at rest a wiped image is blank
pub rested_all : (m : Meaning) → Lawful m → rewritten m (rested m.shape m.shape.size.height) (wiped m) ≡ blank m
rested_all m laws =
    let t : Shape = m.shape in
    rewritten_ext m laws (wiped m) (rested t t.size.height) (λ s. Some (resting t s))
    (λ s there. ap (λ z. cond z (Some (resting t s)) None) (lt-ltb s.line.0 t.size.height (has_parts t s there).1))
    ∙ rewritten_wiped m laws (resting t)
