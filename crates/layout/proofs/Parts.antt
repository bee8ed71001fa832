-- A component's codes of a line written one after the other, and a line's codes component by component.
use Rattle.std.proofs.Common.{◌≡◌, ℕ, ◌+◌, ◌<◌, Bool, true, false, cond, ◌&&◌, eqb, ltb, List, length, get_or, Some, None, Ok, Option, sym, refl, ap, ◌∙◌, ⊎_elim, arith}
use Rattle.std.proofs.lemmas.Bool.{cases_Bool, eqb-true, lt-ltb, le-ltb, cond-true, cond-false}
use Rattle.std.proofs.lemmas.Bool.Decides.{nat_tests}
use Rattle.image.specs.Bits.{written, width as code_width}
use Rattle.image.proofs.Images.{Bytes}
use Rattle.samples.specs.declared.component.Component.{Component}
use Rattle.samples.specs.declared.component.Component.TheVariants.{Luma, Cb, Cr, Alpha}
use Rattle.samples.specs.declared.shape.Shape.{Shape}
use Rattle.samples.specs.declared.site.Site.{Site}
use Rattle.samples.specs.Components.{component_number}
use Rattle.samples.specs.Shapes.{columns, has}
use Rattle.samples.specs.Lines.{first_of, index_of, site_of}
use Rattle.layout.specs.Meaning.{Meaning, Lawful, width}
use Rattle.layout.specs.Images.{rewritten, same_site, only, laid, part_laid}
use Rattle.layout.specs.Tests.{line_answer, line_written, part_written}
use Rattle.layout.proofs.Sites.{code_width_is, same_component, same_site_true, has_parts, has_from}
use Rattle.layout.proofs.Testing.{Passed, judged_passed, line_passed}
use Rattle.layout.proofs.Writing.{later, rewritten_length, rewritten_ext, rewritten_twice, written_only, begins, goes_on}

-- the first n codes of a component
abbrev pub part_below : Shape → ℕ → Component → List ℕ → ℕ → Site → Option ℕ
part_below t l c codes n s = cond (ltb s.column n) (part_laid t l c codes s) None

-- ---- over plain numbers: component p, column x, line y
here : (p n y : ℕ) (o : Option ℕ) → o ≡ cond (ltb n (n + 1)) (cond (eqb p p) (cond (eqb y y) o None) None) None
here p n y o = grind (arith, nat_tests)

elsewhere : (p q n x l y : ℕ) (o : Option ℕ) → (eqb p q && (eqb n x && eqb l y)) ≡ false → cond (ltb x n) (cond (eqb p q) (cond (eqb y l) o None) None) None ≡ cond (ltb x (n + 1)) (cond (eqb p q) (cond (eqb y l) o None) None) None
elsewhere p q n x l y o e = grind (arith, nat_tests)

module _ (t : Shape) (line : ℕ) (c : Component) (codes : List ℕ) where
  -- one code more
  part_more : (n : ℕ) (s : Site) → later (only (site_of c n line) (get_or codes (first_of t c + n) 0) s) (part_below t line c codes n s) ≡ part_below t line c codes (n + 1) s
  part_more n s =
      let z : Site = site_of c n line in
      let v : ℕ = get_or codes (first_of t c + n) 0 in
      let old : Option ℕ = part_below t line c codes n s in
      ⊎_elim
      (λ (e : same_site z s ≡ true).
      ap (λ o. later o old) (cond-true (same_site z s) (Some v) None e)
      ∙ here (component_number c) n line (Some v)
      ∙ ap (part_below t line c codes (n + 1)) (same_site_true z s e))
      (λ (e : same_site z s ≡ false).
      ap (λ o. later o old) (cond-false (same_site z s) (Some v) None e)
      ∙ elsewhere (component_number c) (component_number s.component) n s.column line s.line.0 (Some (get_or codes (index_of t s) 0)) e)
      (cases_Bool (same_site z s))

  part_none : (s : Site) → part_below t line c codes 0 s ≡ None
  part_none s = cond-false (ltb s.column 0) (part_laid t line c codes s) None (le-ltb s.column 0 (omega arith))

  part_all : (s : Site) → has t s ≡ true → part_below t line c codes (columns t c) s ≡ part_laid t line c codes s
  part_all s there =
      let same : Bool = eqb (component_number c) (component_number s.component) in
      ⊎_elim
      (λ (e : same ≡ true).
      let k : c ≡ s.component = same_component c s.component (eqb-true _ _ e) in
      let in' : s.column < columns t c = omega (arith, (has_parts t s there).0, ap (columns t) k) in
      cond-true (ltb s.column (columns t c)) (part_laid t line c codes s) None (lt-ltb s.column (columns t c) in'))
      (λ (e : same ≡ false).
      let none : part_laid t line c codes s ≡ None = cond-false same (laid t line codes s) None e in
      ap (λ o. cond (ltb s.column (columns t c)) o None) none ∙ never (ltb s.column (columns t c)) None ∙ sym none)
      (cases_Bool same)
    where
      never : (b : Bool) (o : Option ℕ) → cond b o o ≡ o
      never true o = refl
      never false o = refl

-- the codes of a line are those of its components
all_parts : (c : Component) (o : Option ℕ) → later (cond (eqb (component_number Alpha) (component_number c)) o None) (later (cond (eqb (component_number Cr) (component_number c)) o None) (later (cond (eqb (component_number Cb) (component_number c)) o None) (cond (eqb (component_number Luma) (component_number c)) o None))) ≡ o
all_parts Luma o = refl
all_parts Cb None = refl
all_parts Cb (Some v) = refl
all_parts Cr None = refl
all_parts Cr (Some v) = refl
all_parts Alpha None = refl
all_parts Alpha (Some v) = refl

module _ (m : Meaning) (laws : Lawful m) (image : List ℕ) (line : ℕ) (codes : List ℕ) where
  module _ (c : Component) where
    pub part_begun : Bytes image → image ≡ rewritten m (part_below m.shape line c codes 0) image
    part_begun small = begins m laws image small (part_below m.shape line c codes 0) (part_none m.shape line c codes)

    pub part_step : (now' after : List ℕ) (n b v : ℕ) → n < columns m.shape c → line < m.shape.size.height → now' ≡ rewritten m (part_below m.shape line c codes n) image → b ≡ m.start (site_of c n line) → v ≡ get_or codes (first_of m.shape c + n) 0 → after ≡ written (code_width (width m)) b v now' → after ≡ rewritten m (part_below m.shape line c codes (n + 1)) image
    part_step now' after n b v h l inv at new e =
        let t : Shape = m.shape in
        let z : Site = site_of c n line in
        let old : ℕ = get_or codes (first_of t c + n) 0 in
        goes_on m laws image now' after (part_below t line c codes n) (only z old) (part_below t line c codes (n + 1)) (λ s _. part_more t line c codes n s) inv
        (e ∙ ap (λ w. written w b v now') (code_width_is t)
        ∙ ap (λ k. written (width m) k v now') at
        ∙ ap (λ k. written (width m) (m.start z) k now') new
        ∙ written_only m laws z (has_from t z h l) now' old)

    pub part_ended : (now' : List ℕ) (n : ℕ) → n ≡ columns m.shape c → now' ≡ rewritten m (part_below m.shape line c codes n) image → now' ≡ rewritten m (part_laid m.shape line c codes) image
    part_ended now' n e inv =
        inv ∙ ap (λ k. rewritten m (part_below m.shape line c codes k) image) e
        ∙ rewritten_ext m laws image (part_below m.shape line c codes (columns m.shape c)) (part_laid m.shape line c codes) (part_all m.shape line c codes)

  parts_laid : rewritten m (part_laid m.shape line Alpha codes) (rewritten m (part_laid m.shape line Cr codes) (rewritten m (part_laid m.shape line Cb codes) (rewritten m (part_laid m.shape line Luma codes) image))) ≡ rewritten m (laid m.shape line codes) image
  parts_laid =
      let part : Component → Site → Option ℕ = λ c. part_laid m.shape line c codes in
      let two : Site → Option ℕ = λ s. later (part Cb s) (part Luma s) in
      let three : Site → Option ℕ = λ s. later (part Cr s) (two s) in
      ap (λ i. rewritten m (part Alpha) (rewritten m (part Cr) i)) (rewritten_twice m laws image (part Luma) (part Cb))
      ∙ ap (rewritten m (part Alpha)) (rewritten_twice m laws image two (part Cr))
      ∙ rewritten_twice m laws image three (part Alpha)
      ∙ rewritten_ext m laws image (λ s. later (part Alpha s) (three s)) (laid m.shape line codes) (λ s _. all_parts s.component (laid m.shape line codes s))

  write_all : (c : Component) (old r : List ℕ) → Passed (length image) m.size m.shape line (length codes) → length old ≡ length image → r ≡ part_written m old line c codes → (length r ≡ length image) × (r ≡ rewritten m (part_laid m.shape line c codes) old)
  write_all c old r p long e =
      let new : Site → Option ℕ = part_laid m.shape line c codes in
      let is : r ≡ rewritten m new old =
      e ∙ line_passed m old (λ _. old) (rewritten m new old) line (length codes) (long ∙ p.long) p.low p.count in
      (ap length is ∙ rewritten_length m new old ∙ long, is)

  -- the four components after each other
  pub parts_written : (one two three four : List ℕ) → line_answer m image line codes ≡ Ok tt → one ≡ part_written m image line Luma codes → two ≡ part_written m one line Cb codes → three ≡ part_written m two line Cr codes → four ≡ part_written m three line Alpha codes → four ≡ line_written m image line codes
  parts_written one two three four ok e1 e2 e3 e4 =
      let p = judged_passed (length image) m.size m.shape line (length codes) ok in
      let part : Component → List ℕ → List ℕ = λ c. rewritten m (part_laid m.shape line c codes) in
      let w1 = write_all Luma image one p refl e1 in
      let w2 = write_all Cb one two p w1.0 e2 in
      let w3 = write_all Cr two three p w2.0 e3 in
      let w4 = write_all Alpha three four p w3.0 e4 in
      w4.1 ∙ ap (part Alpha) w3.1 ∙ ap (λ i. part Alpha (part Cr i)) w2.1 ∙ ap (λ i. part Alpha (part Cr (part Cb i))) w1.1
      ∙ parts_laid
      ∙ sym (line_passed m image (λ _. image) (rewritten m (laid m.shape line codes) image) line (length codes) p.long p.low p.count)
