-- A component's codes of a line read one after the other, and a line's codes component by component.
use Rattle.std.proofs.Common.{◌≡◌, ℕ, ◌+◌, ◌-◌, ◌<◌, ◌≤◌, List, ◌++◌, length, get_or, take, drop, Ok, sym, ap, ◌∙◌, ⊎_elim, zero-add, arith}
use lib.Seq.{paste}
use Rattle.std.proofs.lemmas.List.FromFn.{length-map-range_with_len, get_or-map-range_with_len, fill_by_all}
use Rattle.std.proofs.lemmas.List.Edits.{paste_all, length-paste}
use Rattle.std.proofs.lemmas.List.{drop-drop, length-take-le, get_or-take, get_or_append_left, get_or-append_right}
use Rattle.std.proofs.lemmas.Bool.{cases_lt}
use Rattle.samples.specs.declared.component.Component.{Component}
use Rattle.samples.specs.declared.component.Component.TheVariants.{Luma, Cb, Cr, Alpha}
use Rattle.samples.specs.Shapes.{columns}
use Rattle.samples.specs.Lines.{first_of, line_count, site_of, site_at}
use Rattle.layout.specs.Meaning.{Meaning}
use Rattle.layout.specs.Images.{held, line_held, part_held}
use Rattle.layout.specs.Tests.{line_answer, line_read, part_read}
use Rattle.layout.proofs.Sites.{site_here, count_fits}
use Rattle.layout.proofs.Testing.{judged_passed, line_passed}

module _ (m : Meaning) (image : List ℕ) (line : ℕ) where
  -- the code at an index of the line
  abbrev code : ℕ → ℕ
  code k = held m image (site_at m.shape line k)

  -- the codes of a component in their places
  abbrev pub part_in : Component → List ℕ → List ℕ
  part_in c codes = paste codes (first_of m.shape c) (part_held m image line c) (columns m.shape c)

  pub part_length : (c : Component) → length (part_held m image line c) ≡ columns m.shape c
  part_length c = length-map-range_with_len (λ x. held m image (site_of c x line)) 0 (columns m.shape c)

  pub part_get : (c : Component) (x : ℕ) → x < columns m.shape c → get_or (part_held m image line c) x 0 ≡ held m image (site_of c x line)
  part_get c x h = get_or-map-range_with_len (λ z. held m image (site_of c z line)) 0 (columns m.shape c) x x 0 h (zero-add x)

  module _ (c : Component) (codes : List ℕ) (count : length codes ≡ line_count m.shape) where
    -- codes put in their places
    pub part_put : (items : List ℕ) (first n : ℕ) → first ≡ first_of m.shape c → n ≡ columns m.shape c → length items ≡ columns m.shape c → ((k : ℕ) → k < columns m.shape c → get_or items k 0 ≡ held m image (site_of c k line)) → take first codes ++ (items ++ drop n (drop first codes)) ≡ part_in c codes
    part_put items first n e d long each =
        let f : ℕ = first_of m.shape c in
        let k : ℕ = columns m.shape c in
        let s : List ℕ = part_held m image line c in
        let is : items ≡ s = fill_by_all (λ x. held m image (site_of c x line)) items k 0 long each in
        ap (λ z. take z codes ++ (items ++ drop n (drop z codes))) e
        ∙ ap (λ z. take f codes ++ (items ++ drop z (drop f codes))) d
        ∙ ap (λ xs. take f codes ++ (xs ++ drop k (drop f codes))) is
        ∙ ap (λ xs. take f codes ++ (s ++ xs)) (drop-drop k f codes)
        ∙ sym (paste_all codes f s k (sym (part_length c)))

    -- after a component's, the codes up to its end are the line's, where those before it are
    part_next : ((k : ℕ) → k < first_of m.shape c → get_or codes k 0 ≡ code k) → (k : ℕ) → k < first_of m.shape c + columns m.shape c → get_or (part_in c codes) k 0 ≡ code k
    part_next before k h =
        let f : ℕ = first_of m.shape c in
        let n : ℕ = columns m.shape c in
        let s : List ℕ = part_held m image line c in
        let rest : List ℕ = s ++ drop (f + n) codes in
        let long : length (take f codes) ≡ f = length-take-le f codes (omega (arith, count, count_fits m.shape c)) in
        ap (λ xs. get_or xs k 0) (paste_all codes f s n (sym (part_length c)))
        ∙ ⊎_elim
        (λ (l : k < f).
        get_or_append_left (take f codes) rest 0 k (omega (arith, long)) ∙ get_or-take f codes k 0 l ∙ before k l)
        (λ (l : f ≤ k).
        let x : ℕ = k - f in
        let in' : x < n = omega arith in
        let there : f + x ≡ k = omega arith in
        get_or-append_right (take f codes) rest f k 0 long l
        ∙ get_or_append_left s (drop (f + n) codes) 0 x (omega (arith, part_length c))
        ∙ part_get c x in'
        ∙ ap (held m image) (sym (site_here m.shape line c x in'))
        ∙ ap code there)
        (cases_lt k f)

    part_kept : length (part_in c codes) ≡ line_count m.shape
    part_kept =
        length-paste codes (first_of m.shape c) (part_held m image line c) (columns m.shape c) (omega (arith, count, count_fits m.shape c)) (omega (arith, part_length c)) ∙ count

  read_all : (c : Component) (codes r : List ℕ) → length image ≡ m.size → line < m.shape.size.height → length codes ≡ line_count m.shape → r ≡ part_read m image line c codes → (length r ≡ line_count m.shape) × (((k : ℕ) → k < first_of m.shape c → get_or codes k 0 ≡ code k) → (k : ℕ) → k < first_of m.shape c + columns m.shape c → get_or r k 0 ≡ code k)
  read_all c codes r long low count e =
      let is : r ≡ part_in c codes = e ∙ line_passed m image (λ _. codes) (part_in c codes) line (length codes) long low count in
      (ap length is ∙ part_kept c codes count, λ before k h. ap (λ xs. get_or xs k 0) is ∙ part_next c codes count before k h)

  -- the four components after each other
  pub parts_read : (codes one two three four : List ℕ) → line_answer m image line codes ≡ Ok tt → one ≡ part_read m image line Luma codes → two ≡ part_read m image line Cb one → three ≡ part_read m image line Cr two → four ≡ part_read m image line Alpha three → four ≡ line_read m image line codes
  parts_read codes one two three four ok e1 e2 e3 e4 =
      let p = judged_passed (length image) m.size m.shape line (length codes) ok in
      let r1 = read_all Luma codes one p.long p.low p.count e1 in
      let r2 = read_all Cb one two p.long p.low r1.0 e2 in
      let r3 = read_all Cr two three p.long p.low r2.0 e3 in
      let r4 = read_all Alpha three four p.long p.low r3.0 e4 in
      let luma : (k : ℕ) → k < columns m.shape Luma → get_or one k 0 ≡ code k = λ k h. r1.1 (λ _ l. absurd (omega arith)) k (omega arith) in
      fill_by_all code four (line_count m.shape) 0 r4.0 (r4.1 (r3.1 (r2.1 luma)))
      ∙ sym (line_passed m image (λ _. codes) (line_held m image line) line (length codes) p.long p.low p.count)
