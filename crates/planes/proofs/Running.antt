-- A running position over a component's words of a line.
use Rattle.std.proofs.Common.{◌≡◌, ℕ, ◌+◌, ◌-◌, ◌*◌, ◌^◌, ◌<◌, ◌≤◌, true, List, length, take, drop, sym, ap, ◌∙◌, mul_comm, add-mul, arith}
use Rattle.std.specs.declared.ops.Range.{Range}
use Rattle.std.proofs.lemmas.Nat.{mul-le}
use Rattle.std.proofs.lemmas.Bool.{cond-true}
use Rattle.samples.specs.declared.component.Component.{Component}
use Rattle.samples.specs.declared.shape.Shape.{Shape}
use Rattle.samples.specs.declared.site.Site.{Site}
use Rattle.samples.specs.Shapes.{columns, has}
use Rattle.samples.specs.Lines.{first_of, line_count, site_of}
use Rattle.image.specs.Bits.{code_at, width}
use Rattle.layout.specs.Images.{held}
use Rattle.layout.proofs.Sites.{code_width_is, has_from, part_span}
use Rattle.planes.specs.Words.{offset, word_start, plane_words}
use Rattle.planes.specs.Parts.{fit_all, words_le}
use Rattle.planes.specs.Lawful.{planes_lawful}

-- no start overflows
pub start_fits : (t : Shape) (s : Site) → has t s ≡ true → word_start t s < 2 ^ 32
start_fits t s there = omega (arith, words_le t, (planes_lawful t).within s there)

-- the places r of a component's codes among those of a line
pub record Placed (t : Shape) (codes : List ℕ) (c : Component) (r : Range ℕ) : Type 0 where
  pub first : r.start ≡ first_of t c
  pub wide : r.end - r.start ≡ columns t c
  pub span : length (take (r.end - r.start) (drop r.start codes)) ≡ columns t c

pub placed : (t : Shape) (codes : List ℕ) (c : Component) (r : Range ℕ) → length codes ≡ line_count t → r ≡ record { start = first_of t c; end = first_of t c + columns t c } → Placed t codes c r
placed t codes c r count places =
    let first : r.start ≡ first_of t c = ap (λ q. q.start) places in
    let wide : r.end - r.start ≡ columns t c = omega (arith, first, ap (λ q. q.end) places) in
    record { first = first; wide = wide; span = part_span t c codes r.start (r.end - r.start) count first wide }

module _ (t : Shape) (line : ℕ) (low : line < t.size.height) (c : Component) where
  -- the words of a line lie among all words
  pub run_fits : offset t c + (line * columns t c + columns t c) ≤ 4 * (4096 * 2304)
  run_fits =
      let w : ℕ = columns t c in
      let one : (line + 1) * w ≤ t.size.height * w = mul-le (line + 1) w t.size.height w (omega arith) (omega arith) in
      omega (arith, one, add-mul line 1 w, mul_comm w t.size.height, fit_all t c, words_le t)

  -- the run of a component begins at a bit
  module _ (bit : ℕ) (at : bit ≡ 32 * (offset t c + line * columns t c)) (j : ℕ) (h : j < columns t c) where
    there : has t (site_of c j line) ≡ true
    there = has_from t (site_of c j line) h low

    pub start : bit + 32 * j ≡ word_start t (site_of c j line)
    start = omega arith

    -- what stands there is the code of the column
    pub run_read : (image : List ℕ) → code_at (width t.bits.count) (bit + 32 * j) image ≡ held (plane_words t) image (site_of c j line)
    run_read image =
        let n : ℕ = t.bits.count in
        let s = site_of c j line in
        ap (λ z. code_at z (bit + 32 * j) image) (code_width_is t)
        ∙ ap (λ z. code_at n z image) start
        ∙ sym (cond-true (has t s) (code_at n (word_start t s) image) 0 there)
