-- Plane words: one word of 32 bits for each site, component by component, by picture line, then column.
use Rattle.std.specs.Prelude.{ℕ, ◌+◌, ◌-◌, ◌*◌, ◌/◌, ◌%◌, ◌^◌, cond, Some, None, Option, nat_lt}
use Rattle.samples.specs.declared.component.Component.{Component}
use Rattle.samples.specs.declared.shape.Shape.{Shape}
use Rattle.samples.specs.declared.site.Site.{Site}
use Rattle.samples.specs.Components.{component_number}
use Rattle.samples.specs.Parts.{before, whole, part_at}
use Rattle.samples.specs.Shapes.{columns}
use Rattle.samples.specs.Lines.{site_of}
use Rattle.image.specs.Bits.{bit_of}
use Rattle.layout.specs.Meaning.{Meaning}

-- how many words a component has
abbrev pub plane : Shape → Component → ℕ
plane t c = columns t c * t.size.height

-- how many words stand before those of a component, and how many there are
abbrev pub offset : Shape → Component → ℕ
offset t c = before (plane t) c

abbrev pub words : Shape → ℕ
words t = whole (plane t)

-- the component of word q; past the words, none
abbrev pub plane_of : Shape → ℕ → Option Component
plane_of t q = cond (nat_lt q (words t)) (Some (part_at (plane t) q)) None

-- the word of a site, in bits: a code stands in the lowest bits of its word
abbrev pub word_start : Shape → Site → ℕ
word_start t s = 32 * (offset t s.component + (s.line.0 * columns t s.component + s.column))

-- the site of word q of a component
abbrev pub site_in : Shape → ℕ → Option Component → Option Site
site_in t q None = None
site_in t q (Some c) = Some (site_of c ((q - offset t c) % columns t c) ((q - offset t c) / columns t c))

-- bits 0 to n - 1 of a word belong to its site
abbrev pub word_owner : Shape → ℕ → Option Site
word_owner t b = cond (nat_lt (b % 32) t.bits.count) (site_in t (b / 32) (plane_of t (b / 32))) None

-- a word with no code: its component's number in the top two bits
abbrev pub blank_of : Option Component → ℕ
blank_of None = 0
blank_of (Some c) = component_number c * 2 ^ 30

abbrev pub plane_words : Shape → Meaning
plane_words t = record {
  shape = t;
  size = 4 * words t;
  start = word_start t;
  owner = word_owner t;
  fixed = λ b. bit_of (blank_of (plane_of t (b / 32))) (b % 32);
}
