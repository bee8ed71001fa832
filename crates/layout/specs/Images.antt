-- What an image holds, and an image with some codes replaced.
use Rattle.std.specs.Prelude.{ℕ, ◌-◌, Bool, cond, ◌&&◌, List, map, length, Some, None, Option, ◌==◌, nat_lt, slice_index}
use Rattle.std.specs.List.{range_with_len}
use Rattle.image.specs.Bits.{bit_of, bit, code_at, image_of}
use Rattle.samples.specs.declared.component.Component.{Component}
use Rattle.samples.specs.declared.shape.Shape.{Shape}
use Rattle.samples.specs.declared.site.Site.{Site}
use Rattle.samples.specs.Codes.{rest_of}
use Rattle.samples.specs.Components.{component_number}
use Rattle.samples.specs.Shapes.{has, columns}
use Rattle.samples.specs.Lines.{line_count, index_of, component_at, site_of, site_at}
use Rattle.layout.specs.Meaning.{Meaning, width}

-- the code of a site in an image
abbrev pub code_of : Meaning → List ℕ → Site → ℕ
code_of m image s = code_at (width m) (m.start s) image

-- the codes that an image holds; 0 at a site that the shape lacks
abbrev pub held : Meaning → List ℕ → Site → ℕ
held m image s = cond (has m.shape s) (code_of m image s) 0

-- the codes of a picture line that an image holds, in the order of a line
abbrev pub line_held : Meaning → List ℕ → ℕ → List ℕ
line_held m image l = map (λ i. held m image (site_at m.shape l i)) (range_with_len 0 (line_count m.shape))

-- those of one component, by column
abbrev pub part_held : Meaning → List ℕ → ℕ → Component → List ℕ
part_held m image l c = map (λ x. held m image (site_of c x l)) (range_with_len 0 (columns m.shape c))

-- the image that holds given codes: a bit of a site's run is that of its code, any other has its fixed value
abbrev pub bit_held : Meaning → (Site → ℕ) → ℕ → Option Site → Bool
bit_held m codes b (Some s) = bit_of (codes s) (b - m.start s)
bit_held m codes b None = m.fixed b

abbrev pub holding : Meaning → (Site → ℕ) → List ℕ
holding m codes = image_of m.size (λ b. bit_held m codes b (m.owner b))

-- each site at its rest code
abbrev pub resting : Shape → Site → ℕ
resting t s = rest_of t.bits.count s.component

-- the rest code at an index of a line
abbrev pub rest_at : Shape → ℕ → ℕ
rest_at t i = rest_of t.bits.count (component_at t i)

abbrev pub blank : Meaning → List ℕ
blank m = holding m (resting m.shape)

-- an image with no codes: each fixed bit at its value, every other bit 0
abbrev pub wiped : Meaning → List ℕ
wiped m = image_of m.size m.fixed

-- the image with new codes at some sites: a bit is that of the new code where its owner gets one, else as it was
abbrev pub bit_new : Meaning → List ℕ → ℕ → Site → Option ℕ → Bool
bit_new m image b s (Some v) = bit_of v (b - m.start s)
bit_new m image b s None = bit image b

abbrev pub bit_written : Meaning → (Site → Option ℕ) → List ℕ → ℕ → Option Site → Bool
bit_written m new image b (Some s) = bit_new m image b s (new s)
bit_written m new image b None = bit image b

abbrev pub rewritten : Meaning → (Site → Option ℕ) → List ℕ → List ℕ
rewritten m new image = image_of (length image) (λ b. bit_written m new image b (m.owner b))

-- whether two components are one
abbrev pub same_component : Component → Component → Bool
same_component a b = component_number a == component_number b

abbrev pub same_site : Site → Site → Bool
same_site a b = same_component a.component b.component && (a.column == b.column && a.line.0 == b.line.0)

-- a new code at one site
abbrev pub only : Site → ℕ → Site → Option ℕ
only s v z = cond (same_site s z) (Some v) None

-- a new code at every site of a component
abbrev pub filled : Component → ℕ → Site → Option ℕ
filled c v s = cond (same_component c s.component) (Some v) None

-- at its first n columns on picture line l alone
abbrev pub filled_row : Component → ℕ → ℕ → ℕ → Site → Option ℕ
filled_row c v l n s =
    cond (same_component c s.component && (s.line.0 == l && nat_lt s.column n)) (Some v) None

-- the codes of picture line l, each at its site
abbrev pub laid : Shape → ℕ → List ℕ → Site → Option ℕ
laid t l codes s = cond (s.line.0 == l) (Some (slice_index codes (index_of t s))) None

-- those of one component alone
abbrev pub part_laid : Shape → ℕ → Component → List ℕ → Site → Option ℕ
part_laid t l c codes s = cond (same_component c s.component) (laid t l codes s) None
