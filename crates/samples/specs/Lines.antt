-- The codes of one line: all of Y', then Cb, Cr, A, each by column.
use Rattle.std.specs.Prelude.{ℕ, ◌+◌, ◌-◌}
use Rattle.samples.specs.declared.component.Component.{Component}
use Rattle.samples.specs.declared.shape.Shape.{Shape}
use Rattle.samples.specs.declared.site.Site.{Site}
use Rattle.samples.specs.Parts.{before, whole, part_at}
use Rattle.samples.specs.Shapes.{columns}

-- where a component's codes begin
abbrev pub first_of : Shape → Component → ℕ
first_of t c = before (columns t) c

-- how many codes a line has
abbrev pub line_count : Shape → ℕ
line_count t = whole (columns t)

-- the index of a site's code: the first of its component, plus its column
abbrev pub index_of : Shape → Site → ℕ
index_of t s = first_of t s.component + s.column

abbrev pub site_of : Component → ℕ → ℕ → Site
site_of c x l = record { component = c; column = x; line = record { 0 = l } }

-- the component of the code at an index
abbrev pub component_at : Shape → ℕ → Component
component_at t i = part_at (columns t) i

-- the site of the code at an index of picture line l
abbrev pub site_at : Shape → ℕ → ℕ → Site
site_at t l i = site_of (component_at t i) (i - first_of t (component_at t i)) l
