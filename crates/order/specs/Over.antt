-- What a layout means under a line order.
use Rattle.std.specs.Prelude.{ℕ, cond, nat_lt}
use Rattle.std.specs.Option.{option_map}
use Rattle.samples.specs.declared.lines.PictureLine.{PictureLine}
use Rattle.samples.specs.declared.site.Site.{Site}
use Rattle.samples.specs.Lines.{site_of}
use Rattle.samples.specs.Shapes.{retimed}
use Rattle.layout.specs.Meaning.{Meaning}
use Rattle.order.specs.declared.order.Order.{Order}
use Rattle.order.specs.Orders.{kind_of, stored}
use Rattle.order.specs.Notes.{S}

-- the picture line that line n below holds: S(n)
abbrev pub shown : Order → ℕ → ℕ → ℕ
shown o h n = S o h n

-- a site at another line
abbrev pub moved : (ℕ → ℕ) → Site → Site
moved f s = site_of s.component s.column (f s.line.0)

-- the layout m with its picture lines in another order: line s is held by line `stored s` of m, and nothing else moves
abbrev pub over : Order → Meaning → Meaning
over o m = record {
  shape = retimed (kind_of o) m.shape;
  size = m.size;
  start = λ s. m.start (moved (stored o m.shape.size.height) s);
  owner = λ b. option_map (moved (shown o m.shape.size.height)) (m.owner b);
  fixed = m.fixed;
}

-- a line of a picture of h lines moved; a line that it lacks stays
abbrev pub line_by : (ℕ → ℕ) → ℕ → PictureLine → PictureLine
line_by f h l = record { 0 = cond (nat_lt l.0 h) (f l.0) l.0 }

-- the line below that holds a line, and the line that a line below holds
abbrev pub line_under : Order → Meaning → PictureLine → PictureLine
line_under o m l = line_by (stored o m.shape.size.height) m.shape.size.height l

abbrev pub line_over : Order → Meaning → PictureLine → PictureLine
line_over o m l = line_by (shown o m.shape.size.height) m.shape.size.height l
