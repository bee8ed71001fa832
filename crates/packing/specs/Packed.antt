-- A picture of rows of groups of runs, and the layout that it means.
use Rattle.std.specs.Prelude.{ℕ, ◌+◌, ◌-◌, ◌*◌, ◌/◌, ◌%◌, false, cond, Some, None, Option}
use Rattle.samples.specs.declared.bounds.Size.{Size}
use Rattle.samples.specs.declared.shape.TimeKind.TheVariants.{Progressive}
use Rattle.samples.specs.declared.shape.Shape.{Shape}
use Rattle.samples.specs.declared.site.Site.{Site}
use Rattle.samples.specs.Lines.{site_of}
use Rattle.samples.specs.Parts.{before, part_at}
use Rattle.samples.specs.Shapes.{has}
use Rattle.layout.specs.Meaning.{Meaning}
use Rattle.formats.specs.Packing.{Packing, runs, start_in, holder}

abbrev pub shape_of : Packing → Size → Shape
shape_of p z = record { size = z; chroma = p.chroma; alpha = p.alpha; bits = p.bits; time = Progressive }

abbrev pub start_of : Packing → Size → Site → ℕ
start_of p z s =
    s.line.0 * (8 * p.row z.width) + s.column / runs p s.component * (8 * p.bytes)
    + start_in p s.component (s.column % runs p s.component)

abbrev pub if_has : Shape → Site → Option Site
if_has t s = cond (has t s) (Some s) None

-- the site of run q of group g of a line; none past the width
abbrev pub site_in : Packing → Shape → ℕ → ℕ → Option ℕ → Option Site
site_in p t l g None = None
site_in p t l g (Some q) =
    if_has t (site_of (part_at (runs p) q) (g * runs p (part_at (runs p) q) + (q - before (runs p) (part_at (runs p) q))) l)

abbrev pub owner_of : Packing → Size → ℕ → Option Site
owner_of p z b =
    site_in p (shape_of p z) (b / (8 * p.row z.width)) (b % (8 * p.row z.width) / (8 * p.bytes))
    (holder p (b % (8 * p.row z.width) % (8 * p.bytes)))

-- every fixed bit is 0
abbrev pub packed : Packing → Size → Meaning
packed p z = record {
  shape = shape_of p z;
  size = p.row z.width * z.height;
  start = start_of p z;
  owner = owner_of p z;
  fixed = λ b. false;
}
