-- Which sites a shape has, and which shapes there are.
use Rattle.std.specs.Prelude.{ℕ, ◌/◌, Bool, cond, ◌&&◌, Ok, Err, Result, nat_lt}
use Rattle.samples.specs.declared.component.Component.{Component}
use Rattle.samples.specs.declared.component.Component.TheVariants.{Luma, Cb, Cr, Alpha}
use Rattle.samples.specs.declared.fault.Fault.{Fault}
use Rattle.samples.specs.declared.shape.Chroma.{Chroma}
use Rattle.samples.specs.declared.shape.Chroma.TheVariants.{Half, Full}
use Rattle.samples.specs.declared.shape.TimeKind.{TimeKind}
use Rattle.samples.specs.declared.shape.Shape.{Shape}
use Rattle.samples.specs.declared.site.Site.{Site}
use Rattle.samples.specs.Bounds.{size_tests, bits_tests}

-- Cb and Cr have a column at every second column of the picture, or at each
abbrev pub chroma_columns : Chroma → ℕ → ℕ
chroma_columns Half w = w / 2
chroma_columns Full w = w

-- how many of w columns a component has
abbrev pub share : ℕ → Chroma → Bool → Component → ℕ
share w c a Luma = w
share w c a Cb = chroma_columns c w
share w c a Cr = chroma_columns c w
share w c a Alpha = cond a w 0

-- how many columns of a component a line has
abbrev pub columns : Shape → Component → ℕ
columns t = share t.size.width t.chroma t.alpha

-- whether a shape has a site
abbrev pub has : Shape → Site → Bool
has t s = nat_lt s.column (columns t s.component) && nat_lt s.line.0 t.size.height

abbrev pub retimed : TimeKind → Shape → Shape
retimed k t = record { size = t.size; chroma = t.chroma; alpha = t.alpha; bits = t.bits; time = k }

-- a shape has no more to it than these
pub record PlainShape : Type 0 where
  pub width : ℕ
  pub height : ℕ
  pub chroma : Chroma
  pub alpha : Bool
  pub bits : ℕ
  pub time : TimeKind

abbrev pub plain : Shape → PlainShape
plain t = record { width = t.size.width; height = t.size.height; chroma = t.chroma; alpha = t.alpha; bits = t.bits.count; time = t.time }

abbrev pub plain_shape : Result Shape Fault → Result PlainShape Fault
plain_shape (Ok t) = Ok (plain t)
plain_shape (Err f) = Err f

-- a shape of plain numbers: 4, then 9
abbrev pub shape_made : ℕ → ℕ → Chroma → Bool → ℕ → TimeKind → Result PlainShape Fault
shape_made w h c a n k =
    size_tests w h Err (bits_tests n Err (Ok (record { width = w; height = h; chroma = c; alpha = a; bits = n; time = k })))
