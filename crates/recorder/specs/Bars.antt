-- A line of colour bars at 10 bits, eight of one width.
use Rattle.std.specs.Prelude.{ℕ, ◌-◌, ◌*◌, ◌/◌, Bool, cond, not, List, [], ◌∷◌, ◌==◌, slice_index}
use Rattle.samples.specs.declared.component.Component.{Component}
use Rattle.samples.specs.declared.component.Component.TheVariants.{Luma, Cb, Cr, Alpha}
use Rattle.samples.specs.declared.shape.Shape.{Shape}
use Rattle.samples.specs.Lines.{component_at, first_of}
use Rattle.samples.specs.Shapes.{columns}

-- white, yellow, cyan, green, magenta, red, blue, black; all opaque
abbrev pub bar_codes : Component → List ℕ
bar_codes Luma = 721 ∷ 646 ∷ 525 ∷ 450 ∷ 335 ∷ 260 ∷ 139 ∷ 64 ∷ []
bar_codes Cb = 512 ∷ 176 ∷ 625 ∷ 289 ∷ 735 ∷ 399 ∷ 848 ∷ 512 ∷ []
bar_codes Cr = 512 ∷ 567 ∷ 176 ∷ 231 ∷ 793 ∷ 848 ∷ 457 ∷ 512 ∷ []
bar_codes Alpha = 940 ∷ 940 ∷ 940 ∷ 940 ∷ 940 ∷ 940 ∷ 940 ∷ 940 ∷ []

-- the bar of a column, of `wide` in all
abbrev pub bar_of : ℕ → ℕ → ℕ
bar_of wide x = 8 * x / wide

-- whether a bar begins at a column, the first one left out
abbrev pub bar_begins : ℕ → ℕ → Bool
bar_begins wide x = not (bar_of wide x == bar_of wide (x - 1))

-- Y' undershoots by 36 codes where a bar begins
abbrev pub undershoot : Component → Bool → ℕ
undershoot Luma begins = cond begins 36 0
undershoot Cb begins = 0
undershoot Cr begins = 0
undershoot Alpha begins = 0

abbrev pub bar_code : ℕ → Component → ℕ → ℕ
bar_code wide c x = slice_index (bar_codes c) (bar_of wide x) - undershoot c (bar_begins wide x)

-- the code at an index of a line
abbrev pub bar_at : Shape → ℕ → ℕ
bar_at t i = bar_code (columns t (component_at t i)) (component_at t i) (i - first_of t (component_at t i))
