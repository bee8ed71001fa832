-- The components by their numbers.
use Rattle.std.specs.Prelude.{ℕ}
use Rattle.samples.specs.declared.component.Component.{Component}
use Rattle.samples.specs.declared.component.Component.TheVariants.{Luma, Cb, Cr, Alpha}

abbrev pub component_number : Component → ℕ
component_number Luma = 0
component_number Cb = 1
component_number Cr = 2
component_number Alpha = 3
