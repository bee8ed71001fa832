-- The layout of a recorder for 525 lines.
use Rattle.std.specs.Prelude.{ℕ, Ok, Err, Result}
use Rattle.samples.specs.declared.fault.Fault.{Fault}
use Rattle.formats.specs.declared.kind.Kind.TheVariants.{V210}
use Rattle.order.specs.declared.layer.Ordered.{Ordered}
use Rattle.order.specs.declared.order.Order.{Order}
use Rattle.order.specs.declared.order.Order.TheVariants.{BottomThenTop}
use Rattle.anypacking.specs.declared.packings.AnyPacking.{AnyPacking}
use Rattle.anypacking.specs.Packings.{PlainPacking, plain, packing_made}

-- its packing at a width, or what refuses the width
abbrev pub packing_of : ℕ → Result PlainPacking Fault
packing_of width = packing_made V210 width 486 10

-- a recorder's layout has no more to it than its packing and the order of its lines
pub record PlainRecorder : Type 0 where
  pub packing : PlainPacking
  pub order : Order

abbrev pub plain_layout : Ordered AnyPacking → PlainRecorder
plain_layout x = record { packing = plain x.below; order = x.order }

abbrev pub plain_recorder : Result (Ordered AnyPacking) Fault → Result PlainRecorder Fault
plain_recorder (Ok x) = Ok (plain_layout x)
plain_recorder (Err f) = Err f

-- bottom field first, stored field by field
abbrev pub recorded_over : PlainPacking → PlainRecorder
recorded_over p = record { packing = p; order = BottomThenTop }

abbrev pub recorded : PlainRecorder
recorded = recorded_over (record { kind = V210; width = 720; height = 486; bits = 10 })
