-- Plane words have no more to them than their shape.
use Rattle.std.specs.Prelude.{Ok, Err, Result}
use Rattle.samples.specs.declared.fault.Fault.{Fault}
use Rattle.samples.specs.Shapes.{PlainShape, plain}
use Rattle.planes.specs.declared.Planes.{Planes}

abbrev pub plain_planes : Result Planes Fault → Result PlainShape Fault
plain_planes (Ok p) = Ok (plain p.shape)
plain_planes (Err f) = Err f
