-- Packings of plain numbers.
use Rattle.std.specs.Prelude.{ℕ, cond, Ok, Err, Result}
use Rattle.samples.specs.declared.fault.Fault.{Fault}
use Rattle.samples.specs.declared.fault.Rule.TheVariants.{Content}
use Rattle.samples.specs.Faults.{refusal}
use Rattle.formats.specs.declared.wide.V216.{V216}
use Rattle.formats.specs.Wide.{v216_width}

-- v216 has no more to it than its width of codes
abbrev pub plain_v216 : Result V216 Fault → Result ℕ Fault
plain_v216 (Ok f) = Ok f.bits.count
plain_v216 (Err f) = Err f

abbrev pub v216_made : ℕ → Result ℕ Fault
v216_made n = cond (v216_width n) (Ok n) (Err (refusal Content 0))
