-- Rows of an image, by the lines as they are stored.
use Rattle.std.specs.Prelude.{ℕ, ◌*◌, cond, Ok, Err, Result, nat_lt}
use Rattle.samples.specs.declared.bounds.Size.{Size}
use Rattle.samples.specs.declared.fault.Fault.{Fault}
use Rattle.samples.specs.declared.fault.Rule.TheVariants.{NoSite}
use Rattle.samples.specs.declared.lines.AddressLine.{AddressLine}
use Rattle.samples.specs.declared.lines.PictureLine.{PictureLine}
use Rattle.samples.specs.Faults.{refusal}
use Rattle.formats.specs.Packing.{Packing}

-- rows follow without gaps: the first byte of a row, or refusal 12
abbrev pub row_at : Packing → Size → AddressLine → Result ℕ Fault
row_at p z l = cond (nat_lt l.0 z.height) (Ok (l.0 * p.row z.width)) (Err (refusal NoSite 0))

-- picture line 0 first
abbrev pub stored_line : PictureLine → AddressLine
stored_line l = record { 0 = l.0 }

abbrev pub shown_line : AddressLine → PictureLine
shown_line l = record { 0 = l.0 }
