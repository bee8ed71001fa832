-- The code of a site, and an image with every line written.
use Rattle.std.specs.Prelude.{ℕ, zero, suc, cond, List, Ok, Err, Result}
use Rattle.samples.specs.declared.fault.Fault.{Fault}
use Rattle.samples.specs.declared.fault.Rule.TheVariants.{NoSite}
use Rattle.samples.specs.declared.site.Site.{Site}
use Rattle.samples.specs.Faults.{refusal}
use Rattle.samples.specs.Shapes.{has}
use Rattle.layout.specs.Images.{code_of}
use Rattle.layout.specs.Meaning.{Meaning}
use Rattle.layout.specs.Tests.{line_written}

-- the code of a site, or refusal 12
abbrev pub level_of : Meaning → List ℕ → Site → Result ℕ Fault
level_of m image s = cond (has m.shape s) (Ok (code_of m image s)) (Err (refusal NoSite 0))

-- the image after the same codes are written to its first n lines
abbrev pub written_to : Meaning → List ℕ → List ℕ → ℕ → List ℕ
written_to m codes image zero = image
written_to m codes image (suc n) = line_written m (written_to m codes image n) n codes
