-- The runs of a group of few pixels can be counted.
use Rattle.std.specs.Prelude.{◌^◌, ◌<◌, ◌≤◌}
use Rattle.std.proofs.Common.{arith}
use Rattle.samples.specs.Fitting.{shares_fit}
use Rattle.samples.specs.Parts.{whole}
use Rattle.formats.specs.declared.format.Figures.{Figures}
use Rattle.formats.specs.Packing.{runs_of}

pub runs_fit : (f : Figures) → f.pixels ≤ 16 → whole (runs_of f) < 2 ^ 32
runs_fit f few = shares_fit f.pixels f.chroma f.alpha (omega (arith, few))
