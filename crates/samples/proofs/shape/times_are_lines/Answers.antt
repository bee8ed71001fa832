use Rattle.samples.proofs.Timing.{times_are_lines}
use Rattle.samples.proofs.shape.times_are_lines.Goals as goal

pub returns : goal.returns
returns c = times_are_lines
