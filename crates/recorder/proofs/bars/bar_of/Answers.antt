use Rattle.std.proofs.Common.{refl}
use Rattle.recorder.proofs.Barring.{bar_low}
use Rattle.recorder.proofs.bars.bar_of.Goals as goal

pub returns : goal.returns
returns c = record { value = refl; low = bar_low c.args.wide c.args.column c.requires.0 }
