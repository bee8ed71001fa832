use Rattle.formats.proofs.Six.{slots_disjoint}
use Rattle.formats.proofs.laws.slots_disjoint.Goals as goal

pub returns : goal.returns
returns c = slots_disjoint
