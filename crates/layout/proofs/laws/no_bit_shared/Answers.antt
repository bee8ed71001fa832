use Rattle.layout.proofs.Following.{no_bit_shared}
use Rattle.layout.proofs.laws.no_bit_shared.Goals as goal

pub returns : goal.returns
returns c = no_bit_shared
