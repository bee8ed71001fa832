use Rattle.onewrite.proofs.Writing.{laws_of_one_write}
use Rattle.onewrite.proofs.one_write.Goals as goal

pub returns : goal.returns
returns c = laws_of_one_write
