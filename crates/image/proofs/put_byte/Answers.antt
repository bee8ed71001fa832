use Rattle.std.proofs.Common.{rules}
use Rattle.std.proofs.lemmas.List.{set_past}
use Rattle.image.proofs.put_byte.Goals as goal

pub returns-else-i-image : goal.returns-else-i-image
returns-else-i-image c = search (rules, set_past)
