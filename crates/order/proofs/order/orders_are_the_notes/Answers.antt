use Rattle.order.proofs.Noted.{orders_are_the_notes}
use Rattle.order.proofs.order.orders_are_the_notes.Goals as goal

pub returns : goal.returns
returns c = orders_are_the_notes
