-- The stored order is the note's.
use Rattle.std.proofs.Common.{arith}
use Rattle.std.proofs.lemmas.Bool.Decides.{nat_tests}
use Rattle.order.specs.Notes.{OrdersAreTheNotes}
use Rattle.order.specs.Layered.{lines}

pub orders_are_the_notes : OrdersAreTheNotes
orders_are_the_notes o h = record {
  lines = lines o h;
  times = λ n l. grind (arith, nat_tests);
}
