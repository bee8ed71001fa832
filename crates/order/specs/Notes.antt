-- Address lines by the formulas of Apple's note, in a picture of h lines: which picture line each holds, and when it comes.
use Rattle.std.specs.Prelude.{◌≡◌, ℕ, ◌+◌, ◌-◌, ◌*◌, ◌/◌, ◌%◌, ◌<◌, cond, Some, None, Option, ◌==◌, nat_le, nat_lt}
use Rattle.samples.specs.declared.lines.AddressLine.{AddressLine}
use Rattle.samples.specs.declared.lines.PictureLine.{PictureLine}
use Rattle.samples.specs.declared.lines.TimeLine.{TimeLine}
use Rattle.samples.specs.Times.{time_line, Bijection}
use Rattle.order.specs.declared.order.Order.{Order}
use Rattle.order.specs.declared.order.Order.TheVariants.{Whole, TopThenBottom, BottomThenTop, TopWoven, BottomWoven}
use Rattle.order.specs.Orders.{kind_of, stored}

-- S(n): the picture line at address n; the second field begins at half the height, rounded up where the top field is first, else down
abbrev pub S : Order → ℕ → ℕ → ℕ
S Whole h n = n
S TopThenBottom h n = cond (nat_le ((h + 1) / 2) n) ((n - (h + 1) / 2) * 2 + 1) (n * 2)
S BottomThenTop h n = cond (nat_le (h / 2) n) ((n - h / 2) * 2) (n * 2 + 1)
S TopWoven h n = n
S BottomWoven h n = n

-- T(n): the time line of address n
abbrev pub T : Order → ℕ → ℕ → ℕ
T Whole h n = n
T TopThenBottom h n = n
T BottomThenTop h n = n
T TopWoven h n = cond (n % 2 == 0) (n / 2) (n / 2 + (h + 1) / 2)
T BottomWoven h n = cond (n % 2 == 0) (n / 2 + h / 2) (n / 2)

-- the same over wrapped lines; an address that the picture lacks holds no line
abbrev pub picture_at_of : Order → ℕ → AddressLine → Option PictureLine
picture_at_of o h n = cond (nat_lt n.0 h) (Some (record { 0 = S o h n.0 })) None

abbrev pub time_at_of : Order → ℕ → AddressLine → Option TimeLine
time_at_of o h n = cond (nat_lt n.0 h) (Some (record { 0 = T o h n.0 })) None

pub record AsTheNote (o : Order) (h : ℕ) : Type 0 where
  -- address n stores picture line S(n), and the addresses are the picture lines in another order
  pub lines : Bijection h (S o h) (stored o h)
  -- picture line S(n) comes at time T(n)
  pub times : (n : ℕ) → n < h → time_line (kind_of o) h (S o h n) ≡ T o h n

abbrev pub OrdersAreTheNotes : Type 0
OrdersAreTheNotes = (o : Order) (h : ℕ) → AsTheNote o h
