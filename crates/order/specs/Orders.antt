-- The orders in which lines stand: their pairs of fields and detail, their order in time, and where they store a line.
use Rattle.std.specs.Prelude.{ℕ, cond, ◌&&◌, Some, None, Ok, Err, Option, Result, ◌==◌, nat_lt}
use Rattle.samples.specs.declared.fault.Fault.{Fault}
use Rattle.samples.specs.declared.fault.Rule.TheVariants.{Content}
use Rattle.samples.specs.declared.lines.AddressLine.{AddressLine}
use Rattle.samples.specs.declared.lines.PictureLine.{PictureLine}
use Rattle.samples.specs.declared.shape.TimeKind.{TimeKind}
use Rattle.samples.specs.declared.shape.TimeKind.TheVariants.{Progressive, TopFirst, BottomFirst}
use Rattle.samples.specs.Faults.{refusal}
use Rattle.samples.specs.Times.{time_line}
use Rattle.order.specs.declared.order.Order.{Order}
use Rattle.order.specs.declared.order.Order.TheVariants.{Whole, TopThenBottom, BottomThenTop, TopWoven, BottomWoven}

-- the order of f fields and detail d; any other pair is refused by 9
abbrev pub order_of : ℕ → ℕ → Result Order Fault
order_of f d =
    cond (f == 1 && d == 0) (Ok Whole)
    (cond (f == 2 && d == 1) (Ok TopThenBottom)
    (cond (f == 2 && d == 6) (Ok BottomThenTop)
    (cond (f == 2 && d == 9) (Ok TopWoven)
    (cond (f == 2 && d == 14) (Ok BottomWoven) (Err (refusal Content 0))))))

-- the order of its lines in time
abbrev pub kind_of : Order → TimeKind
kind_of Whole = Progressive
kind_of TopThenBottom = TopFirst
kind_of BottomThenTop = BottomFirst
kind_of TopWoven = TopFirst
kind_of BottomWoven = BottomFirst

-- the time kind in whose order the lines are stored: fields one after the other lie as they come
abbrev pub rule_of : Order → TimeKind
rule_of Whole = Progressive
rule_of TopThenBottom = TopFirst
rule_of BottomThenTop = BottomFirst
rule_of TopWoven = Progressive
rule_of BottomWoven = Progressive

-- where picture line s is stored, in a picture of h lines
abbrev pub stored : Order → ℕ → ℕ → ℕ
stored o h s = time_line (rule_of o) h s

-- the same over wrapped lines; a line that the picture lacks is stored nowhere
abbrev pub address_line_of : Order → ℕ → PictureLine → Option AddressLine
address_line_of o h s = cond (nat_lt s.0 h) (Some (record { 0 = stored o h s.0 })) None
