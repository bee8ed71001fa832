-- Bars: there are eight.
use Rattle.std.proofs.Common.{ℕ, ◌*◌, ◌/◌, ◌<◌, div-lt_iff_lt-mul, arith}

pub bar_low : (wide x : ℕ) → x < wide → 8 * x / wide < 8
bar_low wide x h = (div-lt_iff_lt-mul {k = wide} {x = 8 * x} {y = 8} (omega arith)).1 (omega arith)
