use Rattle.std.proofs.Common.{◌-◌, ◌^◌, ◌<◌, arith}
use Rattle.std.proofs.lemmas.Nat.{one_shl, pow_below}
use Rattle.samples.proofs.component.Component.admits.Goals as goal

pub overflow_sub-result : goal.overflow_sub-result
overflow_sub-result c =
    let n = c.args.bits.count in
    let less : 2 ^ (n - 8) < 2 ^ n = pow_below (n - 8) n (omega arith) in
    omega (arith, one_shl (n - 8) 32 (omega arith), one_shl n 32 (omega arith))
