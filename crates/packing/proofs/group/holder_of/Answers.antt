use Rattle.std.proofs.Common.{sym, ap, ◌∙◌, arith}
use Rattle.formats.specs.Packing.{covers}
use Rattle.packing.proofs.Holding.{found, none, next}
use Rattle.packing.proofs.group.holder_of.Goals as goal

pub loop-number-init : goal.loop-number-init
loop-number-init g c = λ k h. absurd (omega (arith, h))

pub returns-then-covers_bit : goal.returns-then-covers_bit
returns-then-covers_bit g c =
    let x = c.args.format.now in
    let group = c.of-group.result in
    found (g.F.Format.packing x) (g.met.F.Format.proper x) group.figures c.of-group.ensures c.args.bit c.loop-number.number _ c.whole-number-end.ensures c.loop-number-test.true c.loop-number.invariant
    (sym (c.covers_bit.ensures ∙ ap (covers group.figures.bits.count c.args.bit) c.start.ensures) ∙ c.if-covers_bit.true)

pub loop-number-preserved : goal.loop-number-preserved
loop-number-preserved g c =
    let x = c.args.format.now in
    next (g.F.Format.packing x) (g.met.F.Format.proper x) c.of-group.result.figures c.of-group.ensures c.args.bit c.loop-number.number _ _ c.start.ensures c.covers_bit.ensures c.if-covers_bit.false c.loop-number.invariant

pub returns : goal.returns
returns g c =
    let x = c.args.format.now in
    none (g.F.Format.packing x) (g.met.F.Format.proper x) c.of-group.result.figures c.of-group.ensures c.args.bit c.loop-number.number _ c.whole-number-end.ensures c.loop-number.auto.number-end (omega (arith, c.loop-number-test.false)) c.loop-number.invariant
