use Rattle.std.proofs.Common.{◌≡◌, ◌+◌, ◌*◌, length, sym, ◌∙◌, arith}
use Rattle.std.proofs.lemmas.List.FromFn.{fill_by_all}
use Rattle.image.specs.Bits.{number}
use Rattle.layout.specs.Images.{wiped}
use Rattle.layout.proofs.Testing.{length_judged, sized_passed}
use Rattle.layout.proofs.interface.Layout.wipe.Goals as goal

pub returns-clause-image : goal.returns-clause-image
returns-clause-image g c =
    let m = g.Self.Layout.meaning c.args.self.now in
    let image = c.args.image.now in
    let told = length_judged (length image) c.length.result (sym c.judge_image.ensures ∙ c.in_ok-judge_image.was) in
    let long : length image ≡ m.size = told ∙ c.length.ensures.value in
    fill_by_all (λ i. number 8 (λ k. m.fixed (8 * i + k))) c.loop-i.image m.size 0 (omega (arith, long, c.loop-i.auto.image)) (λ i h. c.loop-i.invariant i (omega (arith, long, c.loop-i-test.false)))
    ∙ sym (sized_passed m image (λ _. image) (wiped m) long)
