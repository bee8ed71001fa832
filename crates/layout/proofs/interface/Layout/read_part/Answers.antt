use Rattle.std.proofs.Common.{◌≡◌, length, sym, refl, ap, ◌∙◌, arith}
use Rattle.layout.specs.Tests.{part_read}
use Rattle.layout.proofs.Reading.{part_in, part_put}
use Rattle.layout.proofs.Testing.{part_passed, line_passed}
use Rattle.layout.proofs.interface.Layout.read_part.Goals as goal

pub returns-clause-codes : goal.returns-clause-codes
returns-clause-codes g c =
    let x = c.args.self.now in
    let m = g.Self.Layout.meaning x in
    let image = c.args.image.now in
    let line = c.args.line.0 in
    let component = c.component-component.result in
    let codes = c.args.codes.now in
    let items = c.loop-column.code-items in
    let shape : c.shape-shape.result ≡ m.shape = c.shape-shape.ensures ∙ sym (g.met.Self.Layout.same x) in
    let told = part_passed m (length image) line _ _ codes component _ _ c.length.ensures.value shape (sym c.judge_line.ensures ∙ c.in_ok-judge_line.was) refl c.places.ensures in
    part_put m image line component codes told.count items _ _ told.first told.wide (c.loop-column.auto.code-items ∙ told.span)
    (λ k h. c.loop-column.invariant k (omega (arith, told.span, c.loop-column-test.false)))
    ∙ sym (line_passed m image (λ _. codes) (part_in m image line component codes) line (length codes) told.long told.low told.count)
    ∙ ap (λ k. part_read m image line k codes) c.component-component.ensures
