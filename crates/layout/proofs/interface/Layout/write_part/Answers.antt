use Rattle.std.proofs.Common.{◌≡◌, ◌-◌, ◌<◌, length, take, drop, get_or, sym, refl, ap, ◌∙◌, arith, rules}
use Rattle.image.specs.Bits.{written, width as code_width}
use Rattle.image.proofs.Images.{Bytes}
use Rattle.samples.specs.Shapes.{columns}
use Rattle.samples.specs.Lines.{site_of}
use Rattle.layout.specs.Images.{rewritten, part_laid}
use Rattle.layout.specs.Tests.{part_written}
use Rattle.layout.proofs.Parts.{part_begun, part_step, part_ended}
use Rattle.layout.proofs.Sites.{has_from, part_code}
use Rattle.layout.proofs.Testing.{part_passed, line_passed}
use Rattle.layout.proofs.Writing.{located_start}
use Rattle.layout.proofs.interface.Layout.write_part.Goals as goal

pub loop-column-init : goal.loop-column-init
loop-column-init g c =
    let x = c.args.self.now in
    let image = c.args.image.now in
    let small : Bytes image = search rules in
    part_begun (g.Self.Layout.meaning x) (g.met.Self.Layout.lawful x) image c.args.line.0 c.args.codes.now c.component-component.result small

pub loop-column-preserved : goal.loop-column-preserved
loop-column-preserved g c =
    let x = c.args.self.now in
    let m = g.Self.Layout.meaning x in
    let image = c.args.image.now in
    let line = c.args.line.0 in
    let component = c.component-component.result in
    let codes = c.args.codes.now in
    let column = c.loop-column.column in
    let r = c.places.result in
    let shape : c.shape-shape.result ≡ m.shape = c.shape-shape.ensures ∙ sym (g.met.Self.Layout.same x) in
    let told = part_passed m (length image) line _ _ codes component _ _ c.length.ensures.value shape (sym c.judge_line.ensures ∙ c.in_ok-judge_line.was) refl c.places.ensures in
    let low : column < columns m.shape component = omega (arith, told.span, c.loop-column-test.true) in
    let there = has_from m.shape (site_of component column line) low told.low in
    part_step m (g.met.Self.Layout.lawful x) image line codes component c.loop-column.image _ column c.in_ok-start.start _ low told.low c.loop-column.invariant
    (located_start m (site_of component column line) c.in_ok-start.start there (sym c.locate.ensures.value ∙ c.in_ok-start.was))
    (part_code m.shape component codes _ _ column told.first (omega (arith, told.wide)))
    (c.write_code.ensures ∙ ap (λ t. written (code_width t.bits.count) c.in_ok-start.start (get_or (take (r.end - r.start) (drop r.start codes)) column 0) c.loop-column.image) shape)

pub returns-clause-image : goal.returns-clause-image
returns-clause-image g c =
    let x = c.args.self.now in
    let m = g.Self.Layout.meaning x in
    let image = c.args.image.now in
    let line = c.args.line.0 in
    let component = c.component-component.result in
    let codes = c.args.codes.now in
    let shape : c.shape-shape.result ≡ m.shape = c.shape-shape.ensures ∙ sym (g.met.Self.Layout.same x) in
    let told = part_passed m (length image) line _ _ codes component _ _ c.length.ensures.value shape (sym c.judge_line.ensures ∙ c.in_ok-judge_line.was) refl c.places.ensures in
    let all : c.loop-column.column ≡ columns m.shape component = omega (arith, told.span, c.loop-column-test.false, c.loop-column.auto.column-end) in
    part_ended m (g.met.Self.Layout.lawful x) image line codes component c.loop-column.image c.loop-column.column all c.loop-column.invariant
    ∙ sym (line_passed m image (λ _. image) (rewritten m (part_laid m.shape line component codes) image) line (length codes) told.long told.low told.count)
    ∙ ap (λ k. part_written m image line k codes) c.component-component.ensures
