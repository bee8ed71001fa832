use Rattle.std.proofs.Common.{◌≡◌, ℕ, ◌<◌, get_or, set, ap, ◌∙◌, arith}
use Rattle.std.proofs.lemmas.List.Edits.{fill_by_more}
use Rattle.image.specs.Bits.{code_at, width}
use Rattle.samples.specs.Shapes.{columns}
use Rattle.samples.specs.Lines.{site_of}
use Rattle.layout.specs.Images.{held}
use Rattle.layout.proofs.Reading.{part_put}
use Rattle.planes.specs.Words.{plane_words}
use Rattle.planes.proofs.Running.{placed, run_read}
use Rattle.planes.proofs.Planes.read_plane.Goals as goal

pub overflow_add-from : goal.overflow_add-from
overflow_add-from c =
    let put = placed c.args.self.shape c.args.codes.now c.args.component _ c.requires.count c.places.ensures in
    record { fits = omega (arith, c.run_start-from.ensures.room, put.span) }

pub loop-code-preserved : goal.loop-code-preserved
loop-code-preserved c =
    let t = c.args.self.shape in
    let image = c.args.image.now in
    let line = c.args.line.0 in
    let component = c.args.component in
    let put = placed t c.args.codes.now component _ c.requires.count c.places.ensures in
    let i = c.loop-code.code-index in
    let low : i < columns t component = omega (arith, put.span, c.loop-code-test.true) in
    let place : ℕ → ℕ = λ k. held (plane_words t) image (site_of component k line) in
    let is : c.read_code.result ≡ place i =
    c.read_code.ensures ∙ ap (λ b. code_at (width t.bits.count) b image) c.loop-code.invariant.0 ∙ run_read t line c.requires.low component c.run_start-from.result c.run_start-from.ensures.value i low image in (
      omega (arith, c.loop-code.invariant.0),
      λ k h. ap (λ v. get_or (set c.loop-code.code-items i v) k 0) is ∙ fill_by_more place c.loop-code.code-items i 0 (omega (arith, put.span, c.loop-code.auto.code-items, low)) c.loop-code.invariant.1 k h,
    )

pub returns : goal.returns
returns c =
    let t = c.args.self.shape in
    let codes = c.args.codes.now in
    let component = c.args.component in
    let put = placed t codes component _ c.requires.count c.places.ensures in
    part_put (plane_words t) c.args.image.now c.args.line.0 component codes c.requires.count c.loop-code.code-items _ _ put.first put.wide (c.loop-code.auto.code-items ∙ put.span)
    (λ k h. c.loop-code.invariant.1 k (omega (arith, put.span, c.loop-code-test.false)))
