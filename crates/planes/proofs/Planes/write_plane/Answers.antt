use Rattle.std.proofs.Common.{◌≡◌, ◌<◌, ◌∙◌, arith, rules}
use Rattle.image.proofs.Images.{Bytes}
use Rattle.samples.specs.Shapes.{columns}
use Rattle.layout.proofs.Parts.{part_begun, part_step, part_ended}
use Rattle.layout.proofs.Sites.{part_code}
use Rattle.planes.specs.Words.{plane_words}
use Rattle.planes.specs.Lawful.{planes_lawful}
use Rattle.planes.proofs.Running.{placed, start}
use Rattle.planes.proofs.Planes.write_plane.Goals as goal

pub loop-code-init : goal.loop-code-init
loop-code-init c =
    let t = c.args.self.shape in
    let image = c.args.image.now in
    let small : Bytes image = search rules in
    (omega arith, part_begun (plane_words t) (planes_lawful t) image c.args.line.0 c.args.codes.now c.args.component small)

pub overflow_add-to : goal.overflow_add-to
overflow_add-to c =
    let put = placed c.args.self.shape c.args.codes.now c.args.component _ c.requires.count c.places.ensures in
    record { fits = omega (arith, c.run_start-to.ensures.room, put.span) }

pub loop-code-preserved : goal.loop-code-preserved
loop-code-preserved c =
    let t = c.args.self.shape in
    let line = c.args.line.0 in
    let codes = c.args.codes.now in
    let component = c.args.component in
    let put = placed t codes component _ c.requires.count c.places.ensures in
    let i = c.loop-code.code-index in
    let low : i < columns t component = omega (arith, put.span, c.loop-code-test.true) in (
      omega (arith, c.loop-code.invariant.0),
      part_step (plane_words t) (planes_lawful t) c.args.image.now line codes component c.loop-code.image _ i c.loop-code.to _ low c.requires.low c.loop-code.invariant.1
          (c.loop-code.invariant.0 ∙ start t line c.requires.low component c.run_start-to.result c.run_start-to.ensures.value i low)
          (part_code t component codes _ _ i put.first (omega (arith, put.wide)))
          c.write_code.ensures,
    )

pub returns : goal.returns
returns c =
    let t = c.args.self.shape in
    let codes = c.args.codes.now in
    let component = c.args.component in
    let put = placed t codes component _ c.requires.count c.places.ensures in
    let all : c.loop-code.code-index ≡ columns t component = omega (arith, put.span, c.loop-code-test.false, c.loop-code.auto.code-index-end) in
    part_ended (plane_words t) (planes_lawful t) c.args.image.now c.args.line.0 codes component c.loop-code.image c.loop-code.code-index all c.loop-code.invariant.1
