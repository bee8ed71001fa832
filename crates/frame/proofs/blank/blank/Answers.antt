use Rattle.std.proofs.Common.{◌≡◌, ◌<◌, map, ap, ◌∙◌, arith}
use Rattle.std.specs.List.{range_with_len}
use Rattle.samples.specs.Lines.{line_count}
use Rattle.layout.specs.Images.{rest_at}
use Rattle.frame.proofs.Blanking.{wiped_length, wiped_is, blank_is, none_rested, line_rested, all_rested}
use Rattle.frame.proofs.blank.blank.Goals as goal

pub loop-line-init : goal.loop-line-init
loop-line-init g c =
    let x = c.args.layout.now in
    let m = g.L.Layout.meaning x in
    let laws = g.met.L.Layout.lawful x in
    let image = c.args.image.now in
    let long = wiped_length m laws image c.in_ok-wipe.field-0 c.in_ok-wipe.ensures.answer in
    wiped_is m laws image c.wipe.new.image long c.wipe.ensures.image ∙ none_rested m laws

pub loop-line-preserved : goal.loop-line-preserved
loop-line-preserved g c =
    let x = c.args.layout.now in
    let m = g.L.Layout.meaning x in
    let t = c.shape_of-shape.result in
    let is : c.rest_line.new.codes ≡ map (rest_at m.shape) (range_with_len 0 (line_count m.shape)) =
    c.rest_line.ensures ∙ ap (λ s. map (rest_at s) (range_with_len 0 (line_count s))) c.shape_of-shape.ensures in
    let low : c.loop-line.line < m.shape.size.height = omega (arith, ap (λ s. s.size.height) c.shape_of-shape.ensures) in
    line_rested m (g.met.L.Layout.lawful x) c.rest_line.new.codes is c.loop-line.image c.loop-line.line c.loop-line.invariant low c.write_line.new.image c.write_line.ensures.image

pub returns-clause-image : goal.returns-clause-image
returns-clause-image g c =
    let x = c.args.layout.now in
    let m = g.L.Layout.meaning x in
    let laws = g.met.L.Layout.lawful x in
    let image = c.args.image.now in
    let long = wiped_length m laws image c.in_ok-wipe.field-0 c.in_ok-wipe.ensures.answer in
    let last : c.loop-line.line ≡ c.shape_of-shape.result.size.height = omega arith in
    let all : c.loop-line.line ≡ m.shape.size.height = last ∙ ap (λ s. s.size.height) c.shape_of-shape.ensures in
    blank_is m laws image c.loop-line.image long (all_rested m laws c.loop-line.image c.loop-line.line c.loop-line.invariant all)
