use Rattle.std.proofs.Common.{◌≡◌, ℕ, ◌+◌, ◌-◌, ◌<◌, ◌≤◌, length, get_or, sym, ap, ◌∙◌, zero-add, arith}
use Rattle.std.specs.declared.ops.Range.{Range}
use Rattle.std.proofs.lemmas.List.FromFn.{fill_by_all, get_or-map-range_with_len, length-map-range_with_len}
use Rattle.samples.specs.declared.component.Component.{Component}
use Rattle.samples.specs.declared.component.Component.TheVariants.{Luma}
use Rattle.samples.specs.declared.shape.Shape.{Shape}
use Rattle.samples.specs.Lines.{first_of, line_count, site_at, site_of}
use Rattle.samples.specs.Shapes.{columns}
use Rattle.exports.specs.Frames.{Frame, code_taken, row_taken}
use Rattle.exports.proofs.Taking.{site_here, part_fits, part_filled, filled, filled_all, filled_first, filled_more, all_four}
use Rattle.exports.proofs.back.take_line.Goals as goal

pub loop-component-preserved : goal.loop-component-preserved
loop-component-preserved g c i h =
    let x = c.args.frame.now.layout in
    let m = g.L.Layout.meaning x in
    let t : Shape = m.shape in
    let f : Frame = record { come = c.args.frame.now.come; image = c.args.image.now } in
    let shape : c.shape-shape.result ≡ t = c.shape-shape.ensures ∙ sym (g.met.L.Layout.same x) in
    let k : ℕ = c.loop-component.component-index in
    let item : Component = get_or all_four k Luma in
    let l : ℕ = c.args.line.0 in
    let codes = c.loop-component.codes in
    let row = c.take_row.new.row in
    let a : ℕ = c.places-places.result.start in
    let n : ℕ = c.places-places.result.end - a in
    let low : k < 4 = c.loop-component-test.true in
    let taken : row ≡ row_taken m f item l = c.take_row.ensures in
    let first : a ≡ first_of t item = ap (λ (z : Range ℕ). z.start) c.places-places.ensures ∙ ap (λ z. first_of z item) shape in
    let last : c.places-places.result.end ≡ first_of t item + columns t item =
    ap (λ (z : Range ℕ). z.end) c.places-places.ensures ∙ ap (λ z. first_of z item + columns z item) shape in
    let count : n ≡ columns t item = omega (arith, first, last) in
    let long : length row ≡ n =
    ap length taken ∙ length-map-range_with_len (λ z. code_taken m f (site_of item z l)) 0 (columns t item) ∙ sym count in
    let fits : a + n ≤ length codes = omega (arith, first, count, part_fits t item, c.requires, c.loop-component.auto.codes) in
    let old : (j : ℕ) → j < a → get_or codes j 0 ≡ code_taken m f (site_at t l j) =
    λ j p. c.loop-component.invariant j (omega (arith, first, filled_first t k Luma low)) in
    let new : (j : ℕ) → j < n → get_or row j 0 ≡ code_taken m f (site_at t l (a + j)) =
    λ j p. let q : j < columns t item = omega (arith, count) in
    ap (λ z. get_or z j 0) taken ∙ get_or-map-range_with_len (λ z. code_taken m f (site_of item z l)) 0 (columns t item) j j 0 q (zero-add j)
    ∙ ap (code_taken m f) (site_here t l item j q) ∙ ap (λ z. code_taken m f (site_at t l (z + j))) (sym first) in
    part_filled (λ j. code_taken m f (site_at t l j)) codes row a n fits long old new i (omega (arith, first, count, filled_more t k Luma low))

pub returns : goal.returns
returns g c =
    let m = g.L.Layout.meaning c.args.frame.now.layout in
    let f : Frame = record { come = c.args.frame.now.come; image = c.args.image.now } in
    let all : filled m.shape c.loop-component.component-index ≡ line_count m.shape =
    filled_all m.shape c.loop-component.component-index c.loop-component-test.false in
    fill_by_all (λ i. code_taken m f (site_at m.shape c.args.line.0 i)) c.loop-component.codes (line_count m.shape) 0 (c.loop-component.auto.codes ∙ c.requires)
    (λ i h. c.loop-component.invariant i (omega (arith, all)))
