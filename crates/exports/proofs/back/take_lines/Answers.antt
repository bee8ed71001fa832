use Rattle.std.proofs.Common.{◌≡◌, ℕ, ◌+◌, ◌-◌, ◌*◌, ◌<◌, ◌≤◌, length, get_or, sym, ap, ◌∙◌, suc-mul, add-one, arith, zero-add}
use borrow.Rule.Slice.PartMut.{put_mid}
use Rattle.std.proofs.lemmas.List.FromFn.{fill_by_all, get_or-map-range_with_len, length-map-range_with_len}
use Rattle.samples.specs.declared.shape.Shape.{Shape}
use Rattle.samples.specs.Lines.{line_count, site_at}
use Rattle.exports.specs.Frames.{Frame, code_count, code_taken, line_taken, code_back}
use Rattle.exports.proofs.Laying.{line_fits}
use Rattle.exports.proofs.Taking.{site_there, part_filled}
use Rattle.exports.proofs.back.take_lines.Goals as goal

pub loop-line-preserved : goal.loop-line-preserved
loop-line-preserved g c i h =
    let x = c.args.frame.now.layout in
    let m = g.L.Layout.meaning x in
    let t : Shape = m.shape in
    let f : Frame = record { come = c.args.frame.now.come; image = c.args.image.now } in
    let shape : c.shape-shape.result ≡ t = c.shape-shape.ensures ∙ sym (g.met.L.Layout.same x) in
    let l : ℕ = c.loop-line.line in
    let k : ℕ = line_count t in
    let back = c.loop-line.back in
    let row = c.take_line.new.codes in
    let count : c.line_count-count.result ≡ k = c.line_count-count.ensures ∙ ap line_count shape in
    let a : ℕ = l * c.line_count-count.result in
    let start : a ≡ l * k = ap (λ z. l * z) count in
    let part : a + c.line_count-count.result - a ≡ k = omega (arith, count) in
    let low : l < t.size.height = omega (arith, ap (λ z. z.size.height) shape) in
    let fits : l * k + k ≤ length back = omega (arith, line_fits l t.size.height k low, c.requires, c.loop-line.auto.back) in
    let taken : row ≡ line_taken m f l = c.take_line.ensures in
    let long : length row ≡ k = ap length taken ∙ length-map-range_with_len (λ j. code_taken m f (site_at t l j)) 0 k in
    let new : (j : ℕ) → j < k → get_or row j 0 ≡ code_back m f (l * k + j) =
    λ j p. ap (λ z. get_or z j 0) taken ∙ get_or-map-range_with_len (λ z. code_taken m f (site_at t l z)) 0 k j j 0 p (zero-add j)
    ∙ ap (code_taken m f) (site_there t l j p) in
    let next : (l + 1) * k ≡ l * k + k = ap (λ z. z * k) (add-one l) ∙ suc-mul l k in
    ap (λ z. get_or (put_mid z (a + c.line_count-count.result - a) back row) i 0) start
    ∙ ap (λ z. get_or (put_mid (l * k) z back row) i 0) part
    ∙ part_filled (code_back m f) back row (l * k) k fits long c.loop-line.invariant new i (omega (arith, next))

pub returns : goal.returns
returns g c =
    let x = c.args.frame.now.layout in
    let m = g.L.Layout.meaning x in
    let t : Shape = m.shape in
    let last : c.loop-line.line ≡ t.size.height =
    omega (arith, ap (λ z. z.size.height) (c.shape-shape.ensures ∙ sym (g.met.L.Layout.same x))) in
    let all : c.loop-line.line * line_count t ≡ code_count t = ap (λ z. z * line_count t) last in
    fill_by_all (code_back m (record { come = c.args.frame.now.come; image = c.args.image.now })) c.loop-line.back (code_count t) 0
    (c.loop-line.auto.back ∙ c.requires) (λ i h. c.loop-line.invariant i (omega arith))
