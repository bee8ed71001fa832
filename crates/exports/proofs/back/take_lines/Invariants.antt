use Rattle.std.proofs.Common.{◌≡◌, ℕ, ◌*◌, ◌<◌, slice_index}
use Rattle.samples.specs.Lines.{line_count}
use Rattle.exports.specs.Frames.{code_back}
use Rattle.exports.proofs.back.take_lines.Given as goal

abbrev pub invariant-loop-line : goal.invariant-loop-line
invariant-loop-line g l =
    let m = g.L.Layout.meaning l.frame.layout in
    (i : ℕ) → i < l.line * line_count m.shape → slice_index l.back i ≡ code_back m (record { come = l.frame.come; image = l.image }) i
