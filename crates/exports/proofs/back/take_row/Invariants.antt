use Rattle.std.proofs.Common.{◌≡◌, ℕ, ◌<◌, slice_index}
use Rattle.samples.specs.Lines.{site_of}
use Rattle.exports.specs.Frames.{code_taken}
use Rattle.exports.proofs.back.take_row.Given as goal

abbrev pub invariant-loop-column : goal.invariant-loop-column
invariant-loop-column g l =
    let m = g.L.Layout.meaning l.frame.layout in
    (x : ℕ) → x < l.column → slice_index l.row x ≡ code_taken m (record { come = l.frame.come; image = l.image }) (site_of l.component x l.line.0)
