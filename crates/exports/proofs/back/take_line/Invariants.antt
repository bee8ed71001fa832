use Rattle.std.proofs.Common.{◌≡◌, ℕ, ◌<◌, slice_index}
use Rattle.samples.specs.Lines.{site_at}
use Rattle.exports.specs.Frames.{code_taken}
use Rattle.exports.proofs.Taking.{filled}
use Rattle.exports.proofs.back.take_line.Given as goal

abbrev pub invariant-loop-component : goal.invariant-loop-component
invariant-loop-component g l =
    let m = g.L.Layout.meaning l.frame.layout in
    (i : ℕ) → i < filled m.shape l.component-index → slice_index l.codes i ≡ code_taken m (record { come = l.frame.come; image = l.image }) (site_at m.shape l.line.0 i)
