use Rattle.std.proofs.Common.{◌≡◌, ℕ, ◌<◌, get_or}
use Rattle.samples.specs.Lines.{site_of}
use Rattle.layout.specs.Images.{held}
use Rattle.layout.proofs.interface.Layout.read_part.Given as goal

abbrev pub invariant-loop-column : goal.invariant-loop-column
invariant-loop-column g l =
    let m = g.Self.Layout.meaning l.self in
    (k : ℕ) → k < l.column → get_or l.code-items k 0 ≡ held m l.image (site_of l.component k l.line.0)
