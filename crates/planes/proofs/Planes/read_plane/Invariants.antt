use Rattle.std.proofs.Common.{◌≡◌, ℕ, ◌+◌, ◌*◌, ◌<◌, get_or}
use Rattle.samples.specs.Lines.{site_of}
use Rattle.layout.specs.Images.{held}
use Rattle.planes.specs.Words.{plane_words}
use Rattle.planes.proofs.Planes.read_plane.Given as goal

abbrev pub invariant-loop-code : goal.invariant-loop-code
invariant-loop-code l =
    (l.from ≡ l.initial.from + 32 * l.code-index)
    × ((k : ℕ) → k < l.code-index → get_or l.code-items k 0 ≡ held (plane_words l.fn.self.shape) l.image (site_of l.fn.component k l.fn.line.0))
