use Rattle.std.proofs.Common.{◌≡◌, ◌+◌, ◌*◌}
use Rattle.layout.specs.Images.{rewritten}
use Rattle.layout.proofs.Parts.{part_below}
use Rattle.planes.specs.Words.{plane_words}
use Rattle.planes.proofs.Planes.write_plane.Given as goal

abbrev pub invariant-loop-code : goal.invariant-loop-code
invariant-loop-code l =
    let t = l.fn.self.shape in
    (l.to ≡ l.initial.to + 32 * l.code-index)
    × (l.image ≡ rewritten (plane_words t) (part_below t l.fn.line.0 l.fn.component l.fn.codes l.code-index) l.initial.image)
