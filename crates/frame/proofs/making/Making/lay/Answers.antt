use Rattle.std.proofs.Common.{◌≡◌, ℕ, List, sym, ◌∙◌, rules}
use Rattle.layout.specs.Images.{rewritten}
use Rattle.layout.specs.Tests.{line_written}
use Rattle.frame.specs.Calls.{lay, image_after, coming}
use Rattle.frame.proofs.Coming.{comes_to, next, line_comes}
use Rattle.frame.proofs.making.Making.lay.Goals as goal

pub returns-clause-image : goal.returns-clause-image
returns-clause-image g c =
    let x = c.args.self.now.layout in
    let m = g.L.Layout.meaning x in
    let come = c.args.self.now.come in
    let image = c.args.image.now in
    let codes = c.args.codes.now in
    let line = c.in_ok-line.line in
    let due = c.in_ok-line.ensures in
    let written : (after : List ℕ) → after ≡ line_written m image line.0 codes → after ≡ image_after m come image (lay codes) =
    λ after e.
    line_comes m (g.met.L.Layout.lawful x) image after come line.0 codes (next m come image codes line due) e
    ∙ sym (comes_to m come image codes line due (λ _. image) (rewritten m (coming m.shape come codes) image)) in
    written _ (search rules)
