use Rattle.std.proofs.Common.{◌≡◌, ℕ, ◌+◌, ◌<◌, List, get_or, take, drop, ap, ◌∙◌, arith, rules}
use Rattle.std.proofs.lemmas.List.{get_or-take, get_or-drop}
use Rattle.image.proofs.Images.{Bytes}
use Rattle.image.proofs.Windows.{code_window}
use Rattle.image.proofs.window.Goals as goal

pub returns-in-Some : goal.returns-in-Some
returns-in-Some c =
    -- the slice was lent, so each of its elements is known to be a byte
    let small : Bytes c.args.image.now = search rules in
    let image = c.args.image.now in
    let at = c.args.at in
    let bytes : List ℕ = c.in-Some.bytes.now in
    let first : bytes ≡ take 4 (drop at image) = search rules in
    let each : (i : ℕ) → i < 4 → get_or bytes i 0 ≡ get_or image (at + i) 0 =
    λ i h. ap (λ l. get_or l i 0) first ∙ get_or-take 4 (drop at image) i 0 h ∙ get_or-drop at image i 0 in
    omega (arith, code_window image small at bytes each, c.from.ensures, c.from_le_bytes.ensures)
