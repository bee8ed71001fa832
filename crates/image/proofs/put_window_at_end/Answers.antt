use Rattle.std.proofs.Common.{ℕ, ◌+◌, List, get_or, set, ap, ◌∙◌, rules}
use Rattle.image.proofs.Images.{Bytes}
use Rattle.image.proofs.Windows.{written_four}
use Rattle.image.proofs.put_window_at_end.Goals as goal

-- the first four of a list of bytes, from the byte `at` on
abbrev put : List ℕ → ℕ → List ℕ → List ℕ
put image at bytes =
    set (set (set (set image at (get_or bytes 0 0)) (at + 1) (get_or bytes 1 0)) (at + 2) (get_or bytes 2 0)) (at + 3) (get_or bytes 3 0)

pub returns : goal.returns
returns c =
    let at = c.args.at in
    let bytes = c.to_le_bytes-bytes.result in
    let small : Bytes c.args.image.now = search rules in
    c.put_byte-4.ensures
    ∙ ap (λ l. set l (at + 3) (get_or bytes 3 0)) c.put_byte-3.ensures
    ∙ ap (λ l. set (set l (at + 2) (get_or bytes 2 0)) (at + 3) (get_or bytes 3 0)) c.put_byte-2.ensures
    ∙ ap (λ l. set (set (set l (at + 1) (get_or bytes 1 0)) (at + 2) (get_or bytes 2 0)) (at + 3) (get_or bytes 3 0)) c.put_byte.ensures
    ∙ ap (put c.args.image.now at) c.to_le_bytes-bytes.ensures
    ∙ written_four c.args.image.now small at c.args.x
