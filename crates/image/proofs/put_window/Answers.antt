use Rattle.std.proofs.Common.{◌≡◌, ◌+◌, ◌-◌, ap, ◌∙◌, arith, rules}
use borrow.Rule.Slice.PartMut.{put_mid}
use Rattle.image.proofs.Images.{Bytes}
use Rattle.image.proofs.Windows.{written_bytes}
use Rattle.image.proofs.put_window.Goals as goal

pub returns-then-at-image : goal.returns-then-at-image
returns-then-at-image c =
    -- the slice was lent, so each of its elements is known to be a byte
    let small : Bytes c.args.image.now = search rules in
    let image = c.args.image.now in
    let at = c.args.at in
    let four : at + 4 - at ≡ 4 = omega arith in
    ap (λ k. put_mid at k image c.copy_from_slice.new.self) four
    ∙ written_bytes image small at c.args.x at 4 _ _ (omega arith) (omega arith) c.copy_from_slice.ensures.after c.to_le_bytes.ensures
