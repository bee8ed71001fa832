use Rattle.std.proofs.Common.{arith, rules}
use Rattle.image.proofs.Images.{Bytes}
use Rattle.image.proofs.Windows.{four_window}
use Rattle.image.proofs.window_at_end.Goals as goal

pub returns : goal.returns
returns c =
    -- the slice was lent, so each of its elements is known to be a byte
    let small : Bytes c.args.image.now = search rules in
    omega (arith, four_window c.args.image.now small c.args.at, c.from.ensures, c.from_le_bytes.ensures, c.byte_at.ensures, c.byte_at-2.ensures, c.byte_at-3.ensures, c.byte_at-4.ensures)
