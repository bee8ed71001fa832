use Rattle.std.proofs.Common.{◌/◌, ◌%◌, ◌^◌, sym, ap, ◌∙◌, arith}
use Rattle.std.proofs.lemmas.Nat.{one_shl}
use Rattle.image.specs.Bits.{code_at}
use Rattle.image.proofs.Windows.{code_part}
use Rattle.image.proofs.read_code.Goals as goal

pub returns : goal.returns
returns c =
    let n = c.min.result in
    let s = c.args.start in
    let image = c.args.image.now in
    ap (λ z. c.window.result / 2 ^ (s % 8) % z) (one_shl n 64 (omega arith))
    ∙ ap (λ z. z / 2 ^ (s % 8) % 2 ^ n) c.window.ensures
    ∙ sym (code_part n s image (omega arith))
    ∙ ap (λ z. code_at z s image) c.min.ensures
