use Rattle.std.proofs.Common.{ℕ, ◌/◌, ◌^◌, sym, ap, ◌∙◌, arith}
use Rattle.planes.proofs.Bytes.{early_byte, last_byte}
use Rattle.planes.proofs.interface.PlanesLayout.fixed_byte.Goals as goal

pub returns-then-at-ne3 : goal.returns-then-at-ne3
returns-then-at-ne3 c = sym (early_byte c.args.self.now.shape c.args.at (omega arith))

pub returns : goal.returns
returns c =
    ap (λ (w : ℕ). w / 2 ^ 24) c.blank.ensures
    ∙ sym (last_byte c.args.self.now.shape c.args.at (omega arith))
