use Rattle.std.proofs.Common.{◌≡◌, ℕ, ◌+◌, ◌*◌, ◌/◌, ◌%◌, ◌^◌, ◌<◌, ◌≤◌, ap, ◌∙◌, arith}
use lib.Bits.{bit_or}
use Rattle.std.proofs.lemmas.Nat.{mod_below, pow_pos, one_shl}
use Rattle.image.specs.Bits.{written}
use Rattle.image.proofs.Windows.{window_small, joined, joined_u64, written_code, written_mod}
use Rattle.image.proofs.write_code.Goals as goal

-- the window that the function writes, from the code u as it widens it
whole_is : (x u v s n : ℕ) → u ≡ v → x < 2 ^ 32 → s < 8 → n ≤ 16 → bit_or (bit_or (x / 2 ^ (s + n) * 2 ^ n % 2 ^ 64) (u % (1 * 2 ^ n % 2 ^ 64)) * 2 ^ s % 2 ^ 64) (x % (1 * 2 ^ s % 2 ^ 64)) ≡ joined x (v % 2 ^ n) s n
whole_is x u v s n e hx hs hn =
    let run : u % (1 * 2 ^ n % 2 ^ 64) ≡ v % 2 ^ n = ap (λ z. z % (1 * 2 ^ n % 2 ^ 64)) e ∙ ap (λ z. v % z) (one_shl n 64 (omega arith)) in
    ap (λ z. bit_or (bit_or (x / 2 ^ (s + n) * 2 ^ n % 2 ^ 64) z * 2 ^ s % 2 ^ 64) (x % (1 * 2 ^ s % 2 ^ 64))) run
    ∙ joined_u64 x (v % 2 ^ n) s n hx (mod_below v (2 ^ n) (pow_pos n)) hs hn

pub returns : goal.returns
returns c =
    let n = c.min-n.result in
    let start = c.args.start in
    let s = start % 8 in
    let o = 8 * (start / 8) in
    let x = c.window-x.result in
    let code = c.args.code in
    let v = code % 2 ^ n in
    let image = c.args.image.now in
    let small = window_small image (start / 8) x c.window-x.ensures in
    let e = whole_is x c.from.result code s n c.from.ensures small (omega arith) (omega arith) in
    c.put_window.ensures
    ∙ ap (λ z. written 32 o z image) (e ∙ ap (λ z. joined z v s n) c.window-x.ensures)
    ∙ written_code image n start v (omega arith) (mod_below code (2 ^ n) (pow_pos n))
    ∙ written_mod image n start code
    ∙ ap (λ z. written z start code image) c.min-n.ensures
