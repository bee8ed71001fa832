use Rattle.std.proofs.Common.{◌≡◌, ℕ, ◌+◌, ◌*◌, ◌%◌, ◌^◌, ◌<◌, ◌≤◌, Bool, true, false, sym, refl, ap, ◌∙◌, arith, pow_mono}
use Rattle.std.proofs.lemmas.Nat.{one_shl}
use Rattle.image.specs.Bits.{number}
use Rattle.image.proofs.Numbers.{number_lt, number_more, number_ext, bit_value}
use Rattle.layout.specs.Meaning.{Meaning}
use Rattle.layout.proofs.interface.Layout.fixed_byte.Goals as goal
use Rattle.layout.proofs.interface.Layout.fixed_byte.Goals.{then-fixed, else-fixed}

pub loop-k-init : goal.loop-k-init
unfolding number
loop-k-init g c = refl

abbrev bits_from : Meaning → ℕ → ℕ → Bool
bits_from m at k = m.fixed (8 * at + k)

-- a bit set
set_fits : (k x : ℕ) → k < 8 → x < 2 ^ k → x + 1 * 2 ^ k % 256 < 256
set_fits k x h l = let low : k ≤ 7 = omega arith in let top : 2 ^ k ≤ 2 ^ 7 = pow_mono low in omega (arith, one_shl k 8 h)

more : (k x : ℕ) (f : ℕ → Bool) (b : Bool) → k < 8 → x ≡ number k f → b ≡ f k → x + bit_value b * 2 ^ k ≡ number (k + 1) f
more k x f b h e t = ap (λ z. z + bit_value b * 2 ^ k) e ∙ ap (λ z. number k f + bit_value z * 2 ^ k) t ∙ sym (number_more k f)

pub overflow_add-byte : goal.overflow_add-byte
overflow_add-byte g c =
    let f = bits_from (g.Self.Layout.meaning c.args.self.now) c.args.at in
    let low : c.loop-k.byte < 2 ^ c.loop-k.k = omega (arith, c.loop-k.invariant, number_lt c.loop-k.k f) in
    record { fits = set_fits c.loop-k.k c.loop-k.byte (omega arith) low }

pub loop-k-preserved : goal.loop-k-preserved
loop-k-preserved g c =
    let f = bits_from (g.Self.Layout.meaning c.args.self.now) c.args.at in
    let k = c.loop-k.k in
    elim c.if-fixed.branch [
      | then-fixed w ↦
          let shift : 1 * 2 ^ k % 256 ≡ 2 ^ k = one_shl k 8 (omega arith) in
          let set : c.if-fixed.byte ≡ c.loop-k.byte + bit_value true * 2 ^ k = omega (arith, w.byte-is, shift) in
          set ∙ more k c.loop-k.byte f true (omega arith) c.loop-k.invariant w.if-fixed.ensures.value
      | else-fixed w ↦
          let kept : c.if-fixed.byte ≡ c.loop-k.byte + bit_value false * 2 ^ k = omega (arith, w.byte-is) in
          kept ∙ more k c.loop-k.byte f false (omega arith) c.loop-k.invariant w.if-fixed.ensures.value
    ]

-- past the longest image no bit is set
pub returns-else-at-lt268435456 : goal.returns-else-at-lt268435456
unfolding number
returns-else-at-lt268435456 g c =
    let x = c.args.self.now in
    let m = g.Self.Layout.meaning x in
    let laws = g.met.Self.Layout.lawful x in
    let at = c.args.at in
    sym (number_ext 8 (λ k. m.fixed (8 * at + k)) (λ _. false) (λ k h. (laws.outside (8 * at + k) (omega (arith, laws.small))).1))
