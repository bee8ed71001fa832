-- Numbers and their bits. Assumes nothing.
use Rattle.std.proofs.Common.{◌≡◌, ℕ, zero, suc, ◌+◌, ◌-◌, ◌*◌, ◌/◌, ◌%◌, ◌^◌, ◌<◌, Bool, true, false, cond, eqb, sym, refl, ap, ◌∙◌, ⊎_elim, add-zero, mod-lt, mul_assoc, add_comm, pow-suc, add-one, arith, pow_pos, pow-add, shr-shr}
use native.Mathlib.Nat.{add-mul-div_right, add-mul-mod_self_right, mod-one}
use lib.Pow.{mod-pow-add, high, split}
use Rattle.std.proofs.lemmas.Bool.{cases_order}
use Rattle.image.specs.Bits.{bit_of, number}

abbrev pub bit_value : Bool → ℕ
bit_value b = cond b 1 0

value_small : (b : Bool) → bit_value b < 2
value_small true = omega arith
value_small false = omega arith

value_back : (b : Bool) → eqb (bit_value b) 1 ≡ b
value_back true = refl
value_back false = refl

-- a number below 2 is the value of its test
value_eqb : (x : ℕ) → x < 2 → bit_value (eqb x 1) ≡ x
value_eqb zero h = refl
value_eqb (suc zero) h = refl
value_eqb (suc (suc x)) h = omega arith

bit_of_value : (b : Bool) → bit_of (bit_value b) 0 ≡ b
unfolding bit_of
bit_of_value true = refl
bit_of_value false = refl

-- the bits below s of a number with something from bit s on
pub bit_low : (lo hi s k : ℕ) → k < s → bit_of (lo + hi * 2 ^ s) k ≡ bit_of lo k
unfolding bit_of
bit_low lo hi s k h =
    let j : ℕ = s - suc k in
    let e : 2 ^ s ≡ (2 ^ j * 2) * 2 ^ k = ap (λ n. 2 ^ n) (omega arith) ∙ pow-add 2 (suc j) k ∙ ap (λ n. n * 2 ^ k) (pow-suc 2 j) in
    let split : hi * 2 ^ s ≡ ((hi * 2 ^ j) * 2) * 2 ^ k = ap (λ n. hi * n) e ∙ sym (mul_assoc hi (2 ^ j * 2) (2 ^ k)) ∙ ap (λ n. n * 2 ^ k) (sym (mul_assoc hi (2 ^ j) 2)) in
    let divided : (lo + hi * 2 ^ s) / 2 ^ k ≡ lo / 2 ^ k + (hi * 2 ^ j) * 2 =
    ap (λ n. (lo + n) / 2 ^ k) split ∙ add-mul-div_right lo ((hi * 2 ^ j) * 2) (pow_pos k) in
    ap (λ n. eqb n 1) (ap (λ n. n % 2) divided ∙ add-mul-mod_self_right (lo / 2 ^ k) (hi * 2 ^ j) 2)

pub bit_high : (lo hi s k : ℕ) → lo < 2 ^ s → bit_of (lo + hi * 2 ^ s) (s + k) ≡ bit_of hi k
unfolding bit_of
bit_high lo hi s k h =
    let up : (lo + hi * 2 ^ s) / 2 ^ s ≡ hi = ap (λ n. n / 2 ^ s) (add_comm lo (hi * 2 ^ s)) ∙ high hi s h in
    let at : (lo + hi * 2 ^ s) / 2 ^ (s + k) ≡ hi / 2 ^ k = sym (shr-shr (lo + hi * 2 ^ s) s k) ∙ ap (λ n. n / 2 ^ k) up in
    ap (λ n. eqb (n % 2) 1) at

-- the bits below s of a number's remainder
pub bit_mod : (x s k : ℕ) → k < s → bit_of (x % 2 ^ s) k ≡ bit_of x k
bit_mod x s k h =
    let whole : x % 2 ^ s + x / 2 ^ s * 2 ^ s ≡ x = omega (arith, split x s) in
    sym (bit_low (x % 2 ^ s) (x / 2 ^ s) s k h) ∙ ap (λ z. bit_of z k) whole

pub bit_shr : (x s k : ℕ) → bit_of (x / 2 ^ s) k ≡ bit_of x (s + k)
unfolding bit_of
bit_shr x s k = ap (λ n. eqb (n % 2) 1) (shr-shr x s k)

pub number_lt : (n : ℕ) (f : ℕ → Bool) → number n f < 2 ^ n
unfolding number
number_lt zero f = omega arith
number_lt (suc n) f =
    let ih = number_lt n f in
    elim (f n) as (λ b. number n f + bit_value b * 2 ^ n < 2 ^ suc n) [ true ↦ omega (arith, pow-suc 2 n) | false ↦ omega (arith, pow-suc 2 n) ]

none : (k : ℕ) → k < 0 → ⊥
none k h = omega arith

past : (n k : ℕ) → k < suc n → n < k → ⊥
past n k h l = omega arith

-- one bit more
pub number_more : (n : ℕ) (f : ℕ → Bool) → number (n + 1) f ≡ number n f + bit_value (f n) * 2 ^ n
unfolding number
number_more n f = ap (λ k. number k f) (add-one n)

pub bit_of_number : (n : ℕ) (f : ℕ → Bool) (k : ℕ) → k < n → bit_of (number n f) k ≡ f k
unfolding number
bit_of_number zero f k h = absurd (none k h)
bit_of_number (suc n) f k h =
    ⊎_elim
    (λ (e : k ≡ n).
    ap (bit_of (number n f + bit_value (f n) * 2 ^ n)) (e ∙ sym (add-zero n)) ∙ bit_high (number n f) (bit_value (f n)) n 0 (number_lt n f) ∙ bit_of_value (f n) ∙ ap f (sym e))
    (⊎_elim (λ (l : k < n). bit_low (number n f) (bit_value (f n)) n k l ∙ bit_of_number n f k l) (λ (l : n < k). absurd (past n k h l)))
    (cases_order k n)

pub number_ext : (n : ℕ) (f g : ℕ → Bool) → ((k : ℕ) → k < n → f k ≡ g k) → number n f ≡ number n g
unfolding number
number_ext zero f g e = refl
number_ext (suc n) f g e =
    let ih = number_ext n f g (λ k h. e k (omega arith)) in
    let top : f n ≡ g n = e n (omega arith) in
    ap (λ x. x + bit_value (f n) * 2 ^ n) ih ∙ ap (λ b. number n g + bit_value b * 2 ^ n) top

-- the n bits of x from s upward
pub number_bits : (n x s : ℕ) → number n (λ k. bit_of x (s + k)) ≡ x / 2 ^ s % 2 ^ n
unfolding number bit_of
number_bits zero x s = sym (mod-one (x / 2 ^ s))
number_bits (suc n) x s =
    let y : ℕ = x / 2 ^ s in
    let ih : number n (λ k. bit_of x (s + k)) ≡ y % 2 ^ n = number_bits n x s in
    let b : ℕ = x / 2 ^ (s + n) % 2 in
    let top : bit_value (eqb b 1) ≡ b = value_eqb b (mod-lt (x / 2 ^ (s + n)) (omega arith)) in
    let at : y / 2 ^ n ≡ x / 2 ^ (s + n) = shr-shr x s n in
    let whole : y % 2 ^ (1 + n) ≡ (y / 2 ^ n % 2) * 2 ^ n + y % 2 ^ n = mod-pow-add y 1 n in
    let suc-is : 1 + n ≡ suc n = omega arith in
    ap (λ z. z + bit_value (eqb b 1) * 2 ^ n) ih
    ∙ ap (λ z. y % 2 ^ n + z * 2 ^ n) (top ∙ ap (λ z. z % 2) (sym at))
    ∙ add_comm (y % 2 ^ n) ((y / 2 ^ n % 2) * 2 ^ n)
    ∙ sym whole
    ∙ ap (λ z. y % 2 ^ z) suc-is
