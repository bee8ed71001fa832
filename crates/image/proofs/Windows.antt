-- The window of four bytes that holds a code. Assumes nothing.
use Rattle.std.proofs.Common.{◌≡◌, ℕ, ◌+◌, ◌-◌, ◌*◌, ◌/◌, ◌%◌, ◌^◌, ◌<◌, ◌≤◌, Bool, true, false, cond, ◌⊎◌, List, map, length, get_or, set, take, min, zero, suc, refl, sym, ap, ◌∙◌, inl, inr, ⊎_elim, add-zero, mod-lt, mod-eq_of_lt, mul_assoc, add-mul, add_comm, zero-add, div-one, arith, rules, pow_pos, pow-add, w64}
use lib.Bits.{bit_or}
use lib.Pow.{split}
use Rattle.std.specs.List.{range_with_len}
use Rattle.std.specs.Int.{to_le_bytes}
use Rattle.std.proofs.lemmas.Bool.{cases_lt, cases_eq, cond-true, cond-false}
use borrow.Rule.Slice.PartMut.{put_mid}
use Rattle.std.proofs.lemmas.List.{ext_get_or, length-set, get_or-set_same, get_or-set_other, length-take-le, get_or-take, places}
use Rattle.std.proofs.lemmas.Nat.{mul-le, shl_below, pow_below, one_shl, or_shifted}
use Rattle.std.proofs.lemmas.List.FromFn.{length-map-range_with_len, get_or-map-range_with_len}
use Rattle.image.specs.Bits.{bit_of, number, bit, code_at, written}
use Rattle.image.proofs.Numbers.{bit_low, bit_high, bit_mod, bit_of_number, bit_shr, number_ext, number_lt, number_bits}
use Rattle.image.proofs.Images.{Bytes, byte_is, number_add, in_run, run_in, run_below, run_above, image_of_ext}

-- ---- reads
-- a window has 32 bits
pub window_small : (image : List ℕ) (at x : ℕ) → x ≡ code_at 32 (8 * at) image → x < 2 ^ 32
window_small image at x e = omega (arith, e, number_lt 32 (λ k. bit image (8 * at + k)))

-- a code from a byte on is that byte, and then the code from the next byte j on
first_byte : (image : List ℕ) → Bytes image → (n i j : ℕ) → j ≡ i + 1 → code_at (8 + n) (8 * i) image ≡ get_or image i 0 + code_at n (8 * j) image * 256
first_byte image small n i j e =
    let f : ℕ → Bool = λ k. bit image (8 * i + k) in
    let g : ℕ → Bool = λ k. f (8 + k) in
    number_add 8 n f
    ∙ ap (λ z. z + number n g * 256) (byte_is image small i)
    ∙ ap (λ z. get_or image i 0 + z * 256) (number_ext n g (λ k. bit image (8 * j + k)) (λ k h. ap (bit image) (omega arith)))

-- four bytes of an image make the code of 32 bits
pub four_window : (image : List ℕ) → Bytes image → (at : ℕ) → code_at 32 (8 * at) image ≡ get_or image at 0 + get_or image (at + 1) 0 * 256 + get_or image (at + 2) 0 * 65536 + get_or image (at + 3) 0 * 16777216
four_window image small at =
    let a = first_byte image small 24 at (at + 1) (omega arith) in
    let b = first_byte image small 16 (at + 1) (at + 2) (omega arith) in
    let c = first_byte image small 8 (at + 2) (at + 3) (omega arith) in
    omega (arith, a, b, c, byte_is image small (at + 3))

-- and so do four bytes that are those of the image
pub code_window : (image : List ℕ) → Bytes image → (at : ℕ) (bytes : List ℕ) → ((i : ℕ) → i < 4 → get_or bytes i 0 ≡ get_or image (at + i) 0) → code_at 32 (8 * at) image ≡ get_or bytes 0 0 + get_or bytes 1 0 * 256 + get_or bytes 2 0 * 65536 + get_or bytes 3 0 * 16777216
code_window image small at bytes e =
    let none : get_or image (at + 0) 0 ≡ get_or image at 0 = ap (λ i. get_or image i 0) (add-zero at) in
    omega (arith, four_window image small at, none, e 0 (omega arith), e 1 (omega arith), e 2 (omega arith), e 3 (omega arith))

-- a code is part of the window that holds it
pub code_part : (n start : ℕ) (image : List ℕ) → n ≤ 16 → code_at n start image ≡ code_at 32 (8 * (start / 8)) image / 2 ^ (start % 8) % 2 ^ n
code_part n start image h =
    let at : ℕ = 8 * (start / 8) in
    let w : ℕ = code_at 32 at image in
    number_ext n (λ k. bit image (start + k)) (λ k. bit_of w (start % 8 + k))
    (λ k l. ap (bit image) (omega arith) ∙ sym (bit_of_number 32 (λ j. bit image (at + j)) (start % 8 + k) (omega arith)))
    ∙ number_bits n w (start % 8)

-- ---- writes
past_four : (j : ℕ) → suc (suc (suc (suc j))) < 4 → ⊥
past_four j h = omega arith

-- the low bytes of a number
byte_of : (x j : ℕ) → j < 4 → get_or (to_le_bytes w64 x) j 0 ≡ x / 2 ^ (8 * j) % 256
byte_of x zero h = sym (ap (λ z. z % 256) (div-one x))
byte_of x (suc zero) h = refl
byte_of x (suc (suc zero)) h = refl
byte_of x (suc (suc (suc zero))) h = refl
byte_of x (suc (suc (suc (suc j)))) h = absurd (past_four j h)

-- what stands in a list whose part of k from a on is replaced
module _ (xs ys : List ℕ) (a k i : ℕ) (long : length ys ≡ k) (fits : a + k ≤ length xs) where
  put_below : i < a → get_or (put_mid a k xs ys) i 0 ≡ get_or xs i 0
  put_below h = search (rules, places)

  put_in : a ≤ i → i < a + k → get_or (put_mid a k xs ys) i 0 ≡ get_or ys (i - a) 0
  put_in p h = search (rules, places)

  put_above : a + k ≤ i → get_or (put_mid a k xs ys) i 0 ≡ get_or xs i 0
  put_above h = search (rules, places)

-- the low 32 bits of x as bytes, from the byte `at` on
abbrev pub four : List ℕ → ℕ → ℕ → List ℕ
four image at x =
    set (set (set (set image at (x % 256)) (at + 1) (x / 256 % 256)) (at + 2) (x / 65536 % 256)) (at + 3) (x / 16777216 % 256)

module _ (image : List ℕ) (small : Bytes image) (at x : ℕ) where
  -- the bits after the write
  F : ℕ → Bool
  F b = cond (in_run (8 * at) 32 b) (bit_of x (b - 8 * at)) (bit image b)

  byte_in : (j i : ℕ) → j < 4 → i ≡ at + j → number 8 (λ k. F (8 * i + k)) ≡ x / 2 ^ (8 * j) % 256
  unfolding F
  byte_in j i l e =
      number_ext 8 (λ k. F (8 * i + k)) (λ k. bit_of x (8 * j + k))
      (λ k h.
      let b : ℕ = 8 * i + k in
      let t : in_run (8 * at) 32 b ≡ true = run_in (8 * at) 32 b (omega arith) (omega arith) in
      cond-true (in_run (8 * at) 32 b) (bit_of x (b - 8 * at)) (bit image b) t ∙ ap (bit_of x) (omega arith))
      ∙ number_bits 8 x (8 * j)

  byte_out : (i : ℕ) → (i < at) ⊎ (at + 4 ≤ i) → number 8 (λ k. F (8 * i + k)) ≡ get_or image i 0
  unfolding F
  byte_out i o =
      number_ext 8 (λ k. F (8 * i + k)) (λ k. bit image (8 * i + k))
      (λ k h.
      let b : ℕ = 8 * i + k in
      let t : in_run (8 * at) 32 b ≡ false = ⊎_elim (λ (p : i < at). run_below (8 * at) 32 b (omega arith)) (λ (p : at + 4 ≤ i). run_above (8 * at) 32 b (omega arith)) o in
      cond-false (in_run (8 * at) 32 b) (bit_of x (b - 8 * at)) (bit image b) t)
      ∙ byte_is image small i

  -- as many of the bytes of x as have a place, written from the byte `at` on, are 32 bits written
  pub written_bytes : (a k : ℕ) (ys bytes : List ℕ) → a ≡ min at (length image) → k ≡ min 4 (length image - a) → ys ≡ take k bytes → bytes ≡ to_le_bytes w64 x → put_mid a k image ys ≡ written 32 (8 * at) x image
  unfolding F
  written_bytes a k ys bytes ea ek ey eb =
      let G : ℕ → ℕ = λ i. number 8 (λ j. F (8 * i + j)) in
      let n : ℕ = length image in
      let long : length ys ≡ k = ap length (ey ∙ ap (take k) eb) ∙ length-take-le k (to_le_bytes w64 x) (omega arith) in
      let byte : (j : ℕ) → j < k → get_or ys j 0 ≡ x / 2 ^ (8 * j) % 256 =
      λ j h. ap (λ l. get_or l j 0) (ey ∙ ap (take k) eb) ∙ get_or-take k (to_le_bytes w64 x) j 0 h ∙ byte_of x j (omega arith) in
      let fits : a + k ≤ n = omega arith in
      let len : length (put_mid a k image ys) ≡ n = search (rules, places) in
      ext_get_or 0 (put_mid a k image ys) (map G (range_with_len 0 n)) (len ∙ sym (length-map-range_with_len G 0 n))
      (λ i h.
      let l : i < n = omega arith in
      ⊎_elim
      (λ (p : i < a). put_below image ys a k i long fits p ∙ sym (byte_out i (inl (omega arith))))
      (λ (p : a ≤ i).
      ⊎_elim
      (λ (q : i < a + k).
      let j : ℕ = i - a in
      put_in image ys a k i long fits p q ∙ byte j (omega arith) ∙ sym (byte_in j i (omega arith) (omega arith)))
      (λ (q : a + k ≤ i). put_above image ys a k i long fits q ∙ sym (byte_out i (inr (omega arith))))
      (cases_lt i (a + k)))
      (cases_lt i a)
      ∙ sym (get_or-map-range_with_len G 0 n i i 0 l (zero-add i)))

  four_at : (i : ℕ) → i < length image → get_or (four image at x) i 0 ≡ number 8 (λ k. F (8 * i + k))
  four_at i h =
      let a : List ℕ = set image at (x % 256) in
      let b : List ℕ = set a (at + 1) (x / 256 % 256) in
      let c : List ℕ = set b (at + 2) (x / 65536 % 256) in
      let la : length a ≡ length image = length-set image at (x % 256) in
      let lb : length b ≡ length a = length-set a (at + 1) (x / 256 % 256) in
      let lc : length c ≡ length b = length-set b (at + 2) (x / 65536 % 256) in
      ⊎_elim
      (λ (e : i ≡ at + 3). ap (λ z. get_or (four image at x) z 0) e ∙ get_or-set_same c (at + 3) (x / 16777216 % 256) 0 (omega arith) ∙ sym (byte_in 3 i (omega arith) e))
      (λ (n3 : i ≡ at + 3 → ⊥).
      get_or-set_other c (at + 3) i (x / 16777216 % 256) 0 n3
      ∙ ⊎_elim
      (λ (e : i ≡ at + 2). ap (λ z. get_or c z 0) e ∙ get_or-set_same b (at + 2) (x / 65536 % 256) 0 (omega arith) ∙ sym (byte_in 2 i (omega arith) e))
      (λ (n2 : i ≡ at + 2 → ⊥).
      get_or-set_other b (at + 2) i (x / 65536 % 256) 0 n2
      ∙ ⊎_elim
      (λ (e : i ≡ at + 1). ap (λ z. get_or b z 0) e ∙ get_or-set_same a (at + 1) (x / 256 % 256) 0 (omega arith) ∙ sym (byte_in 1 i (omega arith) e))
      (λ (n1 : i ≡ at + 1 → ⊥).
      get_or-set_other a (at + 1) i (x / 256 % 256) 0 n1
      ∙ ⊎_elim
      (λ (e : i ≡ at). ap (λ z. get_or a z 0) e ∙ get_or-set_same image at (x % 256) 0 (omega arith) ∙ sym (byte_in 0 i (omega arith) (e ∙ sym (add-zero at)) ∙ ap (λ z. z % 256) (div-one x)))
      (λ (n0 : i ≡ at → ⊥).
      get_or-set_other image at i (x % 256) 0 n0
      ∙ sym (byte_out i (⊎_elim (λ (p : i < at). inl p) (λ (p : at ≤ i). inr (omega arith)) (cases_lt i at))))
      (cases_eq i at))
      (cases_eq i (at + 1)))
      (cases_eq i (at + 2)))
      (cases_eq i (at + 3))

  -- four bytes written are 32 bits written
  pub written_four : four image at x ≡ written 32 (8 * at) x image
  unfolding F
  written_four =
      let G : ℕ → ℕ = λ i. number 8 (λ k. F (8 * i + k)) in
      let n : ℕ = length image in
      let len : length (four image at x) ≡ n = simp length-set in
      ext_get_or 0 (four image at x) (map G (range_with_len 0 n)) (len ∙ sym (length-map-range_with_len G 0 n))
      (λ i h. let l : i < n = omega arith in four_at i l ∙ sym (get_or-map-range_with_len G 0 n i i 0 l (zero-add i)))

-- ---- a code put into a window
abbrev pub joined : ℕ → ℕ → ℕ → ℕ → ℕ
joined x v s n = x % 2 ^ s + (v + x / 2 ^ (s + n) * 2 ^ n) * 2 ^ s

module _ (x v s n : ℕ) (fits : v < 2 ^ n) where
  pub joined_bit : (k : ℕ) → bit_of (joined x v s n) k ≡ cond (in_run s n k) (bit_of v (k - s)) (bit_of x k)
  joined_bit k =
      let lo : ℕ = x % 2 ^ s in
      let hi : ℕ = v + x / 2 ^ (s + n) * 2 ^ n in
      let lo_small : lo < 2 ^ s = mod-lt x (pow_pos s) in
      let up : (h : s ≤ k) → bit_of (joined x v s n) k ≡ bit_of hi (k - s) =
      λ h. ap (bit_of (joined x v s n)) (omega arith) ∙ bit_high lo hi s (k - s) lo_small in
      ⊎_elim
      (λ (p : k < s).
      bit_low lo hi s k p ∙ bit_mod x s k p
      ∙ sym (cond-false (in_run s n k) (bit_of v (k - s)) (bit_of x k) (run_below s n k p)))
      (λ (p : s ≤ k).
      up p
      ∙ ⊎_elim
      (λ (q : k < s + n).
      bit_low v (x / 2 ^ (s + n)) n (k - s) (omega arith)
      ∙ sym (cond-true (in_run s n k) (bit_of v (k - s)) (bit_of x k) (run_in s n k p q)))
      (λ (q : s + n ≤ k).
      let m : ℕ = k - (s + n) in
      ap (bit_of hi) (omega arith) ∙ bit_high v (x / 2 ^ (s + n)) n m fits ∙ bit_shr x (s + n) m ∙ ap (bit_of x) (omega arith)
      ∙ sym (cond-false (in_run s n k) (bit_of v (k - s)) (bit_of x k) (run_above s n k q)))
      (cases_lt k (s + n)))
      (cases_lt k s)

-- the parts of a joined window fit in a u64
pub parts_small : (x v s n : ℕ) → x < 2 ^ 32 → v < 2 ^ n → s < 8 → n ≤ 16 → (x / 2 ^ (s + n) * 2 ^ n < 2 ^ 32) × ((v + x / 2 ^ (s + n) * 2 ^ n) * 2 ^ s < 2 ^ 33)
parts_small x v s n hx hv hs hn =
    let y : ℕ = x / 2 ^ (s + n) * 2 ^ n in
    let whole : y * 2 ^ s ≡ x / 2 ^ (s + n) * 2 ^ (s + n) = mul_assoc (x / 2 ^ (s + n)) (2 ^ n) (2 ^ s) ∙ ap (λ z. x / 2 ^ (s + n) * z) (sym (pow-add 2 n s) ∙ ap (λ z. 2 ^ z) (add_comm n s)) in
    let high : y * 2 ^ s ≤ x = omega (arith, whole, split x (s + n)) in
    let one : y * 1 ≤ y * 2 ^ s = mul-le y 1 y (2 ^ s) (omega arith) (pow_pos s) in
    let low : v * 2 ^ s < 2 ^ (n + s) = shl_below v n s hv in
    let top : 2 ^ (n + s) < 2 ^ 32 = pow_below (n + s) 32 (omega arith) in
    (omega arith, omega (arith, add-mul v y (2 ^ s)))

-- what the code computes for `joined` at 64 bits
pub joined_u64 : (x v s n : ℕ) → x < 2 ^ 32 → v < 2 ^ n → s < 8 → n ≤ 16 → bit_or (bit_or (x / 2 ^ (s + n) * 2 ^ n % 2 ^ 64) v * 2 ^ s % 2 ^ 64) (x % (1 * 2 ^ s % 2 ^ 64)) ≡ joined x v s n
joined_u64 x v s n hx hv hs hn =
    let p = parts_small x v s n hx hv hs hn in
    let hi : ℕ = x / 2 ^ (s + n) in
    let y : ℕ = hi * 2 ^ n in
    let lo : ℕ = x % 2 ^ s in
    ap (λ z. bit_or (bit_or (y % 2 ^ 64) v * 2 ^ s % 2 ^ 64) (x % z)) (one_shl s 64 (omega arith))
    ∙ ap (λ z. bit_or (bit_or z v * 2 ^ s % 2 ^ 64) lo) (mod-eq_of_lt (omega arith))
    ∙ ap (λ z. bit_or (z * 2 ^ s % 2 ^ 64) lo) (or_shifted hi n v hv ∙ add_comm y v)
    ∙ ap (λ z. bit_or z lo) (mod-eq_of_lt (omega arith))
    ∙ or_shifted (v + y) s lo (mod-lt x (pow_pos s))
    ∙ add_comm ((v + y) * 2 ^ s) lo

shifted_run : (s o start b n : ℕ) → o + s ≡ start → o ≤ b → in_run s n (b - o) ≡ in_run start n b
shifted_run s o start b n at p =
    ⊎_elim
    (λ (q : b < start). run_below s n (b - o) (omega arith) ∙ sym (run_below start n b q))
    (λ (q : start ≤ b).
    ⊎_elim
    (λ (r : b < start + n). run_in s n (b - o) (omega arith) (omega arith) ∙ sym (run_in start n b q r))
    (λ (r : start + n ≤ b). run_above s n (b - o) (omega arith) ∙ sym (run_above start n b r))
    (cases_lt b (start + n)))
    (cases_lt b start)

-- writing the window with a code put into it writes the code
pub written_code : (image : List ℕ) (n start v : ℕ) → n ≤ 16 → v < 2 ^ n → written 32 (8 * (start / 8)) (joined (code_at 32 (8 * (start / 8)) image) v (start % 8) n) image ≡ written n start v image
written_code image n start v h fits =
    let o : ℕ = 8 * (start / 8) in
    let s : ℕ = start % 8 in
    let w : ℕ = code_at 32 o image in
    let y : ℕ = joined w v s n in
    image_of_ext (length image) (λ b. cond (in_run o 32 b) (bit_of y (b - o)) (bit image b)) (λ b. cond (in_run start n b) (bit_of v (b - start)) (bit image b))
    (λ b l.
    let at : o + s ≡ start = omega arith in
    ⊎_elim
    (λ (p : b < o).
    cond-false (in_run o 32 b) (bit_of y (b - o)) (bit image b) (run_below o 32 b p)
    ∙ sym (cond-false (in_run start n b) (bit_of v (b - start)) (bit image b) (run_below start n b (omega arith))))
    (λ (p : o ≤ b).
    ⊎_elim
    (λ (q : b < o + 32).
    let k : ℕ = b - o in
    let old : bit_of w k ≡ bit image b = bit_of_number 32 (λ j. bit image (o + j)) k (omega arith) ∙ ap (bit image) (omega arith) in
    cond-true (in_run o 32 b) (bit_of y k) (bit image b) (run_in o 32 b p q)
    ∙ joined_bit w v s n fits k
    ∙ ap (λ z. cond (in_run s n k) (bit_of v (k - s)) z) old
    ∙ ap (λ z. cond (in_run s n k) (bit_of v z) (bit image b)) (omega arith)
    ∙ ap (λ t. cond t (bit_of v (b - start)) (bit image b)) (shifted_run s o start b n at p))
    (λ (q : o + 32 ≤ b).
    cond-false (in_run o 32 b) (bit_of y (b - o)) (bit image b) (run_above o 32 b q)
    ∙ sym (cond-false (in_run start n b) (bit_of v (b - start)) (bit image b) (run_above start n b (omega arith))))
    (cases_lt b (o + 32)))
    (cases_lt b o))

-- of a code only the bits of the run are written
pub written_mod : (image : List ℕ) (n start v : ℕ) → written n start (v % 2 ^ n) image ≡ written n start v image
written_mod image n start v =
    let w : ℕ = v % 2 ^ n in
    image_of_ext (length image) (λ b. cond (in_run start n b) (bit_of w (b - start)) (bit image b)) (λ b. cond (in_run start n b) (bit_of v (b - start)) (bit image b))
    (λ b l.
    ⊎_elim
    (λ (p : b < start).
    cond-false (in_run start n b) (bit_of w (b - start)) (bit image b) (run_below start n b p)
    ∙ sym (cond-false (in_run start n b) (bit_of v (b - start)) (bit image b) (run_below start n b p)))
    (λ (p : start ≤ b).
    ⊎_elim
    (λ (q : b < start + n). ap (λ z. cond (in_run start n b) z (bit image b)) (bit_mod v n (b - start) (omega arith)))
    (λ (q : start + n ≤ b).
    cond-false (in_run start n b) (bit_of w (b - start)) (bit image b) (run_above start n b q)
    ∙ sym (cond-false (in_run start n b) (bit_of v (b - start)) (bit image b) (run_above start n b q)))
    (cases_lt b (start + n)))
    (cases_lt b start))
