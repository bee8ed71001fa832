-- Images and their bits. Assumes nothing.
use Rattle.std.proofs.Common.{◌≡◌, ℕ, zero, suc, ◌+◌, ◌*◌, ◌/◌, ◌%◌, ◌^◌, ◌<◌, ◌≤◌, Bool, true, false, cond, ◌&&◌, ltb, leb, List, map, length, get_or, sym, ap, ◌∙◌, ⊎_elim, add-zero, add_assoc, add-suc, mod-eq_of_lt, mul_assoc, add-mul, zero-add, div-one, arith, pow-add}
use Rattle.std.specs.List.{range_with_len}
use Rattle.std.proofs.lemmas.Bool.{cases_lt, and_from, and_left, and_right, le-leb, lt-leb, lt-ltb, le-ltb}
use Rattle.std.proofs.lemmas.List.{ext_get_or, get_or_past}
use Rattle.std.proofs.lemmas.List.FromFn.{length-map-range_with_len, get_or-map-range_with_len}
use Rattle.image.specs.Bits.{bit_of, number, bit, image_of}
use Rattle.image.proofs.Numbers.{number_lt, bit_of_number, number_ext, number_bits}

-- ---- a number of n + m bits
pub number_add : (n m : ℕ) (f : ℕ → Bool) → number (n + m) f ≡ number n f + number m (λ k. f (n + k)) * 2 ^ n
unfolding number
number_add n zero f = ap (λ k. number k f) (add-zero n) ∙ omega arith
number_add n (suc m) f =
    let ih = number_add n m f in
    let v : ℕ = cond (f (n + m)) 1 0 in
    let p : v * 2 ^ (n + m) ≡ (v * 2 ^ m) * 2 ^ n = ap (λ z. v * z) (pow-add 2 n m ∙ omega arith) ∙ sym (mul_assoc v (2 ^ m) (2 ^ n)) in
    ap (λ k. number k f) (add-suc n m)
    ∙ ap (λ z. z + v * 2 ^ (n + m)) ih
    ∙ ap (λ z. number n f + number m (λ k. f (n + k)) * 2 ^ n + z) p
    ∙ add_assoc (number n f) (number m (λ k. f (n + k)) * 2 ^ n) ((v * 2 ^ m) * 2 ^ n)
    ∙ ap (λ z. number n f + z) (sym (add-mul (number m (λ k. f (n + k))) (v * 2 ^ m) (2 ^ n)))

-- ---- bytes
abbrev pub Bytes : List ℕ → Type 0
Bytes image = (i : ℕ) → get_or image i 0 < 256

pub bit_at : (image : List ℕ) (i k : ℕ) → k < 8 → bit image (8 * i + k) ≡ bit_of (get_or image i 0) k
bit_at image i k h =
    let q : (8 * i + k) / 8 ≡ i = omega arith in
    let r : (8 * i + k) % 8 ≡ k = omega arith in
    ap (λ z. bit_of (get_or image z 0) ((8 * i + k) % 8)) q ∙ ap (bit_of (get_or image i 0)) r

-- the byte that eight bits of an image make
pub byte_is : (image : List ℕ) → Bytes image → (i : ℕ) → number 8 (λ k. bit image (8 * i + k)) ≡ get_or image i 0
byte_is image small i =
    let x : ℕ = get_or image i 0 in
    let same : number 8 (λ k. bit image (8 * i + k)) ≡ number 8 (λ k. bit_of x (0 + k)) =
    number_ext 8 (λ k. bit image (8 * i + k)) (λ k. bit_of x (0 + k)) (λ k h. bit_at image i k h ∙ ap (bit_of x) (sym (zero-add k))) in
    same ∙ number_bits 8 x 0 ∙ ap (λ z. z % 256) (div-one x) ∙ mod-eq_of_lt (small i)

-- ---- writes
abbrev pub in_run : ℕ → ℕ → ℕ → Bool
in_run start n b = leb start b && ltb b (start + n)

pub run_in : (start n b : ℕ) → start ≤ b → b < start + n → in_run start n b ≡ true
run_in start n b p q = and_from (leb start b) (ltb b (start + n)) (le-leb start b p) (lt-ltb b (start + n) q)

pub run_below : (start n b : ℕ) → b < start → in_run start n b ≡ false
run_below start n b p = and_left (leb start b) (ltb b (start + n)) (lt-leb start b p)

pub run_above : (start n b : ℕ) → start + n ≤ b → in_run start n b ≡ false
run_above start n b p = and_right (leb start b) (ltb b (start + n)) (le-ltb b (start + n) p)

pub image_of_ext : (size : ℕ) (f g : ℕ → Bool) → ((b : ℕ) → b < 8 * size → f b ≡ g b) → image_of size f ≡ image_of size g
image_of_ext size f g e =
    let F : ℕ → ℕ = λ i. number 8 (λ k. f (8 * i + k)) in
    let G : ℕ → ℕ = λ i. number 8 (λ k. g (8 * i + k)) in
    let len : length (map F (range_with_len 0 size)) ≡ size = length-map-range_with_len F 0 size in
    ext_get_or 0 (map F (range_with_len 0 size)) (map G (range_with_len 0 size)) (len ∙ sym (length-map-range_with_len G 0 size))
    (λ i h.
    let l : i < size = omega arith in
    get_or-map-range_with_len F 0 size i i 0 l (zero-add i)
    ∙ number_ext 8 (λ k. f (8 * i + k)) (λ k. g (8 * i + k)) (λ k m. e (8 * i + k) (omega arith))
    ∙ sym (get_or-map-range_with_len G 0 size i i 0 l (zero-add i)))

-- a bit of the image that has given bits
pub bit_image_of : (size : ℕ) (f : ℕ → Bool) (b : ℕ) → b < 8 * size → bit (image_of size f) b ≡ f b
bit_image_of size f b h =
    let F : ℕ → ℕ = λ i. number 8 (λ k. f (8 * i + k)) in
    let at : get_or (map F (range_with_len 0 size)) (b / 8) 0 ≡ F (b / 8) = get_or-map-range_with_len F 0 size (b / 8) (b / 8) 0 (omega arith) (zero-add (b / 8)) in
    ap (λ z. bit_of z (b % 8)) at ∙ bit_of_number 8 (λ k. f (8 * (b / 8) + k)) (b % 8) (omega arith) ∙ ap f (omega arith)

-- an image of bytes is the image of its bits
pub image_is : (image : List ℕ) → Bytes image → image ≡ image_of (length image) (bit image)
image_is image small =
    let F : ℕ → ℕ = λ i. number 8 (λ k. bit image (8 * i + k)) in
    ext_get_or 0 image (map F (range_with_len 0 (length image))) (sym (length-map-range_with_len F 0 (length image)))
    (λ i h. sym (byte_is image small i) ∙ sym (get_or-map-range_with_len F 0 (length image) i i 0 h (zero-add i)))

-- an image has the size that it was made with
pub length_image_of : (size : ℕ) (f : ℕ → Bool) → length (image_of size f) ≡ size
length_image_of size f = length-map-range_with_len (λ i. number 8 (λ k. f (8 * i + k))) 0 size

-- what an image is made of are bytes
pub bytes_image : (size : ℕ) (f : ℕ → Bool) → Bytes (image_of size f)
bytes_image size f i =
    let F : ℕ → ℕ = λ j. number 8 (λ k. f (8 * j + k)) in
    ⊎_elim
    (λ (p : i < size). omega (arith, get_or-map-range_with_len F 0 size i i 0 p (zero-add i), number_lt 8 (λ k. f (8 * i + k))))
    (λ (p : size ≤ i). omega (arith, get_or_past (image_of size f) i 0 (omega (arith, length_image_of size f))))
    (cases_lt i size)
