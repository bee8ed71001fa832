-- The bits of a number and of an image, and the number and the image that have given bits.
use Rattle.std.specs.Prelude.{ℕ, zero, suc, ◌+◌, ◌-◌, ◌*◌, ◌/◌, ◌%◌, ◌^◌, min, Bool, cond, ◌&&◌, List, map, length, ◌==◌, nat_le, nat_lt, slice_index}
use Rattle.std.specs.List.{range_with_len}

-- bit k of a number, 0 the least
unfoldable pub bit_of : ℕ → ℕ → Bool
bit_of x k = x / 2 ^ k % 2 == 1

-- the number of n bits whose bit k is f k
unfoldable pub number : ℕ → (ℕ → Bool) → ℕ
number zero f = 0
number (suc n) f = number n f + cond (f n) 1 0 * 2 ^ n

-- bit b of an image: bit b mod 8 of byte b / 8; none is set past the end
abbrev pub bit : List ℕ → ℕ → Bool
bit image b = bit_of (slice_index image (b / 8)) (b % 8)

-- the n bits of an image from start upward, the least first
abbrev pub code_at : ℕ → ℕ → List ℕ → ℕ
code_at n start image = number n (λ k. bit image (start + k))

-- a code has at most 16 bits: a larger count stands for 16
abbrev pub width : ℕ → ℕ
width bits = min bits 16

-- the image of size bytes whose bit b is f b
abbrev pub image_of : ℕ → (ℕ → Bool) → List ℕ
image_of size f = map (λ i. number 8 (λ k. f (8 * i + k))) (range_with_len 0 size)

-- the image with the n bits from start upward replaced by those of v
abbrev pub written : ℕ → ℕ → ℕ → List ℕ → List ℕ
written n start v image =
    image_of (length image) (λ b. cond (nat_le start b && nat_lt b (start + n)) (bit_of v (b - start)) (bit image b))
