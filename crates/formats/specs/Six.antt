-- The six types are proper, and their rows are filled up to whole groups.
use Rattle.std.specs.Prelude.{◌≡◌, ℕ, ◌+◌, ◌*◌, ◌/◌, ◌%◌, ◌≤◌, Bool, true, false, ◌&&◌, ◌||◌, ◌⊎◌, length, ◌==◌, nat_le, nat_lt, slice_index, refl}
use Rattle.std.specs.List.{position}
use Rattle.std.proofs.Common.{sym, subst, inl, inr, arith}
use Rattle.std.proofs.lemmas.Bool.{eqb-true, and_parts, ltb-true, leb-true}
use Rattle.samples.specs.declared.bounds.Bits.{Bits}
use Rattle.samples.specs.Parts.{whole}
use Rattle.formats.specs.Packing.{Packing, Proper, FillsRows, runs, all_below, is_run, covers, all_apart, whole_pairs}
use Rattle.formats.specs.Formats.{p_2vuy, p_v308, p_v408, p_v216, p_v410, p_v210}
use Rattle.formats.specs.Wide.{v216_width, v216_starts}

-- the bounds of a group, as a test that is computed
abbrev bounded : Packing → Bool
bounded p = (nat_lt 0 p.pixels && nat_le p.pixels 16) && (nat_lt 0 p.bytes && nat_le p.bytes 16)

proper : (p : Packing) → bounded p ≡ true → whole_pairs p.chroma p.pixels → ((w : ℕ) → w % 2 ≡ 0 → w ≤ p.row w / p.bytes * p.pixels) → ((w : ℕ) → w ≤ 4096 → p.row w ≤ 16384) → length p.starts ≡ whole (runs p) → all_apart p ≡ true → Proper p
proper p b pairs room short every disjoint =
    let both = and_parts (nat_lt 0 p.pixels && nat_le p.pixels 16) (nat_lt 0 p.bytes && nat_le p.bytes 16) b in
    let pixels = and_parts (nat_lt 0 p.pixels) (nat_le p.pixels 16) both.0 in
    let bytes = and_parts (nat_lt 0 p.bytes) (nat_le p.bytes 16) both.1 in
    record {
      some_pixels = ltb-true 0 p.pixels pixels.0;
      few_pixels = leb-true p.pixels 16 pixels.1;
      pairs = pairs;
      some_bytes = ltb-true 0 p.bytes bytes.0;
      few_bytes = leb-true p.bytes 16 bytes.1;
      room = room;
      short = short;
      every = every;
      disjoint = disjoint;
    }

pub proper_2vuy : Proper p_2vuy
proper_2vuy = proper p_2vuy refl refl (λ w e. omega arith) (λ w h. omega arith) refl refl

pub proper_v308 : Proper p_v308
proper_v308 = proper p_v308 refl tt (λ w e. omega arith) (λ w h. omega arith) refl refl

pub proper_v408 : Proper p_v408
proper_v408 = proper p_v408 refl tt (λ w e. omega arith) (λ w h. omega arith) refl refl

either : (a b : Bool) → (a || b) ≡ true → (a ≡ true) ⊎ (b ≡ true)
either true b t = inl refl
either false b t = inr t

-- a code width of v216 is one of four
v216_at : (P : ℕ → Type 0) → P 10 → P 12 → P 14 → P 16 → (n : ℕ) → v216_width n ≡ true → P n
v216_at P a b c d n t =
    elim (either (n == 10) _ t) [
      | inl e ↦ subst P (sym (eqb-true n 10 e)) a
      | inr t₂ ↦
          elim (either (n == 12) _ t₂) [
            | inl e ↦ subst P (sym (eqb-true n 12 e)) b
            | inr t₃ ↦
                elim (either (n == 14) _ t₃) [
                  | inl e ↦ subst P (sym (eqb-true n 14 e)) c
                  | inr e ↦ subst P (sym (eqb-true n 16 e)) d
                ]
          ]
    ]

-- the test of the table of v216, by the width of codes alone
abbrev v216_apart : ℕ → Bool
v216_apart n =
    all_below 4
    (λ q. nat_le (slice_index (v216_starts n) q + n) 64 && all_below n (λ j. is_run q (position (covers n (slice_index (v216_starts n) q + j)) (v216_starts n))))

pub proper_v216 : (n : Bits) → v216_width n.count ≡ true → Proper (p_v216 n)
proper_v216 n t =
    proper (p_v216 n) refl refl (λ w e. omega arith) (λ w h. omega arith) refl
    (v216_at (λ c. v216_apart c ≡ true) refl refl refl refl n.count t)

pub proper_v410 : Proper p_v410
proper_v410 = proper p_v410 refl tt (λ w e. omega arith) (λ w h. omega arith) refl refl

pub proper_v210 : Proper p_v210
proper_v210 = proper p_v210 refl refl (λ w e. omega arith) (λ w h. omega arith) refl refl

pub filled_2vuy : FillsRows p_2vuy 1
filled_2vuy = record { some = omega arith; few = omega arith; row = λ w e. omega arith }

pub filled_v308 : FillsRows p_v308 1
filled_v308 = record { some = omega arith; few = omega arith; row = λ w e. omega arith }

pub filled_v408 : FillsRows p_v408 1
filled_v408 = record { some = omega arith; few = omega arith; row = λ w e. omega arith }

pub filled_v216 : (n : Bits) → FillsRows (p_v216 n) 1
filled_v216 n = record { some = omega arith; few = omega arith; row = λ w e. omega arith }

pub filled_v410 : FillsRows p_v410 1
filled_v410 = record { some = omega arith; few = omega arith; row = λ w e. omega arith }

pub filled_v210 : FillsRows p_v210 8
filled_v210 = record { some = omega arith; few = omega arith; row = λ w e. omega arith }
