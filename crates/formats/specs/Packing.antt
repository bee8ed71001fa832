-- A type of packing: its figures, and the table of runs within a group.
use Rattle.std.specs.Prelude.{◌≡◌, ℕ, zero, suc, ◌+◌, ◌-◌, ◌*◌, ◌/◌, ◌%◌, ◌<◌, ◌≤◌, Bool, true, false, ◌&&◌, List, length, Some, None, Option, ◌==◌, nat_le, nat_lt, slice_index}
use Rattle.std.specs.List.{position}
use Rattle.samples.specs.declared.bounds.Bits.{Bits}
use Rattle.samples.specs.declared.component.Component.{Component}
use Rattle.samples.specs.declared.shape.Chroma.{Chroma}
use Rattle.samples.specs.declared.shape.Chroma.TheVariants.{Half, Full}
use Rattle.samples.specs.Parts.{before, whole}
use Rattle.samples.specs.Shapes.{share}
use Rattle.formats.specs.declared.format.Figures.{Figures}

-- what a type of packing fixes
pub record Packing : Type 0 where
  -- of a group
  pub pixels : ℕ
  pub bytes : ℕ
  pub depth : ℕ
  pub chroma : Chroma
  pub alpha : Bool
  pub bits : Bits
  -- the start bits of the runs in a group: all of Y', then Cb, Cr, A, each from left to right
  pub starts : List ℕ
  -- the bytes of a row, by the width
  pub row : ℕ → ℕ

abbrev pub figures_of : Packing → Figures
figures_of p = record { pixels = p.pixels; bytes = p.bytes; depth = p.depth; chroma = p.chroma; alpha = p.alpha; bits = p.bits }

-- ---- a group
-- how many runs of a component a group has
abbrev pub runs_of : Figures → Component → ℕ
runs_of f = share f.pixels f.chroma f.alpha

abbrev pub runs : Packing → Component → ℕ
runs p = runs_of (figures_of p)

-- the start bit of run i of a component within the group
abbrev pub start_in : Packing → Component → ℕ → ℕ
start_in p k i = slice_index p.starts (before (runs p) k + i)

abbrev pub covers : ℕ → ℕ → ℕ → Bool
covers n w s = nat_le s w && nat_lt w (s + n)

-- the number of the first run that holds bit w of the group
abbrev pub holder : Packing → ℕ → Option ℕ
holder p w = position (covers p.bits.count w) p.starts

-- ---- the test of a table, which is computed
abbrev pub all_below : ℕ → (ℕ → Bool) → Bool
all_below zero f = true
all_below (suc m) f = f m && all_below m f

abbrev pub is_run : ℕ → Option ℕ → Bool
is_run q None = false
is_run q (Some r) = q == r

-- run q lies in the group, and holds each of its bits alone
abbrev pub run_apart : Packing → ℕ → Bool
run_apart p q =
    nat_le (slice_index p.starts q + p.bits.count) (8 * p.bytes)
    && all_below p.bits.count (λ j. is_run q (holder p (slice_index p.starts q + j)))

abbrev pub all_apart : Packing → Bool
all_apart p = all_below (length p.starts) (run_apart p)

abbrev pub whole_pairs : Chroma → ℕ → Type 0
whole_pairs Half px = px % 2 ≡ 0
whole_pairs Full px = Unit {0}

-- what each type of packing owes
pub record Proper (p : Packing) : Type 0 where
  pub some_pixels : 0 < p.pixels
  pub few_pixels : p.pixels ≤ 16
  pub pairs : whole_pairs p.chroma p.pixels
  pub some_bytes : 0 < p.bytes
  pub few_bytes : p.bytes ≤ 16
  -- the groups of a row reach its width
  pub room : (w : ℕ) → w % 2 ≡ 0 → w ≤ p.row w / p.bytes * p.pixels
  pub short : (w : ℕ) → w ≤ 4096 → p.row w ≤ 16384
  -- the table has an entry for each run
  pub every : length p.starts ≡ whole (runs p)
  pub disjoint : all_apart p ≡ true

-- a row is filled up to a multiple of so many groups
pub record FillsRows (p : Packing) (groups : ℕ) : Type 0 where
  pub some : 0 < groups
  pub few : groups ≤ 16
  pub row : (w : ℕ) → w % 2 ≡ 0 → p.row w ≡ (w + p.pixels * groups - 1) / (p.pixels * groups) * (p.bytes * groups)
