-- Rows of groups of runs: a proper packing means a lawful layout.
use Rattle.std.specs.Prelude.{◌≡◌, ℕ, ◌+◌, ◌-◌, ◌*◌, ◌/◌, ◌%◌, ◌<◌, ◌≤◌, Bool, true, false, cond, Some, None, Option, slice_index, slice_index_or}
use Rattle.std.proofs.Math.Path.{refl, ap}
use Rattle.std.proofs.Common.{sym, subst, ◌∙◌, mul_comm, mul_assoc, add-mul}
use Rattle.std.proofs.Math.Nat.{mul_left_comm}
use native.Mathlib.Omega.{arith}
use Rattle.std.proofs.Math.Arith.{digits_div, digits_mod, digits_lt}
use Rattle.std.proofs.lemmas.Nat.{div_below, mod_below, div-add-mod', mul-le}
use Rattle.samples.specs.declared.bounds.Size.{Size}
use Rattle.samples.specs.declared.component.Component.{Component}
use Rattle.samples.specs.declared.component.Component.TheVariants.{Luma, Cb, Cr, Alpha}
use Rattle.samples.specs.declared.shape.Chroma.{Chroma}
use Rattle.samples.specs.declared.shape.Chroma.TheVariants.{Half, Full}
use Rattle.samples.specs.declared.site.Site.{Site}
use Rattle.samples.specs.Lines.{site_of}
use Rattle.samples.specs.Parts.{before, part_at}
use Rattle.samples.specs.Shapes.{chroma_columns, columns, has}
use Rattle.samples.proofs.Dividing.{part_here, part_holds}
use Rattle.layout.specs.Meaning.{Lawful}
use Rattle.layout.proofs.Sites.{has_parts}
use Rattle.layout.proofs.Following.{unowned}
use Rattle.formats.specs.Packing.{Packing, Proper, runs, start_in, holder, whole_pairs}
use Rattle.packing.specs.Packed.{shape_of, start_of, if_has, site_in, owner_of, packed}
use Rattle.formats.proofs.Table.{run_within, run_held, held_run}

-- A number in three digits: line, group and bit, where a line has r bits and a group s, and g groups fit into a line.
module _ (r s g : ℕ) (fit : g * s ≤ r) where
  inner : (i w : ℕ) → i < g → w < s → i * s + w < r
  inner i w hi hw = omega (arith, digits_lt hi hw)

  line_of : (l i w : ℕ) → i < g → w < s → (l * r + (i * s + w)) / r ≡ l
  line_of l i w hi hw = digits_div l (inner i w hi hw)

  rest_of : (l i w : ℕ) → i < g → w < s → (l * r + (i * s + w)) % r ≡ i * s + w
  rest_of l i w hi hw = digits_mod l (inner i w hi hw)

  inside : (l i w h : ℕ) → i < g → w ≤ s → l < h → l * r + (i * s + w) ≤ h * r
  inside l i w h hi hw hl = omega (arith, mul-le (i + 1) s g s (omega arith) (omega arith), mul-le (l + 1) r h r (omega arith) (omega arith), add-mul i 1 s, add-mul l 1 r)

-- a component's columns are spread over the groups
spread : (ch : Chroma) (w px g c : ℕ) → 0 < px → whole_pairs ch px → w ≤ g * px → c < chroma_columns ch w → (0 < chroma_columns ch px) × (c < g * chroma_columns ch px)
spread Full w px g c hp e room h = (hp, omega arith)
spread Half w px g c hp e room h =
    let two : px ≡ px / 2 * 2 = omega arith in
    let m : g * px ≡ g * (px / 2) * 2 = ap (λ x. g * x) two ∙ sym (mul_assoc g (px / 2) 2) in
    (omega arith, omega arith)

spread_alpha : (a : Bool) (w px g c : ℕ) → 0 < px → w ≤ g * px → c < cond a w 0 → (0 < cond a px 0) × (c < g * cond a px 0)
spread_alpha true w px g c hp room h = (hp, omega arith)
spread_alpha false w px g c hp room h = absurd (omega arith)

shown : (b : Bool) (x : Site) → b ≡ true → cond b (Some x) None ≡ Some x
shown b x t = ap (λ c. cond c (Some x) None) t

told : (b : Bool) (y x : Site) → cond b (Some y) None ≡ Some x → (b ≡ true) × (y ≡ x)
told true y x e = (refl, cc)
told false y x e = let z : ◌≡◌ {A = ℕ} 0 1 = cc in absurd (omega arith)

module _ (p : Packing) (ok : Proper p) (z : Size) where
  abbrev row : ℕ
  row = p.row z.width

  groups : ℕ
  groups = row / p.bytes

  fit : groups * (8 * p.bytes) ≤ 8 * row
  unfolding groups
  fit = omega (arith, div-add-mod' row p.bytes, mul_left_comm (row / p.bytes) 8 p.bytes)

  pub row_short : p.row z.width ≤ 16384
  row_short = ok.short z.width z.width_high

  pub reach : (k : Component) (c : ℕ) → c < columns (shape_of p z) k → (0 < runs p k) × (c < p.row z.width / p.bytes * runs p k)
  reach Luma c l = (ok.some_pixels, omega (arith, ok.room z.width z.even))
  reach Cb c l = spread p.chroma z.width p.pixels _ c ok.some_pixels ok.pairs (ok.room z.width z.even) l
  reach Cr c l = spread p.chroma z.width p.pixels _ c ok.some_pixels ok.pairs (ok.room z.width z.even) l
  reach Alpha c l = spread_alpha p.alpha z.width p.pixels _ c ok.some_pixels (ok.room z.width z.even) l

  -- the owner of a bit, by the bit's line, group and bit of the group
  owner_at : (b l g v : ℕ) → b / (8 * row) ≡ l → b % (8 * row) / (8 * p.bytes) ≡ g → b % (8 * row) % (8 * p.bytes) ≡ v → owner_of p z b ≡ site_in p (shape_of p z) l g (holder p v)
  owner_at b l g v el eg ev =
      ap (λ (y : ℕ). site_in p (shape_of p z) (b / (8 * row)) (b % (8 * row) / (8 * p.bytes)) (holder p y)) ev
      ∙ ap (λ (y : ℕ). site_in p (shape_of p z) (b / (8 * row)) y (holder p v)) eg
      ∙ ap (λ (y : ℕ). site_in p (shape_of p z) y g (holder p v)) el

  -- the parts of a site of the shape
  module _ (x : Site) (t : has (shape_of p z) x ≡ true) where
    cnt : ℕ
    cnt = runs p x.component

    in_columns : x.column < columns (shape_of p z) x.component
    in_columns = (has_parts (shape_of p z) x t).0

    in_lines : x.line.0 < z.height
    in_lines = (has_parts (shape_of p z) x t).1

    in_group : x.column % cnt < cnt
    unfolding cnt
    in_group = mod_below x.column _ (reach x.component x.column in_columns).0

    in_row : x.column / cnt < groups
    unfolding cnt groups
    in_row = let q = reach x.component x.column in_columns in div_below x.column _ (row / p.bytes) q.0 q.1

    run_start : ℕ
    unfolding cnt
    run_start = start_in p x.component (x.column % cnt)

    in_slot : run_start + p.bits.count ≤ 8 * p.bytes
    unfolding cnt run_start
    in_slot = run_within p ok x.component (x.column % runs p x.component) in_group

    digits : (k : ℕ) → start_of p z x + k ≡ x.line.0 * (8 * row) + (x.column / cnt * (8 * p.bytes) + (run_start + k))
    unfolding cnt run_start
    digits k = omega arith

    run_inside : start_of p z x + p.bits.count ≤ 8 * (p.row z.width * z.height)
    run_inside = omega (arith, digits p.bits.count, inside (8 * row) (8 * p.bytes) groups fit x.line.0 (x.column / cnt) (run_start + p.bits.count) z.height in_row in_slot in_lines, mul_comm z.height (8 * row), mul_assoc 8 row z.height)

    -- the site that a run's number and group stand for
    back : site_in p (shape_of p z) x.line.0 (x.column / cnt) (Some (before (runs p) x.component + x.column % cnt)) ≡ Some x
    unfolding cnt
    back =
        let k = x.component in
        let i = x.column % runs p k in
        let g = x.column / runs p k in
        let q = before (runs p) k + i in
        let rest : q - before (runs p) k ≡ i = omega arith in
        ap (λ (c : Component). if_has (shape_of p z) (site_of c (g * runs p c + (q - before (runs p) c)) x.line.0)) (part_here (runs p) k i in_group)
        ∙ ap (λ (n : ℕ). if_has (shape_of p z) (site_of k (g * runs p k + n) x.line.0)) rest
        ∙ ap (λ (c : ℕ). if_has (shape_of p z) (site_of k c x.line.0)) (div-add-mod' x.column (runs p k))
        ∙ shown (has (shape_of p z) x) x t

    owned_bit : (k : ℕ) → k < p.bits.count → owner_of p z (start_of p z x + k) ≡ Some x
    unfolding cnt run_start
    owned_bit k l =
        let r = 8 * row in
        let s = 8 * p.bytes in
        let g = x.column / runs p x.component in
        let v = run_start + k in
        let lt : v < s = omega (arith, in_slot) in
        let rest : (start_of p z x + k) % r ≡ g * s + v = ap (λ (y : ℕ). y % r) (digits k) ∙ rest_of r s groups fit x.line.0 g v in_row lt in
        owner_at (start_of p z x + k) x.line.0 g v
        (ap (λ (y : ℕ). y / r) (digits k) ∙ line_of r s groups fit x.line.0 g v in_row lt)
        (ap (λ (y : ℕ). y / s) rest ∙ digits_div g lt)
        (ap (λ (y : ℕ). y % s) rest ∙ digits_mod g lt)
        ∙ ap (site_in p (shape_of p z) x.line.0 g) (run_held p ok x.component (x.column % runs p x.component) k in_group l)
        ∙ back

  -- what the owner of a bit owns
  module _ (b : ℕ) where
    own_line : ℕ
    own_line = b / (8 * row)

    own_group : ℕ
    own_group = b % (8 * row) / (8 * p.bytes)

    own_bit : ℕ
    own_bit = b % (8 * row) % (8 * p.bytes)

    own_digits : b ≡ own_line * (8 * row) + (own_group * (8 * p.bytes) + own_bit)
    unfolding own_line own_group own_bit
    own_digits = omega (arith, div-add-mod' b (8 * row), div-add-mod' (b % (8 * row)) (8 * p.bytes))

    Owned : Site → Type 0
    Owned x = (has (shape_of p z) x ≡ true) × (start_of p z x ≤ b) × (b < start_of p z x + p.bits.count)

    -- of run i of a component
    of_run : (k : Component) (i : ℕ) → i < runs p k → start_in p k i ≤ own_bit → own_bit < start_in p k i + p.bits.count → has (shape_of p z) (site_of k (own_group * runs p k + i) own_line) ≡ true → Owned (site_of k (own_group * runs p k + i) own_line)
    unfolding Owned
    of_run k i h low high t =
        let m = runs p k in
        let start : start_of p z (site_of k (own_group * m + i) own_line) ≡ own_line * (8 * row) + own_group * (8 * p.bytes) + start_in p k i
        = ap (λ (y : ℕ). own_line * (8 * row) + y * (8 * p.bytes) + start_in p k ((own_group * m + i) % m)) (digits_div own_group h)
        ∙ ap (λ (y : ℕ). own_line * (8 * row) + own_group * (8 * p.bytes) + start_in p k y) (digits_mod own_group h) in
        (t, omega (arith, start, own_digits, low), omega (arith, start, own_digits, high))

    of_holder : (o : Option ℕ) (x : Site) → holder p own_bit ≡ o → site_in p (shape_of p z) own_line own_group o ≡ Some x → Owned x
    of_holder None x e f = let y : ◌≡◌ {A = ℕ} 0 1 = cc in absurd (omega arith)
    of_holder (Some q) x e f =
        let k : Component = part_at (runs p) q in
        let i : ℕ = q - before (runs p) k in
        let y = site_of k (own_group * runs p k + i) own_line in
        let s = told (has (shape_of p z) y) y x f in
        let held = held_run p ok own_bit q e in
        let part = part_holds (runs p) q held.0 in
        let same : start_in p k i ≡ slice_index_or p.starts q 0 = ap (λ n. slice_index p.starts n) (omega (arith, part.0)) in
        subst Owned s.1 (of_run k i part.1 (omega (arith, same, held.1)) (omega (arith, same, held.2)) s.0)

    owns_bit : (x : Site) → owner_of p z b ≡ Some x → Owned x
    unfolding own_line own_group own_bit
    owns_bit x e = of_holder (holder p own_bit) x refl e

  pub lawful : Lawful (packed p z)
  unfolding Owned
  lawful = record {
    small = omega (arith, mul-le row z.height 16384 2304 row_short z.height_high);
    within = run_inside;
    owned = λ x t k l. owned_bit x t k l;
    held = owns_bit;
    unfixed = λ b x e. refl;
    outside = λ b past. (unowned (packed p z) run_inside owns_bit b past, refl);
  }
