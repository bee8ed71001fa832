-- What the functions compute on the way fits, and is what the layout means.
use Rattle.std.specs.Prelude.{◌≡◌, ℕ, zero, suc, ◌+◌, ◌*◌, ◌/◌, ◌%◌, ◌^◌, ◌<◌, ◌≤◌, true, Some, slice_index}
use Rattle.std.proofs.Math.Path.{refl, ap}
use Rattle.std.proofs.Common.{◌∙◌, zero-mul, div-le_self, arith}
use Rattle.std.proofs.Math.Nat.{div-eq_of_lt, mul_left_comm}
use Rattle.std.proofs.lemmas.Nat.{mod_below, mul-le}
use Rattle.samples.specs.declared.bounds.Size.{Size}
use Rattle.samples.specs.declared.component.Component.{Component}
use Rattle.samples.specs.declared.component.Component.TheVariants.{Luma, Cb, Cr, Alpha}
use Rattle.samples.specs.declared.site.Site.{Site}
use Rattle.samples.specs.Fitting.{share_le}
use Rattle.samples.specs.Parts.{before}
use Rattle.samples.specs.Shapes.{has}
use Rattle.formats.specs.declared.format.Figures.{Figures}
use Rattle.formats.specs.Packing.{Packing, Proper, figures_of, runs_of, runs, start_in, holder}
use Rattle.formats.proofs.Table.{held_run}
use Rattle.packing.specs.Packed.{shape_of, start_of}
use Rattle.packing.specs.Groups.{lawful}

pub few_runs : (p : Packing) → Proper p → (k : Component) → runs p k ≤ 16
few_runs p ok k = omega (arith, share_le p.pixels p.chroma p.alpha k, ok.few_pixels)

-- no start overflows
pub start_fits : (p : Packing) → Proper p → (z : Size) (x : Site) → has (shape_of p z) x ≡ true → start_of p z x < 2 ^ 32
start_fits p ok z x t = let law = lawful p ok z in omega (arith, law.small, law.within x t)

-- a start put together from the parts that the calls give
pub start_sum : (p : Packing) (z : Size) (x : Site) (f : Figures) (r m n s : ℕ) → f ≡ figures_of p → r ≡ x.line.0 * p.row z.width → m ≡ runs_of f x.component → n ≡ before (runs_of f) x.component → s ≡ slice_index p.starts (n + x.column % m) → 8 * r + x.column / m * (8 * f.bytes) + s ≡ start_of p z x
start_sum p z x f r m n s ef er em en es =
    let l : ℕ = x.line.0 in
    let k : Component = x.component in
    let row : 8 * r ≡ l * (8 * p.row z.width) = ap (λ y. 8 * y) er ∙ mul_left_comm 8 l (p.row z.width) in
    let m' : m ≡ runs p k = em ∙ ap (λ y. runs_of y k) ef in
    let n' : n ≡ before (runs p) k = en ∙ ap (λ y. before (runs_of y) k) ef in
    let s' : s ≡ start_in p k (x.column % runs p k) = es ∙ ap (λ y. slice_index p.starts (y + x.column % m)) n' ∙ ap (λ y. start_in p k (x.column % y)) m' in
    ap (λ y. y + x.column / m * (8 * f.bytes) + s) row
    ∙ ap (λ y. l * (8 * p.row z.width) + x.column / y * (8 * f.bytes) + s) m'
    ∙ ap (λ y. l * (8 * p.row z.width) + x.column / runs p k * (8 * y.bytes) + s) ef
    ∙ ap (λ y. l * (8 * p.row z.width) + x.column / runs p k * (8 * p.bytes) + y) s'

-- a group's first column of a component fits
pub column_fits : (p : Packing) → Proper p → (b r s m : ℕ) (f : Figures) (k : Component) → 0 < r → r ≤ 16384 → f ≡ figures_of p → m ≡ runs_of f k → (m ≤ 16) × (b % (8 * r) / s * m ≤ 131072 * 16)
column_fits p ok b r s m f k some short ef em =
    let e : m ≡ runs p k = em ∙ ap (λ y. runs_of y k) ef in
    let few : m ≤ 16 = omega (arith, e, few_runs p ok k) in
    let rest : b % (8 * r) ≤ 131072 = omega (arith, mod_below b (8 * r) (omega arith)) in
    (few, mul-le _ m 131072 16 (omega (arith, div-le_self (b % (8 * r)) s)) few)

-- the number of a holder is one of the group's
pub held_number : (p : Packing) → Proper p → (w q : ℕ) → holder p w ≡ Some q → q < 64
held_number p ok w q e =
    omega (arith, (held_run p ok w q e).0, few_runs p ok Luma, few_runs p ok Cb, few_runs p ok Cr, few_runs p ok Alpha)

-- a row has bytes
zero_row : (r b px : ℕ) → 0 < b → r ≡ 0 → r / b * px ≡ 0
zero_row r b px hb e = ap (λ (n : ℕ). n / b * px) e ∙ ap (λ (n : ℕ). n * px) (div-eq_of_lt hb) ∙ zero-mul px

row_not_0 : (r b px w : ℕ) → 0 < b → 2 ≤ w → w ≤ r / b * px → 0 < r
row_not_0 zero b px w hb wide room = absurd (omega (arith, zero_row 0 b px hb refl))
row_not_0 (suc r) b px w hb wide room = omega arith

pub row_some : (p : Packing) → Proper p → (z : Size) → 0 < p.row z.width
row_some p ok z = row_not_0 (p.row z.width) p.bytes p.pixels z.width ok.some_bytes z.width_low (ok.room z.width z.even)
