-- A row in whole units of groups, as the code counts it from the constants of a type.
use Rattle.std.specs.Prelude.{◌≡◌, ℕ, ◌+◌, ◌-◌, ◌*◌, ◌/◌, ◌<◌, ◌≤◌}
use Rattle.std.proofs.Common.{sym, ap, ◌∙◌, arith}
use Rattle.std.proofs.Math.Nat.{mul-pos}
use Rattle.std.proofs.lemmas.Nat.{mul-le}
use Rattle.samples.specs.declared.bounds.Size.{Size}
use Rattle.formats.specs.declared.format.Figures.{Figures}
use Rattle.formats.specs.Packing.{Packing, Proper, FillsRows, figures_of}

module _ (p : Packing) (ok : Proper p) (f : Figures) (told : figures_of p ≡ f) (n : ℕ) (fills : FillsRows p n) where
  pixels : f.pixels ≡ p.pixels
  pixels = sym (ap (λ (x : Figures). x.pixels) told)

  bytes : f.bytes ≡ p.bytes
  bytes = sym (ap (λ (x : Figures). x.bytes) told)

  -- the pixels of a unit, by what a call gives
  pub unit_pixels : (a b : ℕ) → a ≡ f.pixels → b ≡ n → (0 < a * b) × (a * b ≤ 256)
  unit_pixels a b ea eb =
      (mul-pos (omega (arith, ea, pixels, ok.some_pixels)) (omega (arith, eb, fills.some)), mul-le a b 16 16 (omega (arith, ea, pixels, ok.few_pixels)) (omega (arith, eb, fills.few)))

  pub unit_bytes : (a b : ℕ) → a ≡ f.bytes → b ≡ n → a * b ≤ 256
  unit_bytes a b ea eb = mul-le a b 16 16 (omega (arith, ea, bytes, ok.few_bytes)) (omega (arith, eb, fills.few))

  pub row_filled : (z : Size) (a b c d : ℕ) → a ≡ f.pixels → b ≡ n → c ≡ f.bytes → d ≡ n → (z.width + a * b - 1) / (a * b) * (c * d) ≡ p.row z.width
  row_filled z a b c d ea eb ec ed =
      ap (λ x. (z.width + x * b - 1) / (x * b) * (c * d)) (ea ∙ pixels)
      ∙ ap (λ x. (z.width + p.pixels * x - 1) / (p.pixels * x) * (c * d)) eb
      ∙ ap (λ x. (z.width + p.pixels * n - 1) / (p.pixels * n) * (x * d)) (ec ∙ bytes)
      ∙ ap (λ x. (z.width + p.pixels * n - 1) / (p.pixels * n) * (p.bytes * x)) ed
      ∙ sym (fills.row z.width z.even)
