-- What a component has of some columns, and of a line, can be counted.
use Rattle.std.specs.Prelude.{ℕ, ◌^◌, ◌<◌, ◌≤◌, Bool, true, false, cond}
use Rattle.std.proofs.Common.{arith, zero-le}
use Rattle.samples.specs.declared.component.Component.{Component}
use Rattle.samples.specs.declared.component.Component.TheVariants.{Luma, Cb, Cr, Alpha}
use Rattle.samples.specs.declared.shape.Chroma.{Chroma}
use Rattle.samples.specs.declared.shape.Chroma.TheVariants.{Half, Full}
use Rattle.samples.specs.declared.shape.Shape.{Shape}
use Rattle.samples.specs.Parts.{whole}
use Rattle.samples.specs.Shapes.{chroma_columns, share, columns}

chroma_le : (c : Chroma) (w : ℕ) → chroma_columns c w ≤ w
chroma_le Half w = omega arith
chroma_le Full w = omega arith

alpha_le : (a : Bool) (w : ℕ) → cond a w 0 ≤ w
alpha_le true w = omega arith
alpha_le false w = zero-le

pub share_le : (w : ℕ) (c : Chroma) (a : Bool) (k : Component) → share w c a k ≤ w
share_le w c a Luma = omega arith
share_le w c a Cb = chroma_le c w
share_le w c a Cr = chroma_le c w
share_le w c a Alpha = alpha_le a w

pub shares_fit : (w : ℕ) (c : Chroma) (a : Bool) → w ≤ 4096 → whole (share w c a) < 2 ^ 32
shares_fit w c a few = omega (arith, share_le w c a Cb, share_le w c a Cr, share_le w c a Alpha)

pub columns_le : (t : Shape) (k : Component) → columns t k ≤ t.size.width
columns_le t k = share_le t.size.width t.chroma t.alpha k

pub line_fits : (t : Shape) → whole (columns t) < 2 ^ 32
line_fits t = shares_fit t.size.width t.chroma t.alpha t.size.width_high
