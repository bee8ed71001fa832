-- Worked figures of the definitions that the contracts cite.
use Rattle.std.specs.Prelude.{◌≡◌, true, false}
use Rattle.samples.specs.declared.bounds.Size.{Size}
use Rattle.samples.specs.declared.component.Component.TheVariants.{Luma, Cb, Cr, Alpha}
use Rattle.samples.specs.Codes.{admits}
use Rattle.samples.specs.Lines.{site_of}
use Rattle.formats.specs.Formats.{p_2vuy, p_v408, p_v410, p_v210}
use Rattle.packing.specs.Packed.{packed}
use Rattle.order.specs.declared.order.Order.TheVariants.{TopThenBottom, BottomThenTop}
use Rattle.order.specs.Orders.{stored}

pub record Worked : Type 0 where
  -- 2vuy of width 4, whatever its height
  pub luma_2vuy : (z : Size) → z.width ≡ 4 → (packed p_2vuy z).start (site_of Luma 3 0) ≡ 56
  pub cb_2vuy : (z : Size) → z.width ≡ 4 → (packed p_2vuy z).start (site_of Cb 1 1) ≡ 96
  -- v210 and v410 of every size
  pub cr_v210 : (z : Size) → (packed p_v210 z).start (site_of Cr 2 0) ≡ 106
  pub luma_v210 : (z : Size) → (packed p_v210 z).start (site_of Luma 6 0) ≡ 138
  pub cr_v410 : (z : Size) → (packed p_v410 z).start (site_of Cr 1 0) ≡ 54
  -- rows of v210
  pub row_1280 : p_v210.row 1280 ≡ 3456
  pub row_1920 : p_v210.row 1920 ≡ 5120
  -- three lines, field by field: detail 6 and detail 1
  pub bottom_first : (stored BottomThenTop 3 0 ≡ 1) × (stored BottomThenTop 3 1 ≡ 0) × (stored BottomThenTop 3 2 ≡ 2)
  pub top_first : (stored TopThenBottom 3 0 ≡ 0) × (stored TopThenBottom 3 1 ≡ 2) × (stored TopThenBottom 3 2 ≡ 1)
  -- reserved codes at 10 bits
  pub ten_luma : (admits 10 Luma 3 ≡ false) × (admits 10 Luma 1020 ≡ false) × (admits 10 Luma 4 ≡ true) × (admits 10 Luma 1019 ≡ true)
  pub ten_cb : (admits 10 Cb 3 ≡ false) × (admits 10 Cb 1020 ≡ false) × (admits 10 Cb 4 ≡ true) × (admits 10 Cb 1019 ≡ true)
  pub ten_cr : (admits 10 Cr 3 ≡ false) × (admits 10 Cr 1020 ≡ false) × (admits 10 Cr 4 ≡ true) × (admits 10 Cr 1019 ≡ true)
  -- v408: A takes every code, Y' does not
  pub v408_alpha : (admits p_v408.bits.count Alpha 0 ≡ true) × (admits p_v408.bits.count Alpha 255 ≡ true)
  pub v408_luma : (admits p_v408.bits.count Luma 0 ≡ false) × (admits p_v408.bits.count Luma 255 ≡ false)
