-- The order of lines in time, in a picture of h lines.
use Rattle.std.specs.Prelude.{◌≡◌, ℕ, ◌+◌, ◌-◌, ◌*◌, ◌/◌, ◌%◌, ◌<◌, cond, Some, None, Option, ◌==◌, nat_lt}
use Rattle.samples.specs.declared.lines.PictureLine.{PictureLine}
use Rattle.samples.specs.declared.lines.TimeLine.{TimeLine}
use Rattle.samples.specs.declared.shape.TimeKind.{TimeKind}
use Rattle.samples.specs.declared.shape.TimeKind.TheVariants.{Progressive, TopFirst, BottomFirst}

-- the time line of picture line s: the earlier field first, each field from top to bottom
abbrev pub time_line : TimeKind → ℕ → ℕ → ℕ
time_line Progressive h s = s
time_line TopFirst h s = cond (s % 2 == 0) (s / 2) ((h + 1) / 2 + (s - 1) / 2)
time_line BottomFirst h s = cond (s % 2 == 0) (h / 2 + s / 2) ((s - 1) / 2)

-- the picture line of time line t
abbrev pub picture_line : TimeKind → ℕ → ℕ → ℕ
picture_line Progressive h t = t
picture_line TopFirst h t = cond (nat_lt t ((h + 1) / 2)) (2 * t) (2 * (t - (h + 1) / 2) + 1)
picture_line BottomFirst h t = cond (nat_lt t (h / 2)) (2 * t + 1) (2 * (t - h / 2))

-- the same over wrapped lines; a line that the picture lacks has no time
abbrev pub time_line_of : TimeKind → ℕ → PictureLine → Option TimeLine
time_line_of k h s = cond (nat_lt s.0 h) (Some (record { 0 = time_line k h s.0 })) None

abbrev pub picture_line_of : TimeKind → ℕ → TimeLine → Option PictureLine
picture_line_of k h t = cond (nat_lt t.0 h) (Some (record { 0 = picture_line k h t.0 })) None

-- f and g are inverse to each other on the numbers below h
pub record Bijection (h : ℕ) (f g : ℕ → ℕ) : Type 0 where
  pub there : (s : ℕ) → s < h → f s < h
  pub back : (t : ℕ) → t < h → g t < h
  pub left : (s : ℕ) → s < h → g (f s) ≡ s
  pub right : (t : ℕ) → t < h → f (g t) ≡ t

-- the time lines are the picture lines in another order
abbrev pub TimesAreLines : Type 0
TimesAreLines = (k : TimeKind) (h : ℕ) → Bijection h (time_line k h) (picture_line k h)
