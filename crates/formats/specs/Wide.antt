-- The widths of codes that v216 takes, and where the codes stand.
use Rattle.std.specs.Prelude.{ℕ, ◌-◌, Bool, ◌||◌, List, [], ◌∷◌, ◌==◌}

abbrev pub v216_width : ℕ → Bool
v216_width n = n == 10 || (n == 12 || (n == 14 || n == 16))

-- Y' 32 - n, 64 - n; Cb 16 - n; Cr 48 - n
abbrev pub v216_starts : ℕ → List ℕ
v216_starts n = (32 - n) ∷ (64 - n) ∷ (16 - n) ∷ (48 - n) ∷ []
