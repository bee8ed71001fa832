-- What hangs on the size of a picture, by plain numbers.
use Rattle.std.specs.Prelude.{◌≡◌, ℕ, false, is_ok}
use Rattle.samples.specs.declared.bounds.Size.{Size}
use Rattle.samples.specs.Bounds.{size_made}

-- r is f of the size w by h; x where that size is not allowed
abbrev pub AtSize : {X : Type 0} → ℕ → ℕ → (Size → X) → X → X → Type 0
AtSize w h f x r =
    ((z : Size) → z.width ≡ w → z.height ≡ h → r ≡ f z) × (is_ok (size_made w h) ≡ false → r ≡ x)
