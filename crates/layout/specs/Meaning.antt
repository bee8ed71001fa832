-- What a layout means, and the laws that each layout owes.
use Rattle.std.specs.Prelude.{◌≡◌, ℕ, ◌+◌, ◌*◌, ◌<◌, ◌≤◌, Bool, true, false, cond, Some, None, Ok, Err, Option, Result}
use Rattle.samples.specs.declared.fault.Fault.{Fault}
use Rattle.samples.specs.declared.fault.Rule.TheVariants.{NoSite}
use Rattle.samples.specs.declared.shape.Shape.{Shape}
use Rattle.samples.specs.declared.site.Site.{Site}
use Rattle.samples.specs.Faults.{refusal}
use Rattle.samples.specs.Shapes.{has}

pub record Meaning : Type 0 where
  pub shape : Shape
  -- the bytes of an image
  pub size : ℕ
  -- the first bit of a site's run, whose n bits go upward from there
  pub start : Site → ℕ
  -- the site whose run holds a bit
  pub owner : ℕ → Option Site
  -- the value of a bit in no run
  pub fixed : ℕ → Bool

-- how many bits a code has
abbrev pub width : Meaning → ℕ
width m = m.shape.bits.count

pub record Lawful (m : Meaning) : Type 0 where
  -- an image has at most 2 ^ 28 bytes
  pub small : m.size ≤ 268435456
  -- each run lies within the image
  pub within : (s : Site) → has m.shape s ≡ true → m.start s + width m ≤ 8 * m.size
  -- each bit of a run has the run's site for its owner
  pub owned : (s : Site) → has m.shape s ≡ true → (k : ℕ) → k < width m → m.owner (m.start s + k) ≡ Some s
  -- an owner is a site of the shape, and its run holds the bit
  pub held : (b : ℕ) (s : Site) → m.owner b ≡ Some s → (has m.shape s ≡ true) × (m.start s ≤ b) × (b < m.start s + width m)
  -- an owned bit is not fixed at 1
  pub unfixed : (b : ℕ) (s : Site) → m.owner b ≡ Some s → m.fixed b ≡ false
  -- past the image no bit has an owner or a value
  pub outside : (b : ℕ) → 8 * m.size ≤ b → (m.owner b ≡ None) × (m.fixed b ≡ false)

-- the start of a site's run, or refusal 12
abbrev pub located : Meaning → Site → Result ℕ Fault
located m s = cond (has m.shape s) (Ok (m.start s)) (Err (refusal NoSite 0))

-- two runs that share a bit are one run
abbrev pub NoBitShared : Type 0
NoBitShared =
    (m : Meaning) → Lawful m → (s t : Site) (j k : ℕ)
    → has m.shape s ≡ true → has m.shape t ≡ true → j < width m → k < width m
    → m.start s + j ≡ m.start t + k → s ≡ t
