-- The laws of one write: what takes answer after a call, and which bits stay.
-- m is what the frame's layout means, t its shape, come the lines come before the call.
use Rattle.std.specs.Prelude.{◌≡◌, ℕ, ◌*◌, ◌<◌, true, false, List, length, None, Ok, Err, Result, ◌≢◌, slice_index}
use Rattle.image.specs.Bits.{bit}
use Rattle.samples.specs.declared.fault.Fault.{Fault}
use Rattle.samples.specs.declared.shape.Shape.{Shape}
use Rattle.samples.specs.declared.site.Site.{Site}
use Rattle.samples.specs.Lines.{index_of}
use Rattle.samples.specs.Shapes.{has}
use Rattle.layout.specs.Images.{resting}
use Rattle.layout.specs.Meaning.{Meaning, Lawful}
use Rattle.frame.specs.Calls.{Call, lay, put, fill, restart, take, time_of, answered, image_after, lines_after, blanked}

-- what a take answers
abbrev pub taken : Meaning → ℕ → List ℕ → Site → Result ℕ Fault
taken m come image s = answered m come image (take s)

-- what it answers after a call
abbrev pub taken_after : Meaning → ℕ → List ℕ → Call → Site → Result ℕ Fault
taken_after m come image call s = taken m (lines_after m come image call) (image_after m come image call) s

-- the call writes the code v at the site s
abbrev pub Writes : Shape → ℕ → Call → Site → ℕ → Type 0
Writes t come (lay codes) s v = (time_of t s.line.0 ≡ come) × (v ≡ slice_index codes (index_of t s))
Writes t come (put z w) s v = (s ≡ z) × (v ≡ w)
Writes t come (fill c w) s v = (s.component ≡ c) × (v ≡ w)
Writes t come restart s v = v ≡ resting t s
Writes t come (take z) s v = ⊥

abbrev pub Accepted : Meaning → ℕ → List ℕ → Call → Type 0
Accepted m come image call = (n : ℕ) × (answered m come image call ≡ Ok n)

abbrev pub Refused : Meaning → ℕ → List ℕ → Call → Type 0
Refused m come image call = (f : Fault) × (answered m come image call ≡ Err f)

pub record OneWrite (m : Meaning) (come : ℕ) (image : List ℕ) (call : Call) : Type 0 where
  -- where an accepted call writes, a take answers the new code
  pub new : Accepted m come image call → (s : Site) (v : ℕ) → has m.shape s ≡ true → Writes m.shape come call s v → taken_after m come image call s ≡ Ok v
  -- where it does not, a take answers what it answered before
  pub old : Accepted m come image call → (s : Site) → ((v : ℕ) → Writes m.shape come call s v → ⊥) → taken_after m come image call s ≡ taken m come image s
  -- nor does anything change at a site that the shape lacks
  pub absent : (s : Site) → has m.shape s ≡ false → taken_after m come image call s ≡ taken m come image s
  -- no call but restart changes a fixed bit
  pub fixed : (call ≢ restart) → (b : ℕ) → m.owner b ≡ None → bit (image_after m come image call) b ≡ bit image b
  -- an accepted restart leaves each at its value
  pub reset : Accepted m come image call → call ≡ restart → (b : ℕ) → b < 8 * m.size → m.owner b ≡ None → bit (image_after m come image call) b ≡ m.fixed b
  -- whatever is refused changes no bit, and no line comes or goes
  pub nothing : Refused m come image call → (image_after m come image call ≡ image) × (lines_after m come image call ≡ come)

-- the same of begin, which has no frame yet
pub record OneBegin (m : Meaning) (image : List ℕ) : Type 0 where
  pub new : length image ≡ m.size → (s : Site) → has m.shape s ≡ true → taken m 0 (blanked m image) s ≡ Ok (resting m.shape s)
  pub reset : length image ≡ m.size → (b : ℕ) → b < 8 * m.size → m.owner b ≡ None → bit (blanked m image) b ≡ m.fixed b
  pub nothing : (length image ≢ m.size) → blanked m image ≡ image

abbrev pub LawsOfOneWrite : Type 0
LawsOfOneWrite =
    (m : Meaning) → Lawful m → ((come : ℕ) (image : List ℕ) (call : Call) → OneWrite m come image call) × ((image : List ℕ) → OneBegin m image)
