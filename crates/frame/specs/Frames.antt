-- The calls on a frame: what each answers, and what it leaves. `meaning` says what a layout of the frame's type means.
use Rattle.std.specs.Prelude.{ℕ, cond, List, Ok, Err, Result}
use Rattle.samples.specs.declared.fault.Declined.{Declined}
use Rattle.samples.specs.declared.fault.Fault.{Fault}
use Rattle.samples.specs.declared.fault.Rule.TheVariants.{NoSite}
use Rattle.samples.specs.declared.lines.PictureLine.{PictureLine}
use Rattle.samples.specs.declared.shape.Shape.{Shape}
use Rattle.samples.specs.declared.site.Site.{Site}
use Rattle.samples.specs.Faults.{refusal}
use Rattle.samples.specs.Shapes.{has}
use Rattle.layout.specs.Meaning.{Meaning}
use Rattle.layout.specs.Tests.{sized}
use Rattle.frame.specs.declared.making.Making.{Making}
use Rattle.frame.specs.Calls.{Call, answered, image_after, lines_after, next_line}

-- a frame with no lines come, else the fault and the layout as it was
abbrev pub frame_begun : {L : Type 0} → (L → Meaning) → L → List ℕ → Result (Making L) (Declined L)
frame_begun meaning layout image =
    sized (meaning layout) image (λ f. Err (record { fault = f; back = layout })) (Ok (record { layout = layout; come = 0 }))

-- ---- a call on a frame and its image
abbrev pub frame_answer : {L : Type 0} → (L → Meaning) → Making L → List ℕ → Call → Result ℕ Fault
frame_answer meaning frame image call = answered (meaning frame.layout) frame.come image call

abbrev pub frame_image : {L : Type 0} → (L → Meaning) → Making L → List ℕ → Call → List ℕ
frame_image meaning frame image call = image_after (meaning frame.layout) frame.come image call

abbrev pub frame_after : {L : Type 0} → (L → Meaning) → Making L → List ℕ → Call → Making L
frame_after meaning frame image call =
    record { layout = frame.layout; come = lines_after (meaning frame.layout) frame.come image call }

-- ---- the tests that calls share
-- the frame's shape, where the image has its length
abbrev pub frame_shape : {L : Type 0} → (L → Meaning) → Making L → List ℕ → Result Shape Fault
frame_shape meaning frame image = sized (meaning frame.layout) image Err (Ok (meaning frame.layout).shape)

-- the same with the start of a site's run
abbrev pub frame_site : {L : Type 0} → (L → Meaning) → Making L → List ℕ → Site → Result (Shape × ℕ) Fault
frame_site meaning frame image s =
    let m : Meaning = meaning frame.layout in
    sized m image Err (cond (has m.shape s) (Ok (m.shape, m.start s)) (Err (refusal NoSite 0)))

-- the picture line that comes next, where these codes can be laid there
abbrev pub frame_line : {L : Type 0} → (L → Meaning) → Making L → List ℕ → List ℕ → Result PictureLine Fault
frame_line meaning frame image codes = next_line (meaning frame.layout) frame.come image codes
