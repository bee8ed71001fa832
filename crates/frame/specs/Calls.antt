-- The calls on a frame in the making: the tests that each has to pass, what it answers, and what it leaves.
-- t is the frame's shape, m what its layout means, come the lines come.
use Rattle.std.specs.Prelude.{ℕ, zero, suc, ◌+◌, ◌*◌, Bool, cond, ◌&&◌, List, length, Some, None, Ok, Err, Option, Result, ◌==◌, nat_lt, slice_index}
use Rattle.samples.specs.declared.component.Component.{Component}
use Rattle.samples.specs.declared.fault.Fault.{Fault}
use Rattle.samples.specs.declared.fault.Rule.TheVariants.{NoSite, CodeCount, CodeNotAdmitted, EveryLineCome, LineNotCome}
use Rattle.samples.specs.declared.lines.PictureLine.{PictureLine}
use Rattle.samples.specs.declared.shape.Shape.{Shape}
use Rattle.samples.specs.declared.site.Site.{Site}
use Rattle.samples.specs.Codes.{admits}
use Rattle.samples.specs.Faults.{refusal}
use Rattle.samples.specs.Lines.{line_count, index_of, component_at}
use Rattle.samples.specs.Shapes.{columns, has}
use Rattle.samples.specs.Times.{time_line, picture_line}
use Rattle.layout.specs.Images.{code_of, rewritten, resting, blank, only, filled}
use Rattle.layout.specs.Meaning.{Meaning}
use Rattle.layout.specs.Tests.{sized}

-- a call, without its frame and image
pub data Call : Type 0 where
  lay : List ℕ → Call
  put : Site → ℕ → Call
  fill : Component → ℕ → Call
  restart : Call
  take : Site → Call

-- ---- tests, in rising order of their refusals
-- whether a component of the shape admits a code
abbrev pub admitted : Shape → Component → ℕ → Bool
admitted t c v = admits t.bits.count c v

-- whether the code at an index of a line is admitted
abbrev pub admitted_at : Shape → List ℕ → ℕ → Bool
admitted_at t codes i = admitted t (component_at t i) (slice_index codes i)

-- the first, else the second
abbrev pub or_else : Option ℕ → Option ℕ → Option ℕ
or_else (Some i) other = Some i
or_else None other = other

-- the first index below n at which a test fails
unfoldable pub first_failing : (ℕ → Bool) → ℕ → Option ℕ
first_failing test zero = None
first_failing test (suc n) = or_else (first_failing test n) (cond (test n) None (Some n))

-- x where no code failed, else refused by 15 at the index of the first that did
abbrev pub unless_failing : {X : Type 0} → Option ℕ → (Fault → X) → X → X
unless_failing (Some i) refused x = refused (refusal CodeNotAdmitted i)
unless_failing None refused x = x

-- when a picture line comes
abbrev pub time_of : Shape → ℕ → ℕ
time_of t l = time_line t.time t.size.height l

-- whether a picture line of the shape has come
abbrev pub line_come : Shape → ℕ → ℕ → Bool
line_come t come l = nat_lt l t.size.height && nat_lt (time_of t l) come

-- x where a call passes its tests, else its first refusal; the length of the image is tested before
abbrev pub tests : {X : Type 0} → Shape → ℕ → Call → (Fault → X) → X → X
tests t come (lay codes) refused x =
    cond (length codes == line_count t)
    (unless_failing (first_failing (admitted_at t codes) (line_count t)) refused
    (cond (nat_lt come t.size.height) x (refused (refusal EveryLineCome 0))))
    (refused (refusal CodeCount 0))
tests t come (put s v) refused x =
    cond (has t s)
    (cond (admitted t s.component v)
    (cond (line_come t come s.line.0) x (refused (refusal LineNotCome 0)))
    (refused (refusal CodeNotAdmitted 0)))
    (refused (refusal NoSite 0))
tests t come (fill c v) refused x =
    cond (nat_lt 0 (columns t c))
    (cond (admitted t c v) x (refused (refusal CodeNotAdmitted 0)))
    (refused (refusal NoSite 0))
tests t come restart refused x = x
tests t come (take s) refused x = cond (has t s) x (refused (refusal NoSite 0))

-- ---- what an accepted call does
-- the codes of the line that comes after `come` lines, each at its site
abbrev pub coming : Shape → ℕ → List ℕ → Site → Option ℕ
coming t come codes s = cond (time_of t s.line.0 == come) (Some (slice_index codes (index_of t s))) None

-- the code that it writes at a site, if any
abbrev pub writes : Shape → ℕ → Call → Site → Option ℕ
writes t come (lay codes) s = coming t come codes s
writes t come (put z v) s = only z v s
writes t come (fill c v) s = filled c v s
writes t come restart s = Some (resting t s)
writes t come (take z) s = None

-- the image that it leaves
abbrev pub left : Meaning → ℕ → List ℕ → Call → List ℕ
left m come image (lay codes) = rewritten m (writes m.shape come (lay codes)) image
left m come image (put s v) = rewritten m (writes m.shape come (put s v)) image
left m come image (fill c v) = rewritten m (writes m.shape come (fill c v)) image
left m come image restart = blank m
left m come image (take s) = image

-- the lines come then
abbrev pub lines : ℕ → Call → ℕ
lines come (lay codes) = come + 1
lines come (put s v) = come
lines come (fill c v) = come
lines come restart = 0
lines come (take s) = come

-- how many sites a component has
abbrev pub site_count : Shape → Component → ℕ
site_count t c = columns t c * t.size.height

-- its answer
abbrev pub answer : Meaning → ℕ → List ℕ → Call → ℕ
answer m come image (lay codes) = come + 1
answer m come image (put s v) = code_of m image s
answer m come image (fill c v) = site_count m.shape c
answer m come image restart = 0
answer m come image (take s) = code_of m image s

-- ---- every call, accepted or refused
abbrev pub answered : Meaning → ℕ → List ℕ → Call → Result ℕ Fault
answered m come image call = sized m image Err (tests m.shape come call Err (Ok (answer m come image call)))

abbrev pub image_after : Meaning → ℕ → List ℕ → Call → List ℕ
image_after m come image call = sized m image (λ _. image) (tests m.shape come call (λ _. image) (left m come image call))

abbrev pub lines_after : Meaning → ℕ → List ℕ → Call → ℕ
lines_after m come image call = sized m image (λ _. come) (tests m.shape come call (λ _. come) (lines come call))

-- the picture line that a lay writes, where it passes its tests
abbrev pub next_line : Meaning → ℕ → List ℕ → List ℕ → Result PictureLine Fault
next_line m come image codes =
    sized m image Err (tests m.shape come (lay codes) Err (Ok (record { 0 = picture_line m.shape.time m.shape.size.height come })))

-- the image after begin, and after what blanks as begin does
abbrev pub blanked : Meaning → List ℕ → List ℕ
blanked m image = sized m image (λ _. image) (blank m)
