-- What is answered and left where an image is wiped, or a line of it read or written: the tests in rising order of their refusals.
use Rattle.std.specs.Prelude.{ℕ, cond, List, length, Ok, Err, Result, ◌==◌, nat_lt}
use Rattle.std.proofs.Math.Seq.{paste}
use Rattle.samples.specs.declared.fault.Fault.{Fault}
use Rattle.samples.specs.declared.fault.Rule.TheVariants.{ImageLength, NoSite, CodeCount}
use Rattle.samples.specs.Faults.{refusal}
use Rattle.samples.specs.declared.component.Component.{Component}
use Rattle.samples.specs.declared.shape.Shape.{Shape}
use Rattle.samples.specs.Lines.{first_of, line_count}
use Rattle.samples.specs.Shapes.{columns}
use Rattle.layout.specs.Meaning.{Meaning}
use Rattle.layout.specs.Images.{line_held, part_held, wiped, rewritten, laid, part_laid}

-- x where an image of `have` bytes has the layout's `size`, else refused by 11
abbrev pub length_tests : {X : Type 0} → ℕ → ℕ → (Fault → X) → X → X
length_tests have size refused x = cond (have == size) x (refused (refusal ImageLength 0))

-- x where also the picture, whose shape is t, has line l, else refused by 12, and n codes make a line, else refused by 13
abbrev pub judged : {X : Type 0} → ℕ → ℕ → Shape → ℕ → ℕ → (Fault → X) → X → X
judged have size t l n refused x =
    length_tests have size refused
    (cond (nat_lt l t.size.height)
    (cond (n == line_count t) x (refused (refusal CodeCount 0)))
    (refused (refusal NoSite 0)))

-- the same of an image under a layout
abbrev pub sized : {X : Type 0} → Meaning → List ℕ → (Fault → X) → X → X
sized m image refused x = length_tests (length image) m.size refused x

abbrev pub line_tests : {X : Type 0} → Meaning → List ℕ → ℕ → ℕ → (Fault → X) → X → X
line_tests m image l n refused x = judged (length image) m.size m.shape l n refused x

abbrev pub wipe_answer : Meaning → List ℕ → Result (Unit {0}) Fault
wipe_answer m image = sized m image Err (Ok tt)

abbrev pub wipe_image : Meaning → List ℕ → List ℕ
wipe_image m image = sized m image (λ _. image) (wiped m)

-- of reading and writing alike
abbrev pub line_answer : Meaning → List ℕ → ℕ → List ℕ → Result (Unit {0}) Fault
line_answer m image l codes = line_tests m image l (length codes) Err (Ok tt)

-- the codes after a line is read
abbrev pub line_read : Meaning → List ℕ → ℕ → List ℕ → List ℕ
line_read m image l codes = line_tests m image l (length codes) (λ _. codes) (line_held m image l)

-- the image after a line is written
abbrev pub line_written : Meaning → List ℕ → ℕ → List ℕ → List ℕ
line_written m image l codes = line_tests m image l (length codes) (λ _. image) (rewritten m (laid m.shape l codes) image)

-- the codes after those of one component are read: they stand from the component's first index on
abbrev pub part_read : Meaning → List ℕ → ℕ → Component → List ℕ → List ℕ
part_read m image l c codes =
    line_tests m image l (length codes) (λ _. codes) (paste codes (first_of m.shape c) (part_held m image l c) (columns m.shape c))

-- the image after those of one component are written
abbrev pub part_written : Meaning → List ℕ → ℕ → Component → List ℕ → List ℕ
part_written m image l c codes =
    line_tests m image l (length codes) (λ _. image) (rewritten m (part_laid m.shape l c codes) image)
