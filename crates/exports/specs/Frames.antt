-- A picture laid line by line, and its codes taken back. m is what the layout means; codes has the codes of all lines, one
-- line after the other.
use Rattle.std.specs.Prelude.{ℕ, zero, suc, ◌*◌, ◌/◌, ◌%◌, cond, List, map, length, take as first, drop, ◌==◌}
use Rattle.std.specs.List.{range_with_len}
use Rattle.std.specs.Result.{result_unwrap_or}
use Rattle.samples.specs.declared.component.Component.{Component}
use Rattle.samples.specs.declared.shape.Shape.{Shape}
use Rattle.samples.specs.declared.site.Site.{Site}
use Rattle.samples.specs.Lines.{line_count, site_of, site_at}
use Rattle.samples.specs.Shapes.{columns}
use Rattle.layout.specs.Meaning.{Meaning}
use Rattle.layout.specs.Tests.{sized}
use Rattle.frame.specs.declared.making.Making.{Making}
use Rattle.frame.specs.Calls.{Call, lay, take, answered, image_after, lines_after, blanked}

-- how many codes a picture has
abbrev pub code_count : Shape → ℕ
code_count t = t.size.height * line_count t

-- the codes of line k
abbrev pub line_of : Shape → List ℕ → ℕ → List ℕ
line_of t codes k = first (line_count t) (drop (k * line_count t) codes)

-- a frame in the making: the lines come, and its image
pub record Frame : Type 0 where
  pub come : ℕ
  pub image : List ℕ

-- a frame with its image
abbrev pub in_image : {L : Type 0} → Making L → List ℕ → Frame
in_image x image = record { come = x.come; image = image }

-- the frame after a call
abbrev pub after : Meaning → Frame → Call → Frame
after m f call = record { come = lines_after m f.come f.image call; image = image_after m f.come f.image call }

-- the frame after the first n lines are laid, whether each is accepted or refused
unfoldable pub after_lays : Meaning → List ℕ → Frame → ℕ → Frame
after_lays m codes f zero = f
after_lays m codes f (suc n) = after m (after_lays m codes f n) (lay (line_of m.shape codes n))

-- every line laid in an image, where none had come
abbrev pub all_laid : Meaning → List ℕ → List ℕ → Frame
all_laid m codes image = after_lays m codes (record { come = 0; image = image }) m.shape.size.height

-- begun in an image, then laid line by line
abbrev pub laid_frame : Meaning → List ℕ → List ℕ → Frame
laid_frame m codes image = all_laid m codes (blanked m image)

-- x where the codes are those of a whole picture and the image has the layout's length, else y
abbrev pub if_whole : {X : Type 0} → Meaning → List ℕ → List ℕ → X → X → X
if_whole m codes image x y = cond (length codes == code_count m.shape) (sized m image (λ _. y) x) y

abbrev pub lines_laid : Meaning → List ℕ → List ℕ → ℕ
lines_laid m codes image = if_whole m codes image (laid_frame m codes image).come 0

abbrev pub image_laid : Meaning → List ℕ → List ℕ → List ℕ
image_laid m codes image = if_whole m codes image (laid_frame m codes image).image image

-- what a take answers at a site, 0 where it is refused
abbrev pub code_taken : Meaning → Frame → Site → ℕ
code_taken m f s = result_unwrap_or (answered m f.come f.image (take s)) 0

-- the codes of component c on line l, as they are taken
abbrev pub row_taken : Meaning → Frame → Component → ℕ → List ℕ
row_taken m f c l = map (λ x. code_taken m f (site_of c x l)) (range_with_len 0 (columns m.shape c))

-- the codes of line l, as they are taken
abbrev pub line_taken : Meaning → Frame → ℕ → List ℕ
line_taken m f l = map (λ i. code_taken m f (site_at m.shape l i)) (range_with_len 0 (line_count m.shape))

-- what a take answers at index i of the codes of all lines
abbrev pub code_back : Meaning → Frame → ℕ → ℕ
code_back m f i = code_taken m f (site_at m.shape (i / line_count m.shape) (i % line_count m.shape))

-- every code taken back
abbrev pub codes_back : Meaning → Frame → List ℕ
codes_back m f = map (code_back m f) (range_with_len 0 (code_count m.shape))

-- the same where the room for the codes is as long as they are; else nothing is done
abbrev pub if_room : {X : Type 0} → List ℕ → List ℕ → X → X → X
if_room codes back x y = cond (length back == length codes) x y

abbrev pub lines_carried : Meaning → List ℕ → List ℕ → List ℕ → ℕ
lines_carried m codes image back = if_room codes back (lines_laid m codes image) 0

abbrev pub image_carried : Meaning → List ℕ → List ℕ → List ℕ → List ℕ
image_carried m codes image back = if_room codes back (image_laid m codes image) image

abbrev pub codes_carried : Meaning → List ℕ → List ℕ → List ℕ → List ℕ
codes_carried m codes image back =
    if_room codes back (if_whole m codes image (codes_back m (laid_frame m codes image)) back) back
