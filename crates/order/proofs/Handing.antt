-- A line handed on to the layout below.
use Rattle.std.proofs.Common.{◌≡◌, ℕ, ◌<◌, ◌≤◌, true, ltb, List, length, Some, None, Option, refl, ap, ◌∙◌, ⊎_elim, arith}
use Rattle.std.specs.Option.{option_map}
use Rattle.std.proofs.lemmas.Bool.Decides.{nat_tests}
use Rattle.std.proofs.lemmas.Bool.{cases_lt, lt-ltb, cond-true}
use Rattle.image.proofs.Images.{image_of_ext}
use Rattle.samples.specs.declared.fault.Fault.{Fault}
use Rattle.samples.specs.declared.lines.PictureLine.{PictureLine}
use Rattle.samples.specs.declared.site.Site.{Site}
use Rattle.samples.specs.Shapes.{has}
use Rattle.layout.specs.Meaning.{Meaning, Lawful}
use Rattle.layout.specs.Images.{bit_new, bit_written, rewritten, laid}
use Rattle.layout.specs.Tests.{line_tests, line_written}
use Rattle.layout.proofs.Sites.{has_parts}
use Rattle.order.specs.declared.order.Order.{Order}
use Rattle.order.specs.Orders.{stored}
use Rattle.order.specs.Over.{over, shown, moved, line_under}
use Rattle.order.specs.Layered.{lines}

-- what picture line l is written with below, in a picture of h lines, is what it is written with here
module _ (o : Order) (m : Meaning) (laws : Lawful m) (image : List ℕ) (l : ℕ) (codes : List ℕ) (low : l < m.shape.size.height) where
  -- an owner gets the same code, at the same place of its run
  bit_alike : (s : Site) → has m.shape s ≡ true → (b : ℕ) → bit_new m image b s (laid m.shape (stored o m.shape.size.height l) codes s) ≡ bit_new (over o m) image b (moved (shown o m.shape.size.height) s) (laid (over o m).shape l codes (moved (shown o m.shape.size.height) s))
  bit_alike s there b =
      let h : ℕ = m.shape.size.height in
      let left = (lines o h).left s.line.0 (has_parts m.shape s there).1 in
      let right = (lines o h).right l low in
      grind (arith, nat_tests)

  -- a line written below is the line written here
  written_alike : rewritten m (laid m.shape (stored o m.shape.size.height l) codes) image ≡ rewritten (over o m) (laid (over o m).shape l codes) image
  written_alike =
      let h : ℕ = m.shape.size.height in
      let old : Site → Option ℕ = laid m.shape (stored o h l) codes in
      let new : Site → Option ℕ = laid (over o m).shape l codes in
      image_of_ext (length image) (λ b. bit_written m old image b (m.owner b)) (λ b. bit_written (over o m) new image b (option_map (moved (shown o h)) (m.owner b))) (λ b _. at b (m.owner b) refl)
    where
      at : (b : ℕ) (w : Option Site) → m.owner b ≡ w → bit_written m (laid m.shape (stored o m.shape.size.height l) codes) image b w ≡ bit_written (over o m) (laid (over o m).shape l codes) image b (option_map (moved (shown o m.shape.size.height)) w)
      at b None e = refl
      at b (Some s) e = bit_alike s (laws.held b s e).0 b

-- the tests fall alike below and here, and what they guard is asked only of a line of the picture
tests_alike : {X : Type 0} (o : Order) (m : Meaning) (image : List ℕ) (l : PictureLine) (n : ℕ) (refused : Fault → X) (x y : X) → (l.0 < m.shape.size.height → x ≡ y) → line_tests m image (line_under o m l).0 n refused x ≡ line_tests (over o m) image l.0 n refused y
tests_alike {X} o m image l n refused x y same =
    let h : ℕ = m.shape.size.height in
    ⊎_elim
    (λ (low : l.0 < h). let there = (lines o h).back l.0 low in grind (arith, nat_tests, same low))
    (λ (high : h ≤ l.0). grind (arith, nat_tests))
    (cases_lt l.0 h)

-- a line handed on writes below what it owes here
pub written_handed : (o : Order) (m : Meaning) → Lawful m → (image codes : List ℕ) (l : PictureLine) → line_written m image (line_under o m l).0 codes ≡ line_written (over o m) image l.0 codes
written_handed o m laws image codes l =
    let h : ℕ = m.shape.size.height in
    let below : ℕ → List ℕ = λ at. rewritten m (laid m.shape at codes) image in
    let here : List ℕ = rewritten (over o m) (laid (over o m).shape l.0 codes) image in
    tests_alike o m image l (length codes) (λ _. image) (below (line_under o m l).0) here
    (λ low. ap below (cond-true (ltb l.0 h) (stored o h l.0) l.0 (lt-ltb l.0 h low)) ∙ written_alike o m laws image l.0 codes low)
