-- Lines laid one after the other.
use Rattle.std.proofs.Common.{◌≡◌, ℕ, ◌+◌, ◌*◌, ◌<◌, ◌≤◌, Bool, true, false, cond, eqb, ltb, List, ◌++◌, length, take, drop, Some, None, Ok, Err, Option, Result, sym, refl, ap, ◌∙◌, ⊎_elim, length-append, length-drop, mul-le-mul_right, suc-mul, add-one, arith}
use Rattle.std.specs.Result.{result_unwrap_or}
use Rattle.std.proofs.lemmas.Bool.{cases_order}
use Rattle.std.proofs.lemmas.List.{take_at, drop_at, drop-drop}
use Rattle.samples.specs.declared.fault.Fault.{Fault}
use Rattle.samples.specs.declared.fault.Rule.TheVariants.{ImageLength, CodeCount, EveryLineCome}
use Rattle.samples.specs.declared.shape.Shape.{Shape}
use Rattle.samples.specs.Faults.{refusal}
use Rattle.samples.specs.Lines.{line_count}
use Rattle.layout.specs.Meaning.{Meaning}
use Rattle.frame.specs.Calls.{lay, answered, image_after, lines_after, unless_failing, first_failing, admitted_at}
use Rattle.exports.specs.Frames.{Frame, line_of, after_lays, after}

-- a line of the picture lies within its codes
pub line_fits : (n h c : ℕ) → n < h → n * c + c ≤ h * c
line_fits n h c l = omega (arith, suc-mul n c, mul-le-mul_right c l)

-- a line cut off the rest of the codes: n lines of c codes came before
module _ (codes rest line left : List ℕ) (n c : ℕ) (at : rest ≡ drop (n * c) codes) (cut : rest ≡ line ++ left) (long : length line ≡ c) where
  next_start : (n + 1) * c ≡ n * c + c
  next_start = ap (λ z. z * c) (add-one n) ∙ suc-mul n c

  pub line_is : line ≡ take c (drop (n * c) codes)
  line_is = sym (take_at line left c long) ∙ ap (take c) (sym cut ∙ at)

  pub left_is : left ≡ drop ((n + 1) * c) codes
  left_is = sym (drop_at line left c long) ∙ ap (drop c) (sym cut ∙ at) ∙ drop-drop c (n * c) codes ∙ ap (λ i. drop i codes) (sym next_start)

  pub line_within : n * c ≤ length codes → (n + 1) * c ≤ length codes
  line_within h = omega (arith, next_start, length-drop (n * c) codes, ap length (sym cut ∙ at), length-append line left, long)

-- where less than a line is left, all lines were cut off
pub every_line : (n h c : ℕ) → n * c ≤ h * c → h * c < n * c + c → n ≡ h
every_line n h c within less =
    ⊎_elim
    (λ (e : n ≡ h). e)
    (⊎_elim (λ (p : n < h). omega (arith, line_fits n h c p)) (λ (p : h < n). omega (arith, line_fits h n c p)))
    (cases_order n h)

-- a line has codes
pub line_some : (t : Shape) → 0 < line_count t
line_some t = omega (arith, t.size.width_low)

come_cases : (come : ℕ) (a b d : Bool) (o : Option ℕ) → result_unwrap_or (cond a (cond b (unless_failing o Err (cond d (Ok (come + 1)) (Err (refusal EveryLineCome 0)))) (Err (refusal CodeCount 0))) (Err (refusal ImageLength 0))) come ≡ cond a (cond b (unless_failing o (λ _. come) (cond d (come + 1) come)) come) come
come_cases come false b d o = refl
come_cases come true false d o = refl
come_cases come true true d (Some i) = refl
come_cases come true true true None = refl
come_cases come true true false None = refl

come_is : (m : Meaning) (come : ℕ) (image codes : List ℕ) → result_unwrap_or (answered m come image (lay codes)) come ≡ lines_after m come image (lay codes)
come_is m come image codes =
    come_cases come (eqb (length image) m.size) (eqb (length codes) (line_count m.shape)) (ltb come m.shape.size.height)
    (first_failing (admitted_at m.shape codes) (line_count m.shape))

module _ (m : Meaning) (codes : List ℕ) (f : Frame) where
  abbrev pub laid : ℕ → Frame
  laid n = after_lays m codes f n

  pub laid_none : laid 0 ≡ f
  unfolding after_lays
  laid_none = refl

  laid_more : (n : ℕ) → laid (n + 1) ≡ after m (laid n) (lay (line_of m.shape codes n))
  unfolding after_lays
  laid_more n = ap laid (add-one n)

  -- what one lay adds
  pub record More (n come : ℕ) (image : List ℕ) (lines : ℕ) : Type 0 where
    pub come_more : come ≡ (laid (n + 1)).come
    pub image_more : image ≡ (laid (n + 1)).image
    pub same : lines ≡ come

  pub more : (n come : ℕ) (image cut : List ℕ) (r : Result ℕ Fault) (come' : ℕ) (image' : List ℕ) → come ≡ (laid n).come → image ≡ (laid n).image → cut ≡ line_of m.shape codes n → r ≡ answered m come image (lay cut) → image' ≡ image_after m come image (lay cut) → come' ≡ result_unwrap_or r come → More n come' image' (lines_after m come image (lay cut))
  more n come image cut r come' image' ec ei ek er ea eb =
      let line : List ℕ = line_of m.shape codes n in
      let same : lines_after m come image (lay cut) ≡ come' = sym (eb ∙ ap (λ z. result_unwrap_or z come) er ∙ come_is m come image cut) in
      let lines : lines_after m come image (lay cut) ≡ (laid (n + 1)).come =
      ap (λ k. lines_after m come image (lay k)) ek ∙ ap (λ k. lines_after m k image (lay line)) ec
      ∙ ap (λ k. lines_after m (laid n).come k (lay line)) ei ∙ sym (ap (λ z. z.come) (laid_more n)) in
      record {
        come_more = sym same ∙ lines;
        image_more =
            ea ∙ ap (λ k. image_after m come image (lay k)) ek ∙ ap (λ k. image_after m k image (lay line)) ec
            ∙ ap (λ k. image_after m (laid n).come k (lay line)) ei ∙ sym (ap (λ z. z.image) (laid_more n));
        same = same;
      }
