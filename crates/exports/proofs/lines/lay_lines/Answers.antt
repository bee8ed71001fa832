use Rattle.std.proofs.Common.{◌≡◌, ℕ, ◌+◌, ◌*◌, ◌<◌, ◌≤◌, List, [], ◌∷◌, ◌++◌, length, take, drop, sym, ap, ◌∙◌, subst, length-drop, arith, rules}
use Rattle.std.proofs.lemmas.List.{length_push}
use Rattle.samples.specs.Lines.{line_count}
use Rattle.frame.specs.Calls.{lay, answered, image_after, lines_after}
use Rattle.exports.specs.Frames.{Frame}
use Rattle.exports.proofs.Laying.{line_is, left_is, line_within, every_line, laid, laid_none, More, more}
use Rattle.exports.proofs.lines.lay_lines.Goals as goal

pub loop-line-init : goal.loop-line-init
loop-line-init g c =
    let m = g.L.Layout.meaning c.args.frame.now.layout in
    let f : Frame = record { come = 0; image = c.args.image.now } in
    let none : laid m c.args.codes.now f 0 ≡ f = laid_none m c.args.codes.now f in
    record {
      frame = search rules;
      come = sym (ap (λ z. z.come) none);
      image = sym (ap (λ z. z.image) none);
      size = search rules;
      rest = search rules;
      within = omega arith;
    }

pub loop-line-preserved : goal.loop-line-preserved
loop-line-preserved g c =
    let x = c.args.frame.now.layout in
    let m = g.L.Layout.meaning x in
    let codes = c.args.codes.now in
    let f : Frame = record { come = 0; image = c.args.image.now } in
    let k = c.line_count-count.result in
    let count : k ≡ line_count m.shape = c.line_count-count.ensures ∙ ap line_count (c.shape.ensures ∙ sym (g.met.L.Layout.same x)) in
    let n : ℕ = length c.loop-line.yielded in
    let come = c.loop-line.come in
    let image = c.loop-line.image in
    let before = c.loop-line.invariant in
    let e = before.frame in
    let steps = c.in-Some.ensures.steps in
    let rest = c.loop-line.line-iterator.rest.now in
    let line : List ℕ = c.in-Some.line.now in
    let left = c.next.new.self.rest.now in
    let long : length line ≡ k = steps.1.1 ∙ before.size in
    let is : line ≡ take (line_count m.shape) (drop (n * line_count m.shape) codes) =
    line_is codes rest line left n k before.rest steps.1.0 long ∙ ap (λ z. take z (drop (n * z) codes)) count in
    let next : More m codes f n c.unwrap_or-come.result c.lay.new.image (lines_after m come image (lay line)) =
    more m codes f n come image line c.lay.result c.unwrap_or-come.result c.lay.new.image before.come before.image is
    (subst (λ z. c.lay.result ≡ answered (g.L.Layout.meaning z.layout) z.come image (lay line)) e c.lay.ensures.answer)
    (subst (λ z. c.lay.new.image ≡ image_after (g.L.Layout.meaning z.layout) z.come image (lay line)) e c.lay.ensures.image)
    c.unwrap_or-come.ensures in
    let more_yielded : n + 1 ≡ length (c.loop-line.yielded ++ c.in-Some.line ∷ []) = sym (length_push c.loop-line.yielded c.in-Some.line) in
    record {
      frame =
          subst (λ z. c.lay.new.self ≡ record { layout = z.layout; come = lines_after (g.L.Layout.meaning z.layout) z.come image (lay line) }) e c.lay.ensures.frame
          ∙ ap (λ z. record { layout = x; come = z }) next.same;
      come = next.come_more ∙ ap (λ z. (laid m codes f z).come) more_yielded;
      image = next.image_more ∙ ap (λ z. (laid m codes f z).image) more_yielded;
      size = steps.0 ∙ before.size;
      rest = left_is codes rest line left n k before.rest steps.1.0 long ∙ ap (λ z. drop (z * k) codes) more_yielded;
      within = subst (λ z. z * k ≤ length codes) more_yielded (line_within codes rest line left n k before.rest steps.1.0 long before.within);
    }

pub returns : goal.returns
returns g c =
    let x = c.args.frame.now.layout in
    let m = g.L.Layout.meaning x in
    let codes = c.args.codes.now in
    let f : Frame = record { come = 0; image = c.args.image.now } in
    let k = c.line_count-count.result in
    let count : k ≡ line_count m.shape = c.line_count-count.ensures ∙ ap line_count (c.shape.ensures ∙ sym (g.met.L.Layout.same x)) in
    let n : ℕ = length c.loop-line.yielded in
    let before = c.loop-line.invariant in
    let whole : length codes ≡ m.shape.size.height * k = c.requires.whole ∙ ap (λ z. m.shape.size.height * z) (sym count) in
    let less : length c.loop-line.line-iterator.rest.now < k = omega (arith, c.in-None.ensures.steps.1.0, before.size) in
    let all : n ≡ m.shape.size.height =
    every_line n m.shape.size.height k (omega (arith, before.within, whole))
    (omega (arith, ap length before.rest, length-drop (n * k) codes, before.within)) in
    record {
      answer = before.come ∙ ap (λ z. (laid m codes f z).come) all;
      image = before.image ∙ ap (λ z. (laid m codes f z).image) all;
      frame = before.frame;
    }
