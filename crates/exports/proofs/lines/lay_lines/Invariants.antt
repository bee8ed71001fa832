use Rattle.std.proofs.Common.{◌≡◌, ◌*◌, ◌≤◌, length, drop}
use Rattle.exports.specs.Frames.{Frame, after_lays}
use Rattle.exports.proofs.lines.lay_lines.Given as goal

abbrev pub invariant-loop-line : goal.invariant-loop-line
invariant-loop-line g l =
    let x = l.initial.frame.layout in
    let f : Frame = after_lays (g.L.Layout.meaning x) l.codes (record { come = 0; image = l.initial.image }) (length l.yielded) in
    record {
      frame : l.frame ≡ record { layout = x; come = l.come };
      come : l.come ≡ f.come;
      image : l.image ≡ f.image;
      size : l.line-iterator.size ≡ l.count;
      rest : l.line-iterator.rest.now ≡ drop (length l.yielded * l.count) l.codes;
      within : length l.yielded * l.count ≤ length l.codes;
    }
