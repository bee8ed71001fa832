use Rattle.std.proofs.Common.{◌≡◌, ap, ◌∙◌, rules}
use Rattle.samples.specs.declared.component.Component.TheVariants.{Luma, Cb, Cr, Alpha}
use Rattle.frame.specs.Calls.{or_else}
use Rattle.frame.proofs.Judging.{bad_in, line_sought}
use Rattle.frame.proofs.admit.first_refused.Goals as goal

pub returns : goal.returns
returns c =
    let t = c.args.shape in
    let codes = c.args.codes.now in
    let bad = bad_in t codes c.requires in
    let first : c.or_else.result ≡ or_else (bad Luma) (bad Cb) = search rules in
    let second : c.or_else-2.result ≡ or_else c.or_else.result (bad Cr) = search rules in
    let third : c.or_else-3.result ≡ or_else c.or_else-2.result (bad Alpha) = search rules in
    third ∙ ap (λ o. or_else o (bad Alpha)) (second ∙ ap (λ o. or_else o (bad Cr)) first) ∙ line_sought t codes c.requires
