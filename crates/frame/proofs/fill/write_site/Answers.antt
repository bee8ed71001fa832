use Rattle.std.proofs.Common.{rules}
use Rattle.layout.proofs.Writing.{written_only}
use Rattle.frame.proofs.fill.write_site.Goals as goal

pub returns-in-Ok : goal.returns-in-Ok
returns-in-Ok g c =
    let x = c.args.layout.now in
    let m = g.L.Layout.meaning x in
    let one = written_only m (g.met.L.Layout.lawful x) c.args.site c.requires c.args.image.now c.args.code in
    search rules
