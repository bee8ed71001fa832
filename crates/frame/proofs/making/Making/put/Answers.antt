use Rattle.std.proofs.Common.{◌≡◌, true, rules}
use Rattle.samples.specs.Shapes.{has}
use Rattle.layout.proofs.Writing.{written_only}
use Rattle.frame.proofs.making.Making.put.Goals as goal

pub returns-clause-image : goal.returns-clause-image
returns-clause-image g c =
    let x = c.args.self.now.layout in
    let m = g.L.Layout.meaning x in
    let there : has m.shape c.args.site ≡ true = search rules in
    let one = written_only m (g.met.L.Layout.lawful x) c.args.site there c.args.image.now c.args.code in
    search rules
