use Rattle.std.proofs.Common.{◌≡◌, ◌+◌, ap, ◌∙◌, arith, rules}
use Rattle.image.proofs.Images.{Bytes}
use Rattle.samples.specs.Lines.{site_of}
use Rattle.samples.specs.Shapes.{columns}
use Rattle.layout.specs.Images.{rewritten, only, filled, filled_row}
use Rattle.layout.proofs.Filling.{filled_rows, row_more, row_none, rows_more, rows_none, rows_all}
use Rattle.layout.proofs.Writing.{rewritten_ext, begins, goes_on}
use Rattle.frame.proofs.Filling.{bytes_rewritten}
use Rattle.frame.proofs.fill.fill_component.Goals as goal

pub loop-line-init : goal.loop-line-init
loop-line-init g c =
    let x = c.args.layout.now in
    let image = c.args.image.now in
    let small : Bytes image = search rules in
    begins (g.L.Layout.meaning x) (g.met.L.Layout.lawful x) image small (filled_rows c.args.component c.args.code 0) (rows_none c.args.component c.args.code)

pub loop-column-init : goal.loop-column-init
loop-column-init g c =
    let x = c.args.layout.now in
    let image = c.loop-line.image in
    let m = g.L.Layout.meaning x in
    let line = c.loop-line.line in
    let small : Bytes image = bytes_rewritten m (filled_rows c.args.component c.args.code line) c.args.image.now image c.loop-line.invariant in
    begins m (g.met.L.Layout.lawful x) image small (filled_row c.args.component c.args.code line 0) (row_none c.args.component c.args.code line)

pub loop-column-preserved : goal.loop-column-preserved
loop-column-preserved g c =
    let x = c.args.layout.now in
    let k = c.args.component in
    let v = c.args.code in
    let line = c.loop-line.line in
    let n = c.loop-column.column in
    goes_on (g.L.Layout.meaning x) (g.met.L.Layout.lawful x) c.loop-line.image c.loop-column.image c.write_site.new.image
    (filled_row k v line n) (only (site_of k n line) v) (filled_row k v line (n + 1)) (λ s _. row_more k v line n s) c.loop-column.invariant c.write_site.ensures

pub loop-line-preserved : goal.loop-line-preserved
loop-line-preserved g c =
    let x = c.args.layout.now in
    let m = g.L.Layout.meaning x in
    let k = c.args.component in
    let v = c.args.code in
    let n = c.loop-line.line in
    let all : c.loop-column.column ≡ c.columns-column-end.result = omega arith in
    let end : c.columns-column-end.result ≡ columns m.shape k = c.columns-column-end.ensures ∙ ap (λ t. columns t k) c.shape_of-shape.ensures in
    let row : c.loop-column.image ≡ rewritten m (filled_row k v n (columns m.shape k)) c.loop-line.image = c.loop-column.invariant ∙ ap (λ z. rewritten m (filled_row k v n z) c.loop-line.image) (all ∙ end) in
    goes_on m (g.met.L.Layout.lawful x) c.args.image.now c.loop-line.image c.loop-column.image
    (filled_rows k v n) (filled_row k v n (columns m.shape k)) (filled_rows k v (n + 1)) (rows_more m.shape k v n) c.loop-line.invariant row

pub returns : goal.returns
returns g c =
    let x = c.args.layout.now in
    let m = g.L.Layout.meaning x in
    let k = c.args.component in
    let v = c.args.code in
    let image = c.args.image.now in
    let last : c.loop-line.line ≡ c.shape_of-shape.result.size.height = omega arith in
    let all : c.loop-line.line ≡ m.shape.size.height = last ∙ ap (λ t. t.size.height) c.shape_of-shape.ensures in
    c.loop-line.invariant ∙ ap (λ n. rewritten m (filled_rows k v n) image) all
    ∙ rewritten_ext m (g.met.L.Layout.lawful x) image (filled_rows k v m.shape.size.height) (filled k v) (rows_all m.shape k v)
