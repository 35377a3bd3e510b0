use Rattle.std.specs.Prelude.{◌≡◌, length}
use Rattle.std.proofs.Common.{arith, rules}
use Rattle.unimodular_cone.proofs.Mediants.{read_products, row_is}
use Rattle.unimodular_cone.proofs.mediant.row_of.Goals as goal

pub overflow_add-row : goal.overflow_add-row
overflow_add-row g c =
    rw (c.from.ensures, c.from-2.ensures)
    (read_products _ c.args.r c.args.s c.args.products.now c.n-n.ensures.fits c.requires.first c.requires.second c.requires.products).fits

pub returns : goal.returns
returns g c =
    let w = c.n-n.ensures.fits in
    let room : length c.args.products.now ≡ 8 = search rules in
    rw (c.from.ensures)
    (row_is (g.C.ConeRead.cone c.args.c.now) c.args.r c.args.s c.from-2.result c.args.products.now _ c.requires.products
    (omega (arith, w.few, c.requires.first))
    c.from-2.ensures (rw c.from-2.ensures (read_products _ c.args.r c.args.s c.args.products.now w c.requires.first c.requires.second c.requires.products).is))
