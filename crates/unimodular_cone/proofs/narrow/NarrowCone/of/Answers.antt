use Rattle.std.proofs.Common.{arith, refl}
use Rattle.exact_forms.proofs.Triangles.{triangle_grows}
use Rattle.unimodular_cone.proofs.Fields.{triangle_8}
use Rattle.unimodular_cone.proofs.NarrowCopies.{shows_same, is_narrow_cone}
use Rattle.unimodular_cone.proofs.narrow.NarrowCone.of.Goals as goal

pub narrow_copies-requires : goal.narrow_copies-requires
narrow_copies-requires c =
    omega (arith, c.entries_of.ensures, triangle_grows c.n-n.result 8 (omega (arith, c.n-n.ensures.fits.few, c.n-n.ensures.size)), triangle_8)

pub invariant_of-result : goal.invariant_of-result
invariant_of-result c =
    is_narrow_cone (record { n = c.n-n.result; path = c.path.result; gram = c.lower.result.now; generators = c.rows.result.now }) c.args.c.now
    c.in_ok-gram.gram (rw (c.n-n.ensures.size, c.path.ensures, c.lower.ensures, c.rows.ensures.shown) refl) c.n-n.ensures.fits c.rows.ensures.room
    (rw c.entries_of.ensures at c.in_ok-gram.ensures) c.requires

pub returns : goal.returns
returns c =
    shows_same (record { n = c.n-n.result; path = c.path.result; gram = c.lower.result.now; generators = c.rows.result.now }) c.args.c.now
    c.in_ok-gram.gram (rw (c.n-n.ensures.size, c.path.ensures, c.lower.ensures, c.rows.ensures.shown) refl) c.n-n.ensures.fits c.rows.ensures.room
    (rw c.entries_of.ensures at c.in_ok-gram.ensures)
