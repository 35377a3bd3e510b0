use Rattle.std.proofs.Common.{◌≡◌, rules, to_z, of_z}
use Rattle.std.specs.Int.{w128}
use Rattle.std.proofs.lemmas.Int.{to_z-of_z}
use Rattle.std.proofs.lemmas.Result.{err_from_is_err_and}
use Rattle.matrix_text.proofs.ClearedMatrices.{clear_ok, refused_first, refused_second, is_cleared, lower_is}
use Rattle.matrix_text.proofs.clearing.cleared.Goals as goal

pub returns-in_err-denominator-clause-wide : goal.returns-in_err-denominator-clause-wide
returns-in_err-denominator-clause-wide c =
    let p = err_from_is_err_and c.from_residual.result c.from_residual.ensures.1 in
    rw (p.1, p.2) (refused_first c.args.a.now c.in_err-denominator.field-0.0 c.in_err-denominator.ensures.wide)

pub returns-in_err-lower-clause-wide : goal.returns-in_err-lower-clause-wide
returns-in_err-lower-clause-wide c =
    let p = err_from_is_err_and c.from_residual-in_err-lower.result c.from_residual-in_err-lower.ensures.1 in
    let same : to_z w128 (of_z w128 c.in_ok-denominator.denominator) ≡ c.in_ok-denominator.denominator = search (rules, to_z-of_z) in
    rw (p.1, p.2)
    (refused_second c.args.a.now c.in_ok-denominator.denominator c.in_err-lower.field-0.0 c.in_ok-denominator.ensures.ok
    (rw same at c.in_err-lower.ensures.wide))

pub from_lower-requires-clause-lower : goal.from_lower-requires-clause-lower
from_lower-requires-clause-lower c =
    let same : to_z w128 (of_z w128 c.in_ok-denominator.denominator) ≡ c.in_ok-denominator.denominator = search (rules, to_z-of_z) in
    lower_is c.args.a.now c.in_ok-denominator.denominator c.n.result c.in_ok-lower.lower.items c.deref.result.now c.n.ensures.matrix
    (rw same at c.in_ok-lower.ensures.ok) c.n.ensures.value c.deref.ensures.value c.in_ok-lower.ensures.fits

pub returns-clause-ok : goal.returns-clause-ok
returns-clause-ok c =
    let same : to_z w128 (of_z w128 c.in_ok-denominator.denominator) ≡ c.in_ok-denominator.denominator = search (rules, to_z-of_z) in
    rw same (clear_ok c.args.a.now c.in_ok-denominator.denominator c.in_ok-whole.whole c.in_ok-lower.lower.items c.in_ok-denominator.ensures.ok
    (rw same at c.in_ok-lower.ensures.ok) (rw (c.n.ensures.value, c.deref.ensures.value) at c.in_ok-whole.ensures))

pub returns-clause-cleared : goal.returns-clause-cleared
returns-clause-cleared c =
    let same : to_z w128 (of_z w128 c.in_ok-denominator.denominator) ≡ c.in_ok-denominator.denominator = search (rules, to_z-of_z) in
    rw same (is_cleared c.args.a.now c.in_ok-denominator.denominator c.in_ok-whole.whole c.in_ok-lower.lower.items c.n.ensures.matrix
    c.in_ok-denominator.ensures.ok (rw same at c.in_ok-lower.ensures.ok) (rw (c.n.ensures.value, c.deref.ensures.value) at c.in_ok-whole.ensures))
