use Rattle.std.specs.Prelude.{ℕ, nat_eq}
use Rattle.std.proofs.Common.{arith, subst}
use Rattle.std.proofs.lemmas.Result.{err_from_is_err_and}
use Rattle.symmetric_matrix.specs.Symmetric.{entry}
use Rattle.unimodular_cone.specs.Shown.{IsNext, IsWideWhere, IsFirstWideNext}
use Rattle.unimodular_cone.proofs.Ways.{wide_at_root, has_pair, next_at, wide_next}
use Rattle.unimodular_cone.proofs.cone.at_path.Goals as goal

pub returns-in_err-cone-clause-wide : goal.returns-in_err-cone-clause-wide
returns-in_err-cone-clause-wide c =
    let p = err_from_is_err_and c.from_residual.result c.from_residual.ensures.1 in
    rw (p.1, p.2) (wide_at_root c.args.q.now.size (entry c.args.q.now) c.args.path.now c.requires c.in_err-cone.field-0.0 c.in_err-cone.ensures.wide)

pub next-requires-clause-paired : goal.next-requires-clause-paired
next-requires-clause-paired c =
    has_pair c.args.q.now.size (entry c.args.q.now) c.args.path.now c.requires c.loop-k.k (omega arith) c.loop-k.cone c.loop-k.invariant.there

pub returns-in_err-cone-2-clause-wide : goal.returns-in_err-cone-2-clause-wide
returns-in_err-cone-2-clause-wide c =
    let p = err_from_is_err_and c.from_residual-in_err-cone-2.result c.from_residual-in_err-cone-2.ensures.1 in
    rw (p.1, p.2)
    (wide_next c.args.q.now.size (entry c.args.q.now) c.args.path.now c.requires c.loop-k.k (omega arith) c.loop-k.cone c.loop-k.invariant.there
    c.in_err-cone-2.field-0.0
    (subst (λ (d : ℕ). IsWideWhere (IsFirstWideNext c.loop-k.cone (nat_eq d 1)) c.in_err-cone-2.field-0.0) c.digit.ensures c.in_err-cone-2.ensures.wide))

pub loop-k-preserved : goal.loop-k-preserved
loop-k-preserved c = record {
  there = next_at c.args.q.now.size (entry c.args.q.now) c.args.path.now c.requires c.loop-k.k (omega arith) c.loop-k.cone c.loop-k.invariant.there
      c.in_ok-cone-2.cone
      (subst (λ (d : ℕ). IsNext c.loop-k.cone (nat_eq d 1) c.in_ok-cone-2.cone) c.digit.ensures c.in_ok-cone-2.ensures.made);
  within = c.in_ok-cone-2.ensures.fits;
}
