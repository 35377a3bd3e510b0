use Rattle.std.proofs.Common.{ap, Err, refl, inl, inr}
use Rattle.cone_tree_certificate.specs.declared.fault.VerdictFail.{VerdictFail}
use Rattle.cpfactor_top.specs.declared.ended.Cause.TheVariants.{ProofFault as FaultyProof}
use Rattle.cpfactor_top.specs.Causes.{ending, refusal_text}
use Rattle.cpfactor_top.specs.Checking.{IsVerdictAnswer, IsProofAnswer}
use Rattle.cpfactor_top.proofs.OutcomeLaws.{ends_by_follows, ends_by_only, ends_by_none}
use Rattle.cpfactor_top.proofs.CheckLaws.{checkable}
use Rattle.cpfactor_top.proofs.checking.check_proof.Goals as goal

pub check_one-requires : goal.check_one-requires
check_one-requires g c = checkable c.in-Ok.verdict c.in-Ok.ensures.checkable

pub returns-in-Ok : goal.returns-in-Ok
returns-in-Ok g c =
    ends_by_follows (IsVerdictAnswer c.args.a.now c.in-Ok.verdict) (IsProofAnswer c.args.a.now c.args.bytes.now) _
    (λ e text h. inr (c.in-Ok.verdict, c.in-Ok.ensures.ok, h)) _ c.check_one.ensures

pub returns-in-Err-Fault : goal.returns-in-Err-Fault
returns-in-Err-Fault g c =
    let is = c.in-Err-Fault.ensures.fault c.in-Err-Fault.fault.kind c.in-Err-Fault.fault.line (ap (λ (e : VerdictFail). Err e) c.in-Err-Fault.field-0-is) in
    let cause = FaultyProof c.in-Err-Fault.fault in
    ends_by_only (IsProofAnswer c.args.a.now c.args.bytes.now) (ending cause) (refusal_text cause) _ c.refuse.result
    (inl ((c.in-Err-Fault.fault, is, refl), refl)) c.refuse.ensures

pub returns-in-Err-OutOfMemory : goal.returns-in-Err-OutOfMemory
returns-in-Err-OutOfMemory g c = ends_by_none (IsProofAnswer c.args.a.now c.args.bytes.now) _ _ c.want_memory.ensures
