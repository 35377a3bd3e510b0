use Rattle.std.proofs.Common.{ap, Err, refl}
use Rattle.matrix_text.specs.declared.fault.TextFail.{TextFail}
use Rattle.cpfactor_top.specs.declared.ended.Cause.TheVariants.{MatrixFault as Faulty}
use Rattle.cpfactor_top.specs.Causes.{ending, refusal_text}
use Rattle.cpfactor_top.specs.Outcomes.{Refuses}
use Rattle.cpfactor_top.specs.Answers.{IsFaultDue}
use Rattle.cpfactor_top.proofs.OutcomeLaws.{ends_by_only, ends_by_none}
use Rattle.cpfactor_top.proofs.given.read_or_refuse.Goals as goal

pub returns-in-Err-Fault-clause-refused : goal.returns-in-Err-Fault-clause-refused
returns-in-Err-Fault-clause-refused g c =
    let is = c.in-Err-Fault.ensures.fault c.in-Err-Fault.fault.kind c.in-Err-Fault.fault.line (ap (λ (e : TextFail). Err e) c.in-Err-Fault.field-0-is) in
    ends_by_only (Refuses (IsFaultDue c.args.bytes.now)) (ending (Faulty c.in-Err-Fault.fault)) (refusal_text (Faulty c.in-Err-Fault.fault)) _ c.refuse.result
    ((c.in-Err-Fault.fault, is, refl), refl) c.refuse.ensures

pub returns-in-Err-OutOfMemory-clause-refused : goal.returns-in-Err-OutOfMemory-clause-refused
returns-in-Err-OutOfMemory-clause-refused g c = ends_by_none (Refuses (IsFaultDue c.args.bytes.now)) _ _ c.want_memory.ensures
