use Rattle.std.proofs.Common.{refl, subst, inl, inr}
use Rattle.cp_outside.specs.Faults.{Rose}
use Rattle.cp_outside.specs.declared.files.ReadEnd.{ReadEnd}
use Rattle.cpfactor_lines.specs.Sinks.{sink_shown}
use Rattle.cpfactor_lines.specs.Texts.{read_text}
use Rattle.cpfactor_lines.specs.CheckTexts.{proof_too_long_text}
use Rattle.cpfactor_top.specs.declared.ended.Ended.{Ended}
use Rattle.cpfactor_top.specs.declared.ended.Cause.TheVariants.{TooLong, ReadFault}
use Rattle.cpfactor_top.specs.Causes.{ending}
use Rattle.cpfactor_top.specs.Outcomes.{EndsBy, IsOnly}
use Rattle.cpfactor_top.specs.Files.{AreRead, IsLong, IsRead, IsFileAnswer}
use Rattle.cpfactor_top.specs.Checking.{proof_file, IsProofAnswer}
use Rattle.cpfactor_top.proofs.OutcomeLaws.{ends_by_follows, ends_by_only, ends_by_none, ends_disturbed}
use Rattle.cpfactor_top.proofs.checking.check_read.Goals as goal

pub returns-in-Whole-clause-ended : goal.returns-in-Whole-clause-ended
returns-in-Whole-clause-ended g c file read =
    let bytes : AreRead proof_file file c.args.bytes.now = subst (λ (end : ReadEnd). IsRead proof_file file end c.args.bytes.now) c.in-Whole.is read in
    ends_by_follows (IsProofAnswer c.args.a.now c.args.bytes.now) (IsFileAnswer proof_file (IsProofAnswer c.args.a.now) file) _
    (λ e text h. inl (c.args.bytes.now, bytes, h)) _ c.check_proof.ensures

pub returns-in-TooLong-clause-ended : goal.returns-in-TooLong-clause-ended
returns-in-TooLong-clause-ended g c file read =
    let long : IsLong proof_file file = subst (λ (end : ReadEnd). IsRead proof_file file end c.args.bytes.now) c.in-TooLong.is read in
    ends_by_only (IsFileAnswer proof_file (IsProofAnswer c.args.a.now) file) (ending TooLong) proof_too_long_text _ _
    (inr (inl (record { long = long; ended = refl; written = refl })))
    (subst (λ (e : Ended). EndsBy (IsOnly e proof_too_long_text) (sink_shown g.K.Sink c.args.sink.now c.answer_line.new.sink) c.answer_line.result) c.by.ensures
    (c.answer_line.ensures proof_too_long_text c.proof_too_long_line.ensures))

pub returns-in-Failed-clause-ended : goal.returns-in-Failed-clause-ended
returns-in-Failed-clause-ended g c file read =
    let rose : Rose file.faults_before file.faults_after = subst (λ (end : ReadEnd). IsRead proof_file file end c.args.bytes.now) c.in-Failed.is read in
    ends_by_only (IsFileAnswer proof_file (IsProofAnswer c.args.a.now) file) (ending ReadFault) read_text _ _ (inr (inr ((rose, refl), refl))) c.refuse.ensures

pub returns-in-Failed-clause-disturbed : goal.returns-in-Failed-clause-disturbed
returns-in-Failed-clause-disturbed g c failed undisturbed = ends_disturbed read_text _ _ c.refuse.ensures undisturbed

pub returns-in-OutOfMemory-clause-ended : goal.returns-in-OutOfMemory-clause-ended
returns-in-OutOfMemory-clause-ended g c file read = ends_by_none (IsFileAnswer proof_file (IsProofAnswer c.args.a.now) file) _ _ c.want_memory.ensures
