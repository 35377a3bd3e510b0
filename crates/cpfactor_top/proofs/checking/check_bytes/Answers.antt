use Rattle.std.proofs.Common.{subst, inl, inr}
use Rattle.commutative_ring.proofs.SmallCases.{at_most_itself}
use Rattle.matrix_text.specs.RationalMatrix.{RationalMatrix}
use Rattle.cpfactor_lines.specs.Sinks.{sink_shown}
use Rattle.cpfactor_top.specs.Outcomes.{EndsBy, Refuses}
use Rattle.cpfactor_top.specs.Files.{FileShown, file_shown, IsFileAnswer}
use Rattle.cpfactor_top.specs.Checking.{proof_file, IsProofAnswer}
use Rattle.cpfactor_top.specs.Answers.{IsFaultDue, IsBytesAnswer}
use Rattle.cpfactor_top.proofs.OutcomeLaws.{ends_by_follows}
use Rattle.cpfactor_top.proofs.checking.check_bytes.Goals as goal

pub returns-in-Ok-clause-ended : goal.returns-in-Ok-clause-ended
returns-in-Ok-clause-ended g c =
    let proof : FileShown = file_shown g.F.Files c.args.files.now c.check_file.new.files c.args.proof.now in
    ends_by_follows (IsFileAnswer proof_file (IsProofAnswer c.in-Ok.a) proof)
    (IsBytesAnswer (λ (a : RationalMatrix). IsFileAnswer proof_file (IsProofAnswer a) proof) c.args.bytes.now) _
    (λ e text h. inr (c.in-Ok.a, c.in-Ok.ensures.read, h)) _
    (subst (λ k. EndsBy (IsFileAnswer proof_file (IsProofAnswer c.in-Ok.a) proof) (sink_shown g.K.Sink k c.check_file.new.sink) c.check_file.result)
    c.in-Ok.ensures.silent c.check_file.ensures.ended)

pub returns-in-Err-clause-ended : goal.returns-in-Err-clause-ended
returns-in-Err-clause-ended g c =
    let proof : FileShown = file_shown g.F.Files c.args.files.now c.args.files.now c.args.proof.now in
    ends_by_follows (Refuses (IsFaultDue c.args.bytes.now))
    (IsBytesAnswer (λ (a : RationalMatrix). IsFileAnswer proof_file (IsProofAnswer a) proof) c.args.bytes.now) _ (λ e text h. inl h) _
    c.in-Err.ensures.refused

pub returns-in-Err-clause-never_falls : goal.returns-in-Err-clause-never_falls
returns-in-Err-clause-never_falls g c name = at_most_itself (g.F.Files.faults c.args.files.now name)
