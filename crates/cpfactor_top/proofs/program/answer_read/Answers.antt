use Rattle.std.proofs.Common.{refl, subst, inl, inr}
use Rattle.commutative_ring.proofs.SmallCases.{at_most_itself}
use Rattle.cp_outside.specs.Faults.{Rose}
use Rattle.cp_outside.specs.declared.files.ReadEnd.{ReadEnd}
use Rattle.cpfactor_lines.specs.Requests.{request_of}
use Rattle.cpfactor_lines.specs.Texts.{too_long_text, read_text}
use Rattle.cpfactor_top.specs.declared.ended.Cause.TheVariants.{TooLong, ReadFault}
use Rattle.cpfactor_top.specs.Causes.{ending}
use Rattle.cpfactor_top.specs.Files.{file_shown, matrix_file, AreRead, IsLong, IsRead, IsFileAnswer}
use Rattle.cpfactor_top.specs.Answers.{answers_of_matrix, IsBytesAnswer}
use Rattle.cpfactor_top.proofs.OutcomeLaws.{ends_by_follows, ends_by_only, ends_by_none, ends_disturbed}
use Rattle.cpfactor_top.proofs.program.answer_read.Goals as goal

pub returns-in-Whole-clause-ended : goal.returns-in-Whole-clause-ended
returns-in-Whole-clause-ended g c file read =
    let answers = IsBytesAnswer (answers_of_matrix (file_shown g.F.Files c.args.files.now c.answer_bytes.new.files) (request_of c.args.command)) in
    let bytes : AreRead matrix_file file c.args.bytes.now = subst (λ (end : ReadEnd). IsRead matrix_file file end c.args.bytes.now) c.in-Whole.is read in
    ends_by_follows (answers c.args.bytes.now) (IsFileAnswer matrix_file answers file) _ (λ e text h. inl (c.args.bytes.now, bytes, h)) _
    c.answer_bytes.ensures.ended

pub returns-in-TooLong-clause-ended : goal.returns-in-TooLong-clause-ended
returns-in-TooLong-clause-ended g c file read =
    let long : IsLong matrix_file file = subst (λ (end : ReadEnd). IsRead matrix_file file end c.args.bytes.now) c.in-TooLong.is read in
    ends_by_only (IsFileAnswer matrix_file
    (IsBytesAnswer (answers_of_matrix (file_shown g.F.Files c.args.files.now c.args.files.now) (request_of c.args.command))) file) (ending TooLong)
    too_long_text _ _
    (inr (inl (record { long = long; ended = refl; written = refl }))) c.refuse.ensures

pub returns-in-Failed-clause-ended : goal.returns-in-Failed-clause-ended
returns-in-Failed-clause-ended g c file read =
    let rose : Rose file.faults_before file.faults_after = subst (λ (end : ReadEnd). IsRead matrix_file file end c.args.bytes.now) c.in-Failed.is read in
    ends_by_only (IsFileAnswer matrix_file
    (IsBytesAnswer (answers_of_matrix (file_shown g.F.Files c.args.files.now c.args.files.now) (request_of c.args.command))) file) (ending ReadFault)
    read_text _ _
    (inr (inr ((rose, refl), refl))) c.refuse-in-Failed.ensures

pub returns-in-Failed-clause-disturbed : goal.returns-in-Failed-clause-disturbed
returns-in-Failed-clause-disturbed g c failed undisturbed = ends_disturbed read_text _ _ c.refuse-in-Failed.ensures undisturbed

pub returns-in-OutOfMemory-clause-ended : goal.returns-in-OutOfMemory-clause-ended
returns-in-OutOfMemory-clause-ended g c file read =
    ends_by_none (IsFileAnswer matrix_file
    (IsBytesAnswer (answers_of_matrix (file_shown g.F.Files c.args.files.now c.args.files.now) (request_of c.args.command))) file) _ _
    c.want_memory.ensures

pub returns-in-TooLong-clause-never_falls : goal.returns-in-TooLong-clause-never_falls
returns-in-TooLong-clause-never_falls g c name = at_most_itself (g.F.Files.faults c.args.files.now name)

pub returns-in-Failed-clause-never_falls : goal.returns-in-Failed-clause-never_falls
returns-in-Failed-clause-never_falls g c name = at_most_itself (g.F.Files.faults c.args.files.now name)

pub returns-in-OutOfMemory-clause-never_falls : goal.returns-in-OutOfMemory-clause-never_falls
returns-in-OutOfMemory-clause-never_falls g c name = at_most_itself (g.F.Files.faults c.args.files.now name)
