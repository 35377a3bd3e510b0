use Rattle.std.proofs.Common.{◌≡◌, ◌∙◌, subst, Result, Err}
use Rattle.std.proofs.lemmas.Result.{IfOk-weaker}
use Rattle.matrix_text.specs.Matrix.{MatrixText, MatrixFault}
use Rattle.matrix_text.specs.declared.fault.TextFault.{TextFault}
use Rattle.matrix_text.specs.declared.fault.TextFail.{TextFail}
use Rattle.matrix_text.specs.declared.fault.TextFail.TheVariants.{Fault}
use Rattle.matrix_text.specs.declared.matrix.RatMatrix.{RatMatrix}
use Rattle.matrix_text.proofs.Readings.{table-read, fault-read}
use Rattle.matrix_text.proofs.Ranges.{text-short}
use Rattle.matrix_text.proofs.reading.read_matrix.Goals as goal

pub returns-in-Ok-clause-ok : goal.returns-in-Ok-clause-ok
unfolding MatrixText
returns-in-Ok-clause-ok c = IfOk-weaker c.matrix_in.result _ _ (λ a e. table-read c.args.bytes.now c.in-Ok.table c.in-Ok.ensures ∙ e) c.matrix_in.ensures.ok

pub returns-in-Ok-clause-fault : goal.returns-in-Ok-clause-fault
unfolding MatrixFault
returns-in-Ok-clause-fault c = λ kind line e. table-read c.args.bytes.now c.in-Ok.table c.in-Ok.ensures
    ∙ c.matrix_in.ensures.fault (record { kind = kind; line = line }) e

same_fault : (f g : TextFault) → ◌≡◌ {A = Result RatMatrix TextFail} (Err (Fault f)) (Err (Fault g)) → f ≡ g
same_fault f g e = cc

pub returns-in-Err-clause-fault : goal.returns-in-Err-clause-fault
returns-in-Err-clause-fault c = λ kind line e.
    let same = same_fault c.in-Err.fault (record { kind = kind; line = line }) e in
    subst (λ (f : TextFault). MatrixFault c.args.bytes.now f.kind f.line) same (fault-read c.args.bytes.now c.in-Err.fault c.in-Err.ensures)

pub returns-in-Ok-clause-short : goal.returns-in-Ok-clause-short
returns-in-Ok-clause-short c = IfOk-weaker c.matrix_in.result _ _ (λ a e. text-short c.args.bytes.now a e) (returns-in-Ok-clause-ok c)
