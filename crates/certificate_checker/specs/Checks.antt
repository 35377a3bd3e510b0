-- Lists of checks, and the first one that fails.
--
--     Check                   a refusal, and whether it is due
--     made_check op           an operation that is made; it fails where its result does not fit
--     test refusal passes     a test; it fails where it does not pass
--     first_refusal checks    the refusal of the first check that fails
--     answer_of refusal       that refusal; Accepted where there is none
--     IsRefusal answer        it is neither Accepted nor OutOfMemory
--
-- A list has the exact operands, whichever operations before them fit.
use Rattle.std.specs.Prelude.{Bool, not, List, [], ◌∷◌, Option, Some, None, if◌then◌else◌}
use Rattle.symmetric_matrix.specs.declared.operation.IntOp.{IntOp}
use Rattle.symmetric_matrix.specs.Operations.{is_owed}
use Rattle.certificate_checker.specs.declared.checked.Checked.{Checked}
use Rattle.certificate_checker.specs.declared.checked.Checked.TheVariants.{Accepted, Wide, OutOfMemory}

pub record Check : Type 0 where
  pub refusal : Checked
  pub fails : Bool

abbrev pub made_check : IntOp → Check
made_check op = record { refusal = Wide op; fails = is_owed op }

abbrev pub test : Checked → Bool → Check
test refusal passes = record { refusal = refusal; fails = not passes }

unfoldable pub first_refusal : List Check → Option Checked
first_refusal [] = None
first_refusal (c ∷ rest) = if c.fails then Some c.refusal else first_refusal rest

abbrev pub answer_of : Option Checked → Checked
answer_of None = Accepted
answer_of (Some refusal) = refusal

-- what is refused is neither Accepted nor want of memory
abbrev pub IsRefusal : Checked → Type 0
IsRefusal Accepted = ⊥
IsRefusal OutOfMemory = ⊥
IsRefusal other = Unit {0}
