-- Lists of operations, of which one that does not fit is refused.
--
--     first_owed owed ops      the first operation of the list that is owed
--     answer owed ops value    the value, or the first operation of the list that is owed
--     tagged tag answer        an answer whose operation is given more, such as its place
--
-- An operation is owed where its exact result does not fit. The list holds the exact operands, whichever
-- operations before them fit.
use Rattle.std.specs.Prelude.{Bool, List, [], ◌∷◌, Option, Some, None, Result, Ok, Err, if◌then◌else◌}

unfoldable pub first_owed : {O : Type 0} → (O → Bool) → List O → Option O
first_owed owed [] = None
first_owed owed (op ∷ ops) = if owed op then Some op else first_owed owed ops

unfoldable pub answer : {O V : Type 0} → (O → Bool) → List O → V → Result V O
answer owed [] value = Ok value
answer owed (op ∷ ops) value = if owed op then Err op else answer owed ops value

unfoldable pub tagged : {O Q V : Type 0} → (O → Q) → Result V O → Result V Q
tagged tag (Ok value) = Ok value
tagged tag (Err op) = Err (tag op)
