-- What the clearing of a matrix refuses.
--
--     RefusedAs read fail   the operation that is refused is that of the list, or memory was wanting
use Rattle.std.specs.Prelude.{◌≡◌, Result, Err}
use Rattle.matrix_text.specs.Clearing.{PlacedOp}
use Rattle.matrix_text.specs.declared.clearing.ClearFail.{ClearFail}
use Rattle.matrix_text.specs.declared.clearing.ClearFail.TheVariants.{Wide, OutOfMemory}

abbrev pub RefusedAs : {V : Type 0} → Result V PlacedOp → ClearFail → Type 0
RefusedAs read (Wide row column op) = read ≡ Err (record { row = row; column = column; op = op })
RefusedAs read OutOfMemory = Unit {0}
