-- How a reader's answer agrees with what is read.
--
--     RefusedWith read fail    the refusal is the fault that was read, or memory was wanting
--     ReadsTo view result read the result, its value seen by view, is what was read; or memory was wanting
use Rattle.std.specs.Prelude.{◌≡◌, Result, Ok, Err}
use Rattle.cone_tree_certificate.specs.declared.fault.VerdictFault.{VerdictFault}
use Rattle.cone_tree_certificate.specs.declared.fault.VerdictFail.{VerdictFail}
use Rattle.cone_tree_certificate.specs.declared.fault.VerdictFail.TheVariants.{Fault, OutOfMemory}

abbrev pub RefusedWith : {Y : Type 0} → Result Y VerdictFault → VerdictFail → Type 0
RefusedWith read (Fault fault) = read ≡ Err fault
RefusedWith read OutOfMemory = Unit {0}

abbrev pub ReadsTo : {X Y : Type 0} → (X → Y) → Result X VerdictFail → Result Y VerdictFault → Type 0
ReadsTo view (Ok x) read = read ≡ Ok (view x)
ReadsTo view (Err fail) read = RefusedWith read fail
