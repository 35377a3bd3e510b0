-- Facts on how a read of a file ended.
--
--     OnWhole end P         P holds if the file was read to its end
--     OnTooLong end P       P holds if the file has more bytes than were allowed
--     OnReadFailed end P    P holds if the file could not be read
--     UnlessReadFailed end P    P holds if the read did not fail
--     UnlessWhole end P     P holds if the read ended in any other way than at the file's end
use Rattle.cp_outside.specs.declared.files.ReadEnd.{ReadEnd}
use Rattle.cp_outside.specs.declared.files.ReadEnd.TheVariants.{Whole, TooLong, Failed, OutOfMemory}

abbrev pub OnWhole : ReadEnd → Type 0 → Type 0
OnWhole Whole P = P
OnWhole TooLong P = Unit {0}
OnWhole Failed P = Unit {0}
OnWhole OutOfMemory P = Unit {0}

abbrev pub OnTooLong : ReadEnd → Type 0 → Type 0
OnTooLong Whole P = Unit {0}
OnTooLong TooLong P = P
OnTooLong Failed P = Unit {0}
OnTooLong OutOfMemory P = Unit {0}

abbrev pub OnReadFailed : ReadEnd → Type 0 → Type 0
OnReadFailed Whole P = Unit {0}
OnReadFailed TooLong P = Unit {0}
OnReadFailed Failed P = P
OnReadFailed OutOfMemory P = Unit {0}

abbrev pub UnlessReadFailed : ReadEnd → Type 0 → Type 0
UnlessReadFailed Whole P = P
UnlessReadFailed TooLong P = P
UnlessReadFailed Failed P = Unit {0}
UnlessReadFailed OutOfMemory P = P

abbrev pub UnlessWhole : ReadEnd → Type 0 → Type 0
UnlessWhole Whole P = Unit {0}
UnlessWhole TooLong P = P
UnlessWhole Failed P = P
UnlessWhole OutOfMemory P = P
