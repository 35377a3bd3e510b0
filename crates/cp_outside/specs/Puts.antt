-- Facts on how a put into a sink ended, and what it left of the bytes that the sink tells.
--
--     OnDone end P                   P holds if all bytes were taken
--     OnPutFailed end P              P holds if the put failed
--     OnPutOutOfMemory end P         P holds if memory was wanting
--     UnlessPutFailed end P          P holds if the put did not fail
--     UnlessPutOutOfMemory end P     P holds if memory was there
--     appended told bytes            what is told once these bytes are written too; nothing where nothing was told
--     AppendsFront old new bytes     new is old with a front of these bytes, maybe none or all of them
use Rattle.std.specs.Prelude.{◌≡◌, ℕ, List, ◌++◌, take, Option, Some, None}
use Rattle.cp_outside.specs.declared.sink.PutEnd.{PutEnd}
use Rattle.cp_outside.specs.declared.sink.PutEnd.TheVariants.{Done, Failed, OutOfMemory}

abbrev pub OnDone : PutEnd → Type 0 → Type 0
OnDone Done P = P
OnDone Failed P = Unit {0}
OnDone OutOfMemory P = Unit {0}

abbrev pub OnPutFailed : PutEnd → Type 0 → Type 0
OnPutFailed Done P = Unit {0}
OnPutFailed Failed P = P
OnPutFailed OutOfMemory P = Unit {0}

abbrev pub OnPutOutOfMemory : PutEnd → Type 0 → Type 0
OnPutOutOfMemory Done P = Unit {0}
OnPutOutOfMemory Failed P = Unit {0}
OnPutOutOfMemory OutOfMemory P = P

abbrev pub UnlessPutFailed : PutEnd → Type 0 → Type 0
UnlessPutFailed Done P = P
UnlessPutFailed Failed P = Unit {0}
UnlessPutFailed OutOfMemory P = P

abbrev pub UnlessPutOutOfMemory : PutEnd → Type 0 → Type 0
UnlessPutOutOfMemory Done P = P
UnlessPutOutOfMemory Failed P = P
UnlessPutOutOfMemory OutOfMemory P = Unit {0}

unfoldable pub appended : Option (List ℕ) → List ℕ → Option (List ℕ)
appended None bytes = None
appended (Some written) bytes = Some (written ++ bytes)

pub record AppendsFront (old new : Option (List ℕ)) (bytes : List ℕ) : Type 0 where
  pub kept : ℕ
  pub appends : new ≡ appended old (take kept bytes)
