-- What lines and words stand for: a value, or a first fault. The kinds of faults are each text's own.
--
--     result >>= f             f of the value, or the error
--     Agrees view result read  the result, its value seen by view, is what was read
--     ended long words value   the value where no word is left; else the fault `long`
--     first_word read short words   what the first word stands for, and the words after it; `short` where there is none
--     numbers_of read short long n words   n words, each read so, and no more; the fault of the first that has one, or
--                              `short` where there are fewer words, `long` where there are more
--     is_ascii bytes           each byte is below 128
--     at_line fault k read     what was read, or its fault at line k
--     in_line fault foreign read line   what is read of a line's words; a byte that is not ASCII is the fault `foreign`, which
--                              comes before every other fault of the line
--     Many                     what some lines stand for, and the lines after them
--     first_line read missing lines   what the first line stands for, and the lines after it; `missing` where there is none
--     many read missing k lines   the next k lines, each read so; `missing` where there are fewer
use Rattle.std.specs.Prelude.{◌≡◌, ℕ, zero, suc, Bool, List, [], ◌∷◌, Result, Ok, Err, nat_lt, if◌then◌else◌}
use Rattle.std.specs.List.{list_all}
use Rattle.text_lines.specs.Lines.{words, TextLine}

infixl 10 ◌>>=◌
abbrev pub ◌>>=◌ : {A B E : Type 0} → Result A E → (A → Result B E) → Result B E
(Ok x) >>= f = f x
(Err e) >>= f = Err e

abbrev pub Agrees : {X Y E : Type 0} → (X → Y) → Result X E → Result Y E → Type 0
Agrees view (Ok x) read = read ≡ Ok (view x)
Agrees view (Err e) read = read ≡ Err e

-- ---- the words of a line

abbrev pub ended : {A K : Type 0} → K → List (List ℕ) → A → Result A K
ended long [] value = Ok value
ended long (word ∷ more) value = Err long

abbrev pub first_word : {A K : Type 0} → (List ℕ → Result A K) → K → List (List ℕ) → Result (A × List (List ℕ)) K
first_word read short [] = Err short
first_word read short (word ∷ more) = read word >>= λ x. Ok (x, more)

unfoldable pub numbers_of : {A K : Type 0} → (List ℕ → Result A K) → K → K → ℕ → List (List ℕ) → Result (List A) K
numbers_of read short long zero [] = Ok []
numbers_of read short long zero (word ∷ more) = Err long
numbers_of read short long (suc n) [] = Err short
numbers_of read short long (suc n) (word ∷ more) = do
  number ← read word
  numbers ← numbers_of read short long n more
  Ok (number ∷ numbers)

-- ---- a line

abbrev pub is_ascii : List ℕ → Bool
is_ascii bytes = list_all (λ b. nat_lt b 128) bytes

abbrev pub at_line : {A K F : Type 0} → (K → ℕ → F) → ℕ → Result A K → Result A F
at_line fault line (Ok x) = Ok x
at_line fault line (Err kind) = Err (fault kind line)

unfoldable pub in_line : {A K F : Type 0} → (K → ℕ → F) → K → (List (List ℕ) → Result A K) → TextLine → Result A F
in_line fault foreign read line =
    at_line fault line.number (if is_ascii line.bytes then read (words line.bytes) else Err foreign)

-- ---- the lines of a text

pub record Many (A : Type 0) : Type 0 where
  pub items : List A
  pub rest : List TextLine

abbrev pub first_line : {A F : Type 0} → (TextLine → Result A F) → F → List TextLine → Result (A × List TextLine) F
first_line read missing [] = Err missing
first_line read missing (line ∷ more) = read line >>= λ x. Ok (x, more)

unfoldable pub many : {A F : Type 0} → (TextLine → Result A F) → F → ℕ → List TextLine → Result (Many A) F
many read missing zero lines = Ok (record { items = []; rest = lines })
many read missing (suc k) lines = do
  first ← first_line read missing lines
  others ← many read missing k first.1
  Ok (record { items = first.0 ∷ others.items; rest = others.rest })
