-- The commands, and what a command line asks for.
--
--     Request                  a command with what its words say: names of files as bytes, or the three numbers of
--                              `sample`; then a depth or the limits of the walk, the number of workers, and whether the
--                              walk's trace is wanted
--     AreWorkers w             so many workers may be asked for: 1 to 16
--     HasRanges r              the numbers of a request are in their ranges
--     workers_in r             how many workers a request asks for; `check` asks for one
--     CommandRow               a command: its name, the forms of its plain arguments, its options, and its request, of the
--                              plain arguments by their number from 0, and of the words
--     solve, check, minimum, copositive, sample    the rows of the commands
--     pivots                   the option `--pivots`, with a number from 0 to 100000
--     depth                    the option `--depth`, with a number from 0 to 200
--     workers                  the option `--workers`, with a number from 1 to 16
--     trace                    the option `--trace`, which stands alone
--     pivots_of words          the number after `--pivots`, or else 10000
--     depth_of words           the number after `--depth`, or else 60
--     limits_of words          these two
--     workers_of words         the number after `--workers`, or else 1
--     usual_limits             the limits where the words name none
--     is_traced words          `--trace` is among the words
--     commands                 the commands of the program
--     request_or_fault fault r the request, or the position of the word at the place that is at fault
--     read_as row words        how the words after its name are read by a command's row; without a row, the name is at fault
--     request_in words         the request, or the position of the first word that cannot be read
--     IsCommandLine words r    the words are a command line that asks for r
--     IsUsageAt words p        they are none, and the first fault is at position p, from 1
--     IsReadOneWay words       exactly one of the two holds, for exactly one value
--
-- Options and plain arguments come in any order. An unknown command is at fault at position 1, an unknown or
-- repeated option and a surplus plain argument at their own, a number out of form at the number's, and a missing
-- word at the position after the last.
use Rattle.std.specs.Prelude.{◌≡◌, ◌≤◌, ℕ, ◌+◌, Bool, List, [], ◌∷◌, Option, Some, None, Result, Ok, Err, ◌⊎◌, find, codes}
use Rattle.std.specs.Str.{bytes_eq}
use Rattle.std.specs.Str.Parse.{digits_value}
use Rattle.perfect_walk.specs.declared.journal.Limits.{Limits}
use Rattle.cpfactor_lines.specs.Arguments.{Form, FileName, Number, OptionRow, plain_argument, option_value, has_word, fault_place}

pub data Request : Type 0 where
  Solve : List ℕ → Limits → ℕ → Bool → Request
  Check : List ℕ → List ℕ → Request
  Minimum : List ℕ → ℕ → ℕ → Request
  Copositive : List ℕ → ℕ → ℕ → Request
  Sample : ℕ → ℕ → ℕ → ℕ → Request

abbrev pub AreWorkers : ℕ → Type 0
AreWorkers w = (1 ≤ w) × (w ≤ 16)

abbrev pub HasRanges : Request → Type 0
HasRanges (Solve file limits workers traced) = (limits.pivots ≤ 100000) × (limits.depth ≤ 200) × AreWorkers workers
HasRanges (Check file proof) = Unit {0}
HasRanges (Minimum file depth workers) = (depth ≤ 200) × AreWorkers workers
HasRanges (Copositive file depth workers) = (depth ≤ 200) × AreWorkers workers
HasRanges (Sample n k first workers) =
    (1 ≤ n) × (n ≤ 6) × (1 ≤ k) × (k ≤ 100000) × (first ≤ 18446744073709551615) × AreWorkers workers

abbrev pub workers_in : Request → ℕ
workers_in (Solve file limits workers traced) = workers
workers_in (Check file proof) = 1
workers_in (Minimum file depth workers) = workers
workers_in (Copositive file depth workers) = workers
workers_in (Sample n k first workers) = workers

pub record CommandRow : Type 0 where
  pub name : List ℕ
  pub plain : List Form
  pub options : List OptionRow
  pub request : (ℕ → List ℕ) → List (List ℕ) → Request

abbrev pub pivots : OptionRow
pivots = record { name = codes "--pivots"; value = Some (Number 0 100000) }

abbrev pub depth : OptionRow
depth = record { name = codes "--depth"; value = Some (Number 0 200) }

abbrev pub workers : OptionRow
workers = record { name = codes "--workers"; value = Some (Number 1 16) }

abbrev pub trace : OptionRow
trace = record { name = codes "--trace"; value = None }

abbrev pub pivots_of : List (List ℕ) → ℕ
pivots_of words = option_value words (codes "--pivots") 10000

abbrev pub depth_of : List (List ℕ) → ℕ
depth_of words = option_value words (codes "--depth") 60

abbrev pub limits_of : List (List ℕ) → Limits
limits_of words = record { pivots = pivots_of words; depth = depth_of words }

abbrev pub workers_of : List (List ℕ) → ℕ
workers_of words = option_value words (codes "--workers") 1

abbrev pub usual_limits : Limits
usual_limits = record { pivots = 10000; depth = 60 }

abbrev pub is_traced : List (List ℕ) → Bool
is_traced words = has_word words (codes "--trace")

-- solve FILE [--pivots N] [--depth N] [--workers N] [--trace]
abbrev pub solve : CommandRow
solve = record {
  name = codes "solve";
  plain = FileName ∷ [];
  options = pivots ∷ depth ∷ workers ∷ trace ∷ [];
  request = λ plain words. Solve (plain 0) (limits_of words) (workers_of words) (is_traced words);
}

-- check FILE PROOF
abbrev pub check : CommandRow
check = record {
  name = codes "check";
  plain = FileName ∷ FileName ∷ [];
  options = [];
  request = λ plain words. Check (plain 0) (plain 1);
}

-- minimum FILE [--depth N] [--workers N]
abbrev pub minimum : CommandRow
minimum = record {
  name = codes "minimum";
  plain = FileName ∷ [];
  options = depth ∷ workers ∷ [];
  request = λ plain words. Minimum (plain 0) (depth_of words) (workers_of words);
}

-- copositive FILE [--depth N] [--workers N]
abbrev pub copositive : CommandRow
copositive = record {
  name = codes "copositive";
  plain = FileName ∷ [];
  options = depth ∷ workers ∷ [];
  request = λ plain words. Copositive (plain 0) (depth_of words) (workers_of words);
}

-- sample N K X [--workers M]
abbrev pub sample : CommandRow
sample = record {
  name = codes "sample";
  plain = Number 1 6 ∷ Number 1 100000 ∷ Number 0 18446744073709551615 ∷ [];
  options = workers ∷ [];
  request = λ plain words.
      Sample (digits_value 10 (plain 0)) (digits_value 10 (plain 1)) (digits_value 10 (plain 2)) (workers_of words);
}

abbrev pub commands : List CommandRow
commands = solve ∷ check ∷ minimum ∷ copositive ∷ sample ∷ []

abbrev pub request_or_fault : Option ℕ → Request → Result Request ℕ
request_or_fault None request = Ok request
request_or_fault (Some place) request = Err (place + 2)

unfoldable pub read_as : Option CommandRow → List (List ℕ) → Result Request ℕ
read_as None arguments = Err 1
read_as (Some row) arguments =
    request_or_fault (fault_place row.plain row.options arguments)
    (row.request (plain_argument row.options arguments) arguments)

unfoldable pub request_in : List (List ℕ) → Result Request ℕ
request_in [] = Err 1
request_in (name ∷ arguments) = read_as (find (λ row. bytes_eq name row.name) commands) arguments

abbrev pub IsCommandLine : List (List ℕ) → Request → Type 0
IsCommandLine words request = request_in words ≡ Ok request

abbrev pub IsUsageAt : List (List ℕ) → ℕ → Type 0
IsUsageAt words position = request_in words ≡ Err position

pub record IsReadOneWay (words : List (List ℕ)) : Type 0 where
  pub some : ((request : Request) × IsCommandLine words request) ⊎ ((position : ℕ) × IsUsageAt words position)
  pub not_both : (request : Request) (position : ℕ) → IsCommandLine words request → IsUsageAt words position → ⊥
  pub one_request : (r s : Request) → IsCommandLine words r → IsCommandLine words s → r ≡ s
  pub one_position : (p q : ℕ) → IsUsageAt words p → IsUsageAt words q → p ≡ q
