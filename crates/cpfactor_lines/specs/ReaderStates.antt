-- How far a reader of words has come, and what it has when it is done.
--
--     most_plain                      the most plain arguments that a command has
--     HasRead row words k reader      the reader stands before the word at place k, and has the plain arguments before it
--     ArePlaces row words places      the words have no fault, and their plain arguments are at these places, each of its form
use Rattle.std.specs.Prelude.{◌≡◌, ℕ, ◌<◌, true, List, length, take, Some, None, option_map, slice_get, slice_index}
use Rattle.cpfactor_lines.specs.Arguments.{Form, has_form, wanted, plain_before, plain_argument, word_at, fault_place}
use Rattle.cpfactor_lines.specs.Requests.{form_of, plain_of, options_of, plain_places}
use Rattle.cpfactor_lines.specs.declared.arguments.ArgumentReader.{ArgumentReader}
use Rattle.cpfactor_lines.specs.declared.row.CommandRow.{CommandRow}

abbrev pub most_plain : ℕ
most_plain = 3

pub record HasRead (row : CommandRow) (words : List (List ℕ)) (k : ℕ) (reader : ArgumentReader) : Type 0 where
  pub waits : option_map form_of reader.wanted ≡ wanted (options_of row) words k
  pub counts : reader.count ≡ plain_before (options_of row) words k
  pub places : take reader.count reader.places ≡ plain_places (options_of row) words k
  pub room : length reader.places ≡ most_plain

pub record ArePlaces (row : CommandRow) (words : List (List ℕ)) (places : List ℕ) : Type 0 where
  pub no_fault : fault_place (plain_of row) (options_of row) words ≡ None
  pub within : (i : ℕ) → i < length row.plain.now → slice_index places i < length words
  pub arguments : (i : ℕ) → i < length row.plain.now
      → word_at words (slice_index places i) ≡ plain_argument (options_of row) words i
  pub forms : (i : ℕ) (form : Form) → slice_get (plain_of row) i ≡ Some form
      → has_form form (word_at words (slice_index places i)) ≡ true
