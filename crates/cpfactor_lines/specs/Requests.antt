-- The program's own values as the definitions see them.
--
--     texts words          the words as bytes
--     request_of command   the request that a command stands for
--     form_of form         what a word has to be
--     option_of row        an option's name, and what the word after it has to be
--     plain_of row         the forms of a command's plain arguments
--     options_of row       its options
--     plain_places options words k     the places of the plain arguments before place k
--     IsNumberOption options name      the name is that of an option with a number
--     IsNumberAt words k       the word at place k has the form of a number
use Rattle.std.specs.Prelude.{◌≡◌, ℕ, ◌<◌, ◌^◌, true, List, Some, map, filter, option_map, String}
use Rattle.std.specs.Option.{option_and_then}
use Rattle.std.specs.Global.{Global}
use Rattle.std.specs.List.{range_with_len}
use Rattle.std.specs.String.{string_bytes}
use Rattle.cpfactor_lines.specs.Commands.{Request}
use Rattle.cpfactor_lines.specs.Commands as the
use Rattle.cpfactor_lines.specs.Arguments.{has_form, is_plain, option_named, word_at}
use Rattle.cpfactor_lines.specs.Arguments as of
use Rattle.cpfactor_lines.specs.declared.command.Command.{Command}
use Rattle.cpfactor_lines.specs.declared.command.Command.TheVariants.{Solve, Check, Minimum, Copositive, Sample}
use Rattle.cpfactor_lines.specs.declared.row.CommandRow.{CommandRow}
use Rattle.cpfactor_lines.specs.declared.row.OptionRow.{OptionRow}
use Rattle.cpfactor_lines.specs.declared.row.Form.{Form}
use Rattle.cpfactor_lines.specs.declared.row.Form.TheVariants.{FileName, Number}

abbrev pub texts : List (String Global) → List (List ℕ)
texts words = map string_bytes words

abbrev pub request_of : Command → Request
request_of (Solve file limits workers trace) = the.Solve file.now limits workers trace
request_of (Check file proof) = the.Check file.now proof.now
request_of (Minimum file depth workers) = the.Minimum file.now depth workers
request_of (Copositive file depth workers) = the.Copositive file.now depth workers
request_of (Sample n k first workers) = the.Sample n k first workers

abbrev pub form_of : Form → of.Form
form_of FileName = of.FileName
form_of (Number low high) = of.Number low high

abbrev pub option_of : OptionRow → of.OptionRow
option_of row = record { name = row.name.now; value = option_map form_of row.value }

abbrev pub plain_of : CommandRow → List of.Form
plain_of row = map form_of row.plain.now

abbrev pub options_of : CommandRow → List of.OptionRow
options_of row = map option_of row.options.now

abbrev pub plain_places : List of.OptionRow → List (List ℕ) → ℕ → List ℕ
plain_places options words k = filter (is_plain options words) (range_with_len 0 k)

-- the option is one of these, with a number of at most 64 bits after it
abbrev pub IsNumberOption : List of.OptionRow → List ℕ → Type 0
IsNumberOption options name =
    (low : ℕ) × (high : ℕ) × (high < 2 ^ 64)
    × (option_and_then (λ o. o.value) (option_named options name) ≡ Some (of.Number low high))

-- of at most 64 bits
abbrev pub IsNumberAt : List (List ℕ) → ℕ → Type 0
IsNumberAt words k = (low : ℕ) × (high : ℕ) × (high < 2 ^ 64) × (has_form (of.Number low high) (word_at words k) ≡ true)
