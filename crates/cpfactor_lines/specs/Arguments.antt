-- How the words after a command's name are read. Places count from 0 at the first of these words.
--
--     Form                         what a word has to be: a file name, or a number of a range
--     OptionRow                    an option, and what the word that follows it has to be, if one does
--     is_option word               the word begins with two minus signs
--     is_numeral word              it is digits without a leading zero, or `0`
--     has_form form word           a file name is no option; a number is a numeral in its range
--     word_at words k              the word at place k, empty past the last
--     option_named options word    the option whose name the word is
--     wanted options words k       what the word at place k has to be for the option before it
--     is_plain options words k     the word at place k is a plain argument
--     plain_before options words k       how many plain arguments stand before place k
--     plain_argument options words i     the plain argument number i, from 0
--     option_value words name default    the number in the word after the option of that name, or else the default
--     has_word words word                one of the words is this one
--     is_new_option options words k      the word at place k is an option of the command, and no word before it is the same
--     has_wanted form word otherwise     the word has this form, if one is wanted, and else the other test holds
--     can_be_read plain options words k  the word at place k has the form wanted there, or is a new option, or has the form
--                                        of the next plain argument
--     first_unread plain options words   the first place with a word that cannot be read
--     is_complete plain options words    no plain argument is missing, and nothing that an option wants
--     place_or_missing place complete n  that place, or else n where a word is missing there
--     fault_place plain options words    the first place with a word that cannot be read, else the place of a missing word
use Rattle.std.specs.Prelude.{ℕ, zero, suc, Bool, false, not, ◌&&◌, ◌||◌, List, [], length, take, Option, Some, None, is_some, is_none, slice_index, slice_index_or, slice_get, nat_eq, nat_le, ◌==◌, if◌then◌else◌, find, filter, count_by, codes}
use Rattle.std.specs.List.{list_any, position, range_with_len, starts_with}
use Rattle.std.specs.Option.{option_map_or, option_and_then}
use Rattle.std.specs.Str.{bytes_eq, all_ascii_digits}
use Rattle.std.specs.Str.Parse.{digits_value}

pub data Form : Type 0 where
  FileName : Form
  Number : ℕ → ℕ → Form

pub record OptionRow : Type 0 where
  pub name : List ℕ
  pub value : Option Form

unfoldable pub is_option : List ℕ → Bool
is_option word = starts_with nat_eq word (codes "--")

abbrev pub is_numeral : List ℕ → Bool
is_numeral word = not (length word == 0) && all_ascii_digits word
    && (length word == 1 || not (slice_index word 0 == 48))

unfoldable pub has_form : Form → List ℕ → Bool
has_form FileName word = not (is_option word)
has_form (Number low high) word = is_numeral word && nat_le low (digits_value 10 word)
    && nat_le (digits_value 10 word) high

abbrev pub word_at : List (List ℕ) → ℕ → List ℕ
word_at words k = slice_index_or words k []

abbrev pub option_named : List OptionRow → List ℕ → Option OptionRow
option_named options word = find (λ o. bytes_eq word o.name) options

unfoldable pub wanted : List OptionRow → List (List ℕ) → ℕ → Option Form
wanted options words zero = None
wanted options words (suc k) = option_and_then (λ o. o.value) (option_named options (word_at words k))

unfoldable pub is_plain : List OptionRow → List (List ℕ) → ℕ → Bool
is_plain options words k = is_none (wanted options words k) && not (is_option (word_at words k))

unfoldable pub plain_before : List OptionRow → List (List ℕ) → ℕ → ℕ
plain_before options words k = count_by (is_plain options words) (range_with_len 0 k)

unfoldable pub plain_argument : List OptionRow → List (List ℕ) → ℕ → List ℕ
plain_argument options words i =
    word_at words (slice_index (filter (is_plain options words) (range_with_len 0 (length words))) i)

unfoldable pub option_value : List (List ℕ) → List ℕ → ℕ → ℕ
option_value words name default =
    option_map_or (λ k. digits_value 10 (word_at words (suc k))) (position (λ word. bytes_eq word name) words) default

abbrev pub has_word : List (List ℕ) → List ℕ → Bool
has_word words word = list_any (λ other. bytes_eq other word) words

abbrev pub is_new_option : List OptionRow → List (List ℕ) → ℕ → Bool
is_new_option options words k =
    is_some (option_named options (word_at words k))
    && not (has_word (take k words) (word_at words k))

abbrev pub has_wanted : Option Form → List ℕ → Bool → Bool
has_wanted form word otherwise = option_map_or (λ f. has_form f word) form otherwise

unfoldable pub can_be_read : List Form → List OptionRow → List (List ℕ) → ℕ → Bool
can_be_read plain options words k =
    has_wanted (wanted options words k) (word_at words k)
    (if is_option (word_at words k) then is_new_option options words k
    else has_wanted (slice_get plain (plain_before options words k)) (word_at words k) false)

unfoldable pub first_unread : List Form → List OptionRow → List (List ℕ) → Option ℕ
first_unread plain options words = find (λ k. not (can_be_read plain options words k)) (range_with_len 0 (length words))

unfoldable pub is_complete : List Form → List OptionRow → List (List ℕ) → Bool
is_complete plain options words =
    (plain_before options words (length words) == length plain) && is_none (wanted options words (length words))

abbrev pub place_or_missing : Option ℕ → Bool → ℕ → Option ℕ
place_or_missing (Some k) complete len = Some k
place_or_missing None complete len = if complete then None else Some len

unfoldable pub fault_place : List Form → List OptionRow → List (List ℕ) → Option ℕ
fault_place plain options words =
    place_or_missing (first_unread plain options words) (is_complete plain options words) (length words)
