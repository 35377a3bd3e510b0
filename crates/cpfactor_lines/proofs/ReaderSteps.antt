-- A reader that goes on by a word.
use Rattle.std.proofs.Common.{◌≡◌, ℕ, zero, suc, ◌+◌, ◌*◌, ◌-◌, ◌<◌, ◌≤◌, Bool, true, false, ◌&&◌, List, [], ◌∷◌, ◌++◌, length, get_or, set, Option, Some, None}
use Rattle.std.proofs.Common.{refl, sym, ap, subst, ◌∙◌, arith}
use Rattle.std.proofs.lemmas.List.{take_more_set, append-nil, length-map, get_or-take}
use Rattle.std.proofs.lemmas.Bool.{false≢true, and_left, and_right, and_from, ne_eqb, eq-eqb}
use Rattle.std.proofs.lemmas.Option.{slice_get_within}
use Rattle.std.proofs.lemmas.List.Sums.{length-filter}
use Rattle.std.proofs.Math.ListN.{length-set}
use Rattle.std.proofs.lemmas.List.Elements.{filter-append}
use Rattle.std.specs.Prelude.{filter, count_by, slice_get, option_map, is_some, is_none, ◌==◌, String}
use Rattle.std.specs.Global.{Global}
use Rattle.std.specs.String.{string_bytes}
use Rattle.std.specs.List.{list_all, range_with_len}
use Rattle.exact_forms.proofs.Lists.{range_more}
use Rattle.cpfactor_lines.specs.Arguments.{is_option, has_form, has_wanted, can_be_read, is_plain, plain_before, plain_argument, wanted, word_at, is_complete}
use Rattle.cpfactor_lines.specs.Arguments.{place_or_missing, fault_place}
use Rattle.cpfactor_lines.specs.Arguments as of
use Rattle.cpfactor_lines.specs.Requests.{texts, form_of, option_of, plain_of, options_of, plain_places}
use Rattle.cpfactor_lines.specs.ReaderStates.{most_plain, HasRead, ArePlaces}
use Rattle.cpfactor_lines.specs.declared.arguments.ArgumentReader.{ArgumentReader}
use Rattle.cpfactor_lines.specs.declared.row.CommandRow.{CommandRow}
use Rattle.cpfactor_lines.specs.declared.row.Form.{Form}
use Rattle.cpfactor_lines.proofs.FaultPlaces.{plain_more, plain_within, one_if, count_by-cons, read-le}
use Rattle.cpfactor_lines.proofs.Rows.{none_of, text_at, read_plain, is_plain-parts}
use Rattle.cpfactor_lines.proofs.ArgumentLaws.{fault_behind, read_at}

places-more : (options : List of.OptionRow) (words : List (List ℕ)) (k : ℕ) → plain_places options words (k + 1) ≡ plain_places options words k
    ++ filter (is_plain options words) (k ∷ [])
places-more options words k =
    let from : 0 + k ≡ k = omega arith in
    ap (filter (is_plain options words)) (range_more 0 k) ∙ rw from (filter-append (is_plain options words) (range_with_len 0 k) (k ∷ []))

-- over a plain argument
pub HasRead-plain : (row : CommandRow) (words : List (List ℕ)) (k : ℕ) (reader : ArgumentReader) (next : Option Form) → HasRead row words k reader
    → is_plain (options_of row) words k ≡ true → reader.count < most_plain → option_map form_of next ≡ wanted (options_of row) words (k + 1)
    → HasRead row words (k + 1) (record { wanted = next; count = reader.count + 1; places = set reader.places reader.count k })
HasRead-plain row words k reader next has plain room waits = record {
  waits = waits;
  counts = ap (λ n. n + 1) has.counts ∙ sym (plain_more (options_of row) words k ∙ ap (λ b. plain_before (options_of row) words k + one_if b) plain);
  places = take_more_set reader.places reader.count k (omega (arith, room, has.room)) ∙ ap (λ ps. ps ++ k ∷ []) has.places
      ∙ sym (places-more (options_of row) words k ∙ rw plain refl);
  room = length-set reader.places reader.count k ∙ has.room;
}

-- over an option or its value
pub HasRead-other : (row : CommandRow) (words : List (List ℕ)) (k : ℕ) (reader : ArgumentReader) (next : Option Form) → HasRead row words k reader
    → is_plain (options_of row) words k ≡ false → option_map form_of next ≡ wanted (options_of row) words (k + 1)
    → HasRead row words (k + 1) (record { wanted = next; count = reader.count; places = reader.places })
HasRead-other row words k reader next has other waits = record {
  waits = waits;
  counts = has.counts ∙ sym (plain_more (options_of row) words k ∙ ap (λ b. plain_before (options_of row) words k + one_if b) other ∙ omega arith);
  places = has.places ∙ sym (places-more (options_of row) words k ∙ rw other (append-nil _));
  room = has.room;
}

-- before the first word
pub HasRead-start : (row : CommandRow) (words : List (List ℕ)) → HasRead row words 0 (record { wanted = None; count = 0; places = 0 ∷ 0 ∷ 0 ∷ [] })
unfolding wanted plain_before
HasRead-start row words = record { waits = refl; counts = refl; places = refl; room = refl }

-- behind the last word
pub is_complete-read : (row : CommandRow) (words : List (List ℕ)) (reader : ArgumentReader) → HasRead row words (length words) reader
    → is_complete (plain_of row) (options_of row) words ≡ ((reader.count == length row.plain.now) && is_none reader.wanted)
unfolding is_complete
is_complete-read row words reader has = rw (← has.counts, ← has.waits, length-map row.plain.now form_of) (by reader.wanted)
  where
    by : (o : Option Form) → ((reader.count == length row.plain.now) && is_none (option_map form_of o)) ≡ ((reader.count == length row.plain.now) && is_none o)
    by None = refl
    by (Some f) = refl

-- q is number i of the numbers from a and below b that p holds of
record IsPlace (p : ℕ → Bool) (a b i q : ℕ) : Type 0 where
  up : a ≤ q
  below : q < b
  holds : p q ≡ true
  before : count_by p (range_with_len a (q - a)) ≡ i

range_place : (p : ℕ → Bool) (a n b : ℕ) → a + n ≡ b → (i : ℕ) → i < length (filter p (range_with_len a n))
    → IsPlace p a b i (get_or (filter p (range_with_len a n)) i 0)
range_place p a zero b e i lt = absurd (omega arith)
range_place p a (suc n) b e i lt = by (range_place p (a + 1) n b (omega arith)) (p a) refl i lt
  where
    later : (j q : ℕ) → IsPlace p (a + 1) b j q → IsPlace p a b (one_if (p a) + j) q
    later j q place =
        let gap : q - a ≡ suc (q - (a + 1)) = omega (arith, place.up) in
        record {
          up = omega (arith, place.up);
          below = place.below;
          holds = place.holds;
          before = rw gap (count_by-cons p a (range_with_len (a + 1) (q - (a + 1))) ∙ ap (λ m. one_if (p a) + m) place.before);
        }

    by : ((j : ℕ) → j < length (filter p (range_with_len (a + 1) n)) → IsPlace p (a + 1) b j (get_or (filter p (range_with_len (a + 1) n)) j 0)) → (t : Bool)
        → p a ≡ t → (j : ℕ) → j < length (filter p (range_with_len a (suc n))) → IsPlace p a b j (get_or (filter p (range_with_len a (suc n))) j 0)
    by rest true here zero below =
        let none : a - a ≡ 0 = omega arith in
        rw here (record { up = omega arith; below = omega arith; holds = here; before = rw none refl })
    by rest true here (suc j) below =
        let within : suc j < length (a ∷ filter p (range_with_len (a + 1) n)) = rw here at below in
        let place = later j _ (rest j (omega arith)) in
        let next : one_if (p a) + j ≡ suc j = rw here (omega arith) in
        rw here (subst (λ (m : ℕ). IsPlace p a b m (get_or (filter p (range_with_len (a + 1) n)) j 0)) next place)
    by rest false here j below =
        let within : j < length (filter p (range_with_len (a + 1) n)) = rw here at below in
        let place = later j _ (rest j within) in
        let next : one_if (p a) + j ≡ j = rw here (omega arith) in
        rw here (subst (λ (m : ℕ). IsPlace p a b m (get_or (filter p (range_with_len (a + 1) n)) j 0)) next place)

-- behind the last word something may be missing
is_none-some : {X : Type 0} (o : Option X) → is_some o ≡ true → is_none o ≡ false
is_none-some None some = absurd (false≢true some)
is_none-some (Some x) some = refl

-- a reader that has read all words, each of which can be read
pub record IsThrough (row : CommandRow) (words : List (List ℕ)) (reader : ArgumentReader) : Type 0 where
  pub stands : HasRead row words (length words) reader
  pub fits : (j : ℕ) → j < length words → can_be_read (plain_of row) (options_of row) words j ≡ true

pub is_through : (row : CommandRow) (words : List (List ℕ)) (reader : ArgumentReader) (k : ℕ) → k ≡ length words → HasRead row words k reader
    → ((j : ℕ) → j < k → can_be_read (plain_of row) (options_of row) words j ≡ true) → IsThrough row words reader
is_through row words reader k end stands fits = record {
  stands = subst (λ (k : ℕ). HasRead row words k reader) end stands;
  fits = λ j lt. fits j (omega (arith, lt, end));
}

fault_read : (row : CommandRow) (words : List (List ℕ)) (reader : ArgumentReader) (complete : Bool) → IsThrough row words reader
    → ((reader.count == length row.plain.now) && is_none reader.wanted) ≡ complete
    → fault_place (plain_of row) (options_of row) words ≡ place_or_missing None complete (length words)
fault_read row words reader complete through is = fault_behind (plain_of row) (options_of row) words through.fits
    ∙ ap (λ b. place_or_missing None b (length words)) (is_complete-read row words reader through.stands ∙ is)

pub value_missing : (row : CommandRow) (words : List (List ℕ)) (reader : ArgumentReader) → IsThrough row words reader → is_some reader.wanted ≡ true
    → fault_place (plain_of row) (options_of row) words ≡ Some (length words)
value_missing row words reader through some = fault_read row words reader false through (and_right _ _ (is_none-some reader.wanted some))

pub plain_missing : (row : CommandRow) (words : List (List ℕ)) (reader : ArgumentReader) → IsThrough row words reader
    → (reader.count ≡ length row.plain.now → ⊥) → fault_place (plain_of row) (options_of row) words ≡ Some (length words)
plain_missing row words reader through differs =
    fault_read row words reader false through (and_left _ _ (ne_eqb reader.count (length row.plain.now) differs))

pub nothing_missing : (row : CommandRow) (words : List (List ℕ)) (reader : ArgumentReader) → IsThrough row words reader → is_some reader.wanted ≡ false
    → reader.count ≡ length row.plain.now → fault_place (plain_of row) (options_of row) words ≡ None
nothing_missing row words reader through none full = fault_read row words reader true through
    (and_from _ _ (eq-eqb reader.count (length row.plain.now) full) (ap is_none (none_of reader.wanted none)))

-- the reader is done
pub are_places : (row : CommandRow) (words : List (List ℕ)) (reader : ArgumentReader) → HasRead row words (length words) reader
    → fault_place (plain_of row) (options_of row) words ≡ None → reader.count ≡ length row.plain.now → length row.plain.now ≤ most_plain
    → ArePlaces row words reader.places
unfolding plain_argument plain_before
are_places row words reader has no_fault full few = record {
  no_fault = no_fault;
  within = λ i lt. (place i lt).below;
  arguments = λ i lt. ap (word_at words) (same i lt);
  forms = λ i form is.
      let lt : i < length row.plain.now = omega (arith, slice_get_within (plain_of row) i form is, length-map row.plain.now form_of) in
      let at = place i lt in
      let role = is_plain-parts (options_of row) words (get_or reader.places i 0) at.holds in
      let number : plain_before (options_of row) words (get_or reader.places i 0) ≡ i = let whole : get_or reader.places i 0 - 0 ≡ get_or reader.places i 0 =
      omega arith in rw whole at at.before in
      let due : has_wanted (slice_get (plain_of row) (plain_before (options_of row) words (get_or reader.places i 0)))
      (word_at words (get_or reader.places i 0)) false ≡ has_form form (word_at words (get_or reader.places i 0)) = rw (number, is) refl in
      sym due ∙ sym (read_plain (plain_of row) (options_of row) words (get_or reader.places i 0) role.0 role.1)
      ∙ read_at (plain_of row) (options_of row) words (get_or reader.places i 0) no_fault at.below;
}
  where
    same : (i : ℕ) → i < length row.plain.now → get_or reader.places i 0 ≡ get_or (plain_places (options_of row) words (length words)) i 0
    same i lt = sym (get_or-take reader.count reader.places i 0 (omega (arith, full, lt))) ∙ ap (λ ps. get_or ps i 0) has.places

    many : (i : ℕ) → i < length row.plain.now → i < length (plain_places (options_of row) words (length words))
    many i lt = omega (arith, lt, full, has.counts, length-filter (is_plain (options_of row) words) (range_with_len 0 (length words)))

    place : (i : ℕ) → i < length row.plain.now → IsPlace (is_plain (options_of row) words) 0 (length words) i (get_or reader.places i 0)
    place i lt = rw (same i lt) (range_place (is_plain (options_of row) words) 0 (length words) (length words) (omega arith) i (many i lt))

-- a plain argument that can be read has a place
pub HasRead-room : (row : CommandRow) (words : List (List ℕ)) (k : ℕ) (reader : ArgumentReader) → HasRead row words k reader → is_some reader.wanted ≡ false
    → is_option (word_at words k) ≡ false → can_be_read (plain_of row) (options_of row) words k ≡ true → length row.plain.now ≤ most_plain
    → reader.count < most_plain
HasRead-room row words k reader has none other fits few =
    let is : wanted (options_of row) words k ≡ None = sym has.waits ∙ ap (option_map form_of) (none_of reader.wanted none) in
    omega (arith, plain_within (plain_of row) (options_of row) words k is other fits, few, has.counts, length-map row.plain.now form_of)

-- words that can be read are few
pub read_few : (row : CommandRow) (words : List (String Global)) (k : ℕ) → list_all (λ o. is_option o.name) (options_of row) ≡ true
    → length row.plain.now + 2 * length row.options.now ≤ 30 → k ≤ length words
    → ((j : ℕ) → j < k → can_be_read (plain_of row) (options_of row) (texts words) j ≡ true) → k ≤ 30
read_few row words k named few le fits =
    let within : k ≤ length (texts words) = omega (arith, length-map words string_bytes) in
    omega (
      arith,
      read-le (plain_of row) (options_of row) (texts words) k named within fits,
      few,
      length-map row.plain.now form_of,
      length-map row.options.now option_of,
    )

-- the word at such a place
pub argument_text : (row : CommandRow) (words : List (String Global)) (places : List ℕ) (i : ℕ) (word : String Global) → ArePlaces row (texts words) places
    → i < length row.plain.now → word ≡ get_or words (get_or places i 0) word → string_bytes word ≡ plain_argument (options_of row) (texts words) i
argument_text row words places i word are lt is =
    sym (text_at words (get_or places i 0) word (omega (arith, are.within i lt, length-map words string_bytes)) is) ∙ are.arguments i lt
