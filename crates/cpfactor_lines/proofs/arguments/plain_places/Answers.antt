use Rattle.std.proofs.Common.{◌≡◌, ◌∙◌, length, sym, refl, Some, arith}
use Rattle.std.proofs.lemmas.List.{length-map}
use Rattle.std.specs.String.{string_bytes}
use Rattle.cpfactor_lines.specs.Arguments.{fault_place}
use Rattle.cpfactor_lines.specs.Requests.{texts, plain_of, options_of}
use Rattle.cpfactor_lines.proofs.ReaderSteps.{HasRead-start, is_through, read_few, value_missing, plain_missing, nothing_missing, are_places}
use Rattle.cpfactor_lines.proofs.ArgumentLaws.{fault_found_at}
use Rattle.cpfactor_lines.proofs.arguments.plain_places.Goals as goal
use Rattle.cpfactor_lines.proofs.arguments.plain_places.Goals.{then-is_some-via-then-is_some, then-is_some-via-else-is_some+then-reader-row}

pub loop-place-init : goal.loop-place-init
loop-place-init c = record { stands = HasRead-start c.args.row.now (texts c.args.words.now); fits = λ j lt. absurd (omega arith) }

pub overflow_cast-result : goal.overflow_cast-result
overflow_cast-result c =
    omega (arith, read_few c.args.row.now c.args.words.now c.loop-place.place c.requires.named c.requires.few_words (omega arith) c.loop-place.invariant.fits)

pub overflow_add-result : goal.overflow_add-result
overflow_add-result c =
    omega (arith, read_few c.args.row.now c.args.words.now c.loop-place.place c.requires.named c.requires.few_words (omega arith) c.loop-place.invariant.fits)

pub returns-then-not-can_read-clause-usage : goal.returns-then-not-can_read-clause-usage
returns-then-not-can_read-clause-usage c =
    rw (fault_found_at (plain_of c.args.row.now) (options_of c.args.row.now) (texts c.args.words.now) c.loop-place.place
    (omega (arith, length-map c.args.words.now string_bytes)) c.loop-place.invariant.fits (sym c.can_read.ensures ∙ c.if-not-can_read.true)) refl

pub overflow_cast-result-then-is_some : goal.overflow_cast-result-then-is_some
overflow_cast-result-then-is_some c =
    omega (arith, read_few c.args.row.now c.args.words.now c.loop-place.place c.requires.named c.requires.few_words (omega arith) c.loop-place.invariant.fits)

pub overflow_add-result-then-is_some : goal.overflow_add-result-then-is_some
overflow_add-result-then-is_some c =
    omega (arith, read_few c.args.row.now c.args.words.now c.loop-place.place c.requires.named c.requires.few_words (omega arith) c.loop-place.invariant.fits)

pub returns-then-is_some-clause-usage : goal.returns-then-is_some-clause-usage
returns-then-is_some-clause-usage c =
    let words = texts c.args.words.now in
    let len : length words ≡ length c.args.words.now = length-map c.args.words.now string_bytes in
    let through =
    is_through c.args.row.now words c.loop-place.reader c.loop-place.place (omega arith) c.loop-place.invariant.stands c.loop-place.invariant.fits in
    let missing : fault_place (plain_of c.args.row.now) (options_of c.args.row.now) words ≡ Some (length words) = elim c.then-is_some.branch [
      | then-is_some-via-then-is_some w ↦ value_missing c.args.row.now words c.loop-place.reader through (sym w.if-is_some.ensures)
      | then-is_some-via-else-is_some+then-reader-row w ↦ plain_missing c.args.row.now words c.loop-place.reader through w.if-reader-row.true
    ] in
    rw (missing, len) refl

pub returns-clause-read : goal.returns-clause-read
returns-clause-read c =
    let words = texts c.args.words.now in
    let reader = c.loop-place.reader in
    let len : length words ≡ length c.args.words.now = length-map c.args.words.now string_bytes in
    let through = is_through c.args.row.now words reader c.loop-place.place (omega arith) c.loop-place.invariant.stands c.loop-place.invariant.fits in
    are_places c.args.row.now words reader through.stands (nothing_missing c.args.row.now words reader through (sym c.if-is_some.ensures) c.if-reader-row.false)
    c.if-reader-row.false c.requires.few_plain
