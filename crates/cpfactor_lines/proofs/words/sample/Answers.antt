use Rattle.std.proofs.Common.{◌∙◌, ◌≤◌, ℕ, refl, sym, ap, subst, arith, slice_index_or}
use Rattle.std.proofs.lemmas.Result.{err_from_is_err_and}
use Rattle.std.specs.Str.Parse.{digits_value}
use Rattle.cpfactor_lines.specs.Arguments.{Number, is_option, word_at}
use Rattle.cpfactor_lines.specs.Commands.{sample}
use Rattle.cpfactor_lines.specs.Requests.{texts}
use Rattle.cpfactor_lines.proofs.ArgumentLaws.{read_as-usage, read_as-request, number_within}
use Rattle.cpfactor_lines.proofs.words.sample.Goals as goal

pub plain_places-requires-clause-named : goal.plain_places-requires-clause-named
unfolding is_option
plain_places-requires-clause-named c = refl

pub returns-in_err-n-clause-usage : goal.returns-in_err-n-clause-usage
returns-in_err-n-clause-usage c =
    let p = err_from_is_err_and c.from_residual.result c.from_residual.ensures.1 in
    rw (p.1, p.2) (read_as-usage sample (texts c.args.words.now) c.in_err-n.field-0.0.position c.in_err-n.ensures.usage)

pub number_argument-requires-clause-number : goal.number_argument-requires-clause-number
number_argument-requires-clause-number c = (1, 6, omega arith, c.in_ok-n.ensures.read.forms 0 (Number 1 6) refl)

pub number_argument-requires-2-clause-number : goal.number_argument-requires-2-clause-number
number_argument-requires-2-clause-number c = (1, 100000, omega arith, c.in_ok-n.ensures.read.forms 1 (Number 1 100000) refl)

pub number_argument-requires-3-clause-number : goal.number_argument-requires-3-clause-number
number_argument-requires-3-clause-number c = (0, 18446744073709551615, omega arith, c.in_ok-n.ensures.read.forms 2 (Number 0 18446744073709551615) refl)

pub overflow_cast-result : goal.overflow_cast-result
overflow_cast-result c =
    let word = word_at (texts c.args.words.now) (slice_index_or c.in_ok-n.field-0 0 0) in
    let within = number_within 1 6 word (c.in_ok-n.ensures.read.forms 0 (Number 1 6) refl) in
    let high : c.number_argument.result ≤ 6 = subst (λ (x : ℕ). x ≤ 6) (sym c.number_argument.ensures) within.1 in
    omega arith

pub overflow_cast-result-2 : goal.overflow_cast-result-2
overflow_cast-result-2 c =
    let word = word_at (texts c.args.words.now) (slice_index_or c.in_ok-n.field-0 1 0) in
    let within = number_within 1 100000 word (c.in_ok-n.ensures.read.forms 1 (Number 1 100000) refl) in
    let high : c.number_argument-2.result ≤ 100000 = subst (λ (x : ℕ). x ≤ 100000) (sym c.number_argument-2.ensures) within.1 in
    omega arith

pub returns-clause-command : goal.returns-clause-command
returns-clause-command c =
    let n = c.number_argument.ensures ∙ ap (digits_value 10) (c.in_ok-n.ensures.read.arguments 0 (omega arith)) in
    let k = c.number_argument-2.ensures ∙ ap (digits_value 10) (c.in_ok-n.ensures.read.arguments 1 (omega arith)) in
    let first = c.number_argument-3.ensures ∙ ap (digits_value 10) (c.in_ok-n.ensures.read.arguments 2 (omega arith)) in
    rw (n, k, first, c.workers.ensures.value) (read_as-request sample (texts c.args.words.now) c.in_ok-n.ensures.read.no_fault)

pub returns-clause-ranges : goal.returns-clause-ranges
returns-clause-ranges c =
    let words = texts c.args.words.now in
    let places = c.in_ok-n.field-0 in
    let n = number_within 1 6 (word_at words (slice_index_or places 0 0)) (c.in_ok-n.ensures.read.forms 0 (Number 1 6) refl) in
    let k = number_within 1 100000 (word_at words (slice_index_or places 1 0)) (c.in_ok-n.ensures.read.forms 1 (Number 1 100000) refl) in
    let form = c.in_ok-n.ensures.read.forms 2 (Number 0 18446744073709551615) refl in
    let first = number_within 0 18446744073709551615 (word_at words (slice_index_or places 2 0)) form in (
      subst (λ (x : ℕ). 1 ≤ x) (sym c.number_argument.ensures) n.0,
      subst (λ (x : ℕ). x ≤ 6) (sym c.number_argument.ensures) n.1,
      subst (λ (x : ℕ). 1 ≤ x) (sym c.number_argument-2.ensures) k.0,
      subst (λ (x : ℕ). x ≤ 100000) (sym c.number_argument-2.ensures) k.1,
      subst (λ (x : ℕ). x ≤ 18446744073709551615) (sym c.number_argument-3.ensures) first.1,
      c.workers.ensures.within,
    )
