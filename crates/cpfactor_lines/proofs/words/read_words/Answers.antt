use Rattle.std.proofs.Common.{◌≡◌, ◌∙◌, ◌-◌, length, take, drop, sym, refl, Some}
use Rattle.std.specs.Prelude.{find}
use Rattle.std.specs.Str.{bytes_eq}
use Rattle.std.specs.String.{string_bytes}
use Rattle.cpfactor_lines.specs.Commands.{CommandRow, commands, request_in, read_as, solve, check, minimum, copositive, sample}
use Rattle.cpfactor_lines.specs.Requests.{texts}
use Rattle.cpfactor_lines.proofs.ArgumentLaws.{reading_none, reading_as, reading_other, none_named}
use Rattle.cpfactor_lines.proofs.words.read_words.Goals as goal
use Rattle.cpfactor_lines.proofs.words.read_words.Goals.{After-as_str}

pub returns-in_default-clause-usage : goal.returns-in_default-clause-usage
returns-in_default-clause-usage c = reading_none c.args.words.now c.in_default.len_below

-- the words as those of a command with this name
named : (c : After-as_str) (row : CommandRow) → c.as_str.result.now ≡ row.name
    → find (λ (r : CommandRow). bytes_eq row.name r.name) commands ≡ Some row
    → request_in (texts c.args.words.now) ≡ read_as (Some row) (texts (take (length c.args.words.now - 1) (drop 1 c.args.words.now)))
named c row is found = reading_as c.args.words.now c.name-item.result (Some row) c.name-item.is c.in-len1-up.len_at_least
    (rw (sym c.as_str.ensures.value ∙ is) found)

pub returns-in-solve-clause-command : goal.returns-in-solve-clause-command
returns-in-solve-clause-command c = rw (named (goal.at.returns-in-solve-clause-command c).After-as_str solve c.in-solve.is refl) c.solve.ensures.command

pub returns-in-solve-clause-usage : goal.returns-in-solve-clause-usage
returns-in-solve-clause-usage c = rw (named (goal.at.returns-in-solve-clause-usage c).After-as_str solve c.in-solve.is refl) c.solve.ensures.usage

pub returns-in-check-clause-command : goal.returns-in-check-clause-command
returns-in-check-clause-command c = rw (named (goal.at.returns-in-check-clause-command c).After-as_str check c.in-check.is refl) c.check.ensures.command

pub returns-in-check-clause-usage : goal.returns-in-check-clause-usage
returns-in-check-clause-usage c = rw (named (goal.at.returns-in-check-clause-usage c).After-as_str check c.in-check.is refl) c.check.ensures.usage

pub returns-in-minimum-clause-command : goal.returns-in-minimum-clause-command
returns-in-minimum-clause-command c =
    rw (named (goal.at.returns-in-minimum-clause-command c).After-as_str minimum c.in-minimum.is refl) c.minimum.ensures.command

pub returns-in-minimum-clause-usage : goal.returns-in-minimum-clause-usage
returns-in-minimum-clause-usage c = rw (named (goal.at.returns-in-minimum-clause-usage c).After-as_str minimum c.in-minimum.is refl) c.minimum.ensures.usage

pub returns-in-copositive-clause-command : goal.returns-in-copositive-clause-command
returns-in-copositive-clause-command c =
    rw (named (goal.at.returns-in-copositive-clause-command c).After-as_str copositive c.in-copositive.is refl) c.copositive.ensures.command

pub returns-in-copositive-clause-usage : goal.returns-in-copositive-clause-usage
returns-in-copositive-clause-usage c =
    rw (named (goal.at.returns-in-copositive-clause-usage c).After-as_str copositive c.in-copositive.is refl) c.copositive.ensures.usage

pub returns-in-sample-clause-command : goal.returns-in-sample-clause-command
returns-in-sample-clause-command c = rw (named (goal.at.returns-in-sample-clause-command c).After-as_str sample c.in-sample.is refl) c.sample.ensures.command

pub returns-in-sample-clause-usage : goal.returns-in-sample-clause-usage
returns-in-sample-clause-usage c = rw (named (goal.at.returns-in-sample-clause-usage c).After-as_str sample c.in-sample.is refl) c.sample.ensures.usage

pub returns-in_default-as_str-clause-usage : goal.returns-in_default-as_str-clause-usage
returns-in_default-as_str-clause-usage c =
    let same = c.as_str.ensures.value in
    let none = none_named commands (string_bytes c.name-item.result) (
      λ e. c.in_default-as_str.not-solve (same ∙ e),
      (
        λ e. c.in_default-as_str.not-check (same ∙ e),
        (
          λ e. c.in_default-as_str.not-minimum (same ∙ e),
          (λ e. c.in_default-as_str.not-copositive (same ∙ e), (λ e. c.in_default-as_str.not-sample (same ∙ e), tt)),
        ),
      ),
    ) in
    reading_other c.args.words.now c.name-item.result c.name-item.is c.in-len1-up.len_at_least none
