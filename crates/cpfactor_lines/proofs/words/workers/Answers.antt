use Rattle.std.proofs.Common.{◌≡◌, ℕ, List, Some, None, ap, arith}
use Rattle.std.specs.Option.{option_and_then}
use Rattle.cpfactor_lines.specs.Arguments.{Form, OptionRow, fault_place, option_named}
use Rattle.cpfactor_lines.specs.Commands.{AreWorkers, workers, workers_of}
use Rattle.cpfactor_lines.specs.Requests.{texts, plain_of, options_of}
use Rattle.cpfactor_lines.proofs.ArgumentLaws.{option_value-within}
use Rattle.cpfactor_lines.proofs.words.workers.Goals as goal

workers_of-within : (plain : List Form) (options : List OptionRow) (words : List (List ℕ)) → fault_place plain options words ≡ None
    → option_named options workers.name ≡ Some workers → AreWorkers (workers_of words)
workers_of-within plain options words none named =
    option_value-within plain options words workers.name 1 1 16 none (ap (option_and_then (λ (o : OptionRow). o.value)) named) (omega arith) (omega arith)

pub option_value-requires-clause-numbers : goal.option_value-requires-clause-numbers
option_value-requires-clause-numbers c = (1, 16, omega arith, ap (option_and_then (λ (o : OptionRow). o.value)) c.requires.option)

pub overflow_cast-result : goal.overflow_cast-result
overflow_cast-result c =
    let within = workers_of-within (plain_of c.args.row.now) (options_of c.args.row.now) (texts c.args.words.now) c.requires.read c.requires.option in
    omega (arith, within.1, c.option_value.ensures)

pub returns-clause-within : goal.returns-clause-within
returns-clause-within c =
    rw c.option_value.ensures
    (workers_of-within (plain_of c.args.row.now) (options_of c.args.row.now) (texts c.args.words.now) c.requires.read c.requires.option)
