use Rattle.std.proofs.Common.{◌≡◌, ◌≤◌, ℕ, List, None, arith, refl}
use Rattle.std.specs.Prelude.{codes}
use Rattle.cpfactor_lines.specs.Commands.{solve, pivots_of, depth_of}
use Rattle.cpfactor_lines.specs.Arguments.{fault_place}
use Rattle.cpfactor_lines.specs.Requests.{texts}
use Rattle.cpfactor_lines.proofs.ArgumentLaws.{option_value-within}
use Rattle.cpfactor_lines.proofs.words.limits.Goals as goal

pivots_of-le : (words : List (List ℕ)) → fault_place solve.plain solve.options words ≡ None → pivots_of words ≤ 100000
pivots_of-le words none = (option_value-within solve.plain solve.options words (codes "--pivots") 10000 0 100000 none refl (omega arith) (omega arith)).1

depth_of-le : (words : List (List ℕ)) → fault_place solve.plain solve.options words ≡ None → depth_of words ≤ 200
depth_of-le words none = (option_value-within solve.plain solve.options words (codes "--depth") 60 0 200 none refl (omega arith) (omega arith)).1

pub overflow_cast-result : goal.overflow_cast-result
overflow_cast-result c = omega (arith, pivots_of-le (texts c.args.words.now) c.requires, c.option_value.ensures)

pub overflow_cast-result-2 : goal.overflow_cast-result-2
overflow_cast-result-2 c = omega (arith, depth_of-le (texts c.args.words.now) c.requires, c.option_value-2.ensures)

pub returns-clause-pivots : goal.returns-clause-pivots
returns-clause-pivots c = omega (arith, pivots_of-le (texts c.args.words.now) c.requires, c.option_value.ensures)

pub returns-clause-depth : goal.returns-clause-depth
returns-clause-depth c = omega (arith, depth_of-le (texts c.args.words.now) c.requires, c.option_value-2.ensures)
