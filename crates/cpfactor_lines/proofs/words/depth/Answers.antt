use Rattle.std.proofs.Common.{◌≡◌, ◌≤◌, ℕ, List, None, arith, refl}
use Rattle.std.specs.Prelude.{codes}
use Rattle.cpfactor_lines.specs.Commands.{minimum, depth_of}
use Rattle.cpfactor_lines.specs.Arguments.{fault_place}
use Rattle.cpfactor_lines.specs.Requests.{texts}
use Rattle.cpfactor_lines.proofs.ArgumentLaws.{option_value-within}
use Rattle.cpfactor_lines.proofs.words.depth.Goals as goal

depth_of-le : (words : List (List ℕ)) → fault_place minimum.plain minimum.options words ≡ None → depth_of words ≤ 200
depth_of-le words none = (option_value-within minimum.plain minimum.options words (codes "--depth") 60 0 200 none refl (omega arith) (omega arith)).1

pub overflow_cast-result : goal.overflow_cast-result
overflow_cast-result c = omega (arith, depth_of-le (texts c.args.words.now) c.requires, c.option_value.ensures)

pub returns-clause-within : goal.returns-clause-within
returns-clause-within c = omega (arith, depth_of-le (texts c.args.words.now) c.requires, c.option_value.ensures)
