use Rattle.std.proofs.Common.{refl}
use Rattle.cpfactor_lines.specs.Arguments.{is_option}
use Rattle.cpfactor_lines.proofs.words.file_and_depth.Goals as goal

pub plain_places-requires-clause-named : goal.plain_places-requires-clause-named
unfolding is_option
plain_places-requires-clause-named c = refl
