use Rattle.std.proofs.Common.{refl}
use Rattle.cpfactor_lines.specs.Lines.{line}
use Rattle.cpfactor_lines.specs.Texts.{term_line, factorization_text}
use Rattle.cone_tree_certificate.specs.VerdictText.{verdict_text, written_terms}
use Rattle.cpfactor_lines.proofs.checks.factorizations_are_verdicts.Goals as goal

pub returns : goal.returns
unfolding line term_line factorization_text verdict_text written_terms
returns c = λ n terms. refl
