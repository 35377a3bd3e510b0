use Rattle.std.proofs.Common.{take}
use Rattle.std.specs.List.{All, flat_map}
use Rattle.exact_forms.specs.Factors.{WeightedVector}
use Rattle.text_lines.specs.Spelling.{line_of_words}
use Rattle.text_lines.proofs.Written.{IsWriting}
use Rattle.cone_tree_certificate.specs.VerdictText.{term_words, IsNarrowTerm}
use Rattle.cone_tree_certificate.proofs.writing.push_terms.Given as goal

abbrev pub invariant-loop-index : goal.invariant-loop-index
invariant-loop-index l = record {
  writing : IsWriting l.fn.into.items l.into.items (flat_map (λ (term : WeightedVector). line_of_words (term_words term)) (take l.index l.terms));
  narrow : All IsNarrowTerm (take l.index l.terms);
}
