-- What holds of cone trees and of the texts of verdicts.
--
--     TreesProve          a symmetric matrix that some lines prove copositive is copositive
--     PairTreesProve      the tree that is split at the pairs is a tree that proves
--     OnePairTree         W has at most one such tree, whatever the levels
--     OneVerdict          bytes are the text of one verdict, or have one first fault, and not both
--     WrittenIsRead       the written form of a verdict is a text of that verdict, also behind lines that are skipped
use Rattle.std.specs.Prelude.{◌≡◌, ℕ, ◌≤◌, List, ◌++◌}
use Rattle.exact_forms.specs.Forms.{IsSymmetric}
use Rattle.exact_forms.specs.Copositive.{Matrix, IsCopositive}
use Rattle.text_lines.specs.Skipped.{IsSkippedText}
use Rattle.cone_tree_certificate.specs.declared.verdict.Verdict.{Verdict}
use Rattle.cone_tree_certificate.specs.Trees.{Lines, TreeProves}
use Rattle.cone_tree_certificate.specs.PairTrees.{IsPairTree}
use Rattle.cone_tree_certificate.specs.ProofText.{ProofText, HasOneVerdict}
use Rattle.cone_tree_certificate.specs.VerdictText.{verdict_text, IsWritable, IsWhole}

abbrev pub TreesProve : Type 0
TreesProve = (n : ℕ) (w : Matrix) (lines : Lines) → IsSymmetric n w → TreeProves n w lines → IsCopositive n w

abbrev pub PairTreesProve : Type 0
PairTreesProve = (n : ℕ) (w : Matrix) (d : ℕ) (lines : Lines) → d ≤ 200 → IsPairTree n w d lines → TreeProves n w lines

abbrev pub OnePairTree : Type 0
OnePairTree = (n : ℕ) (w : Matrix) (d e : ℕ) (xs ys : Lines) → IsPairTree n w d xs → IsPairTree n w e ys → xs ≡ ys

abbrev pub OneVerdict : Type 0
OneVerdict = (bytes : List ℕ) → HasOneVerdict bytes

abbrev pub WrittenIsRead : Type 0
WrittenIsRead =
    (before : List ℕ) (v : Verdict) → IsSkippedText before → IsWritable v → IsWhole v
    → ProofText (before ++ verdict_text v) v
