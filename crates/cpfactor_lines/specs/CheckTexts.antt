-- The texts of the answers of `check`, as bytes.
--
--     accepted_text               `accepted`
--     proof_too_long_text         `refused proof-text TooLong`
--     proof_fault_word kind       the name of the kind of a proof text's fault
--     proof_fault_text fault      `refused proof-text KIND LINE`
--     failed_text name            `proof NAME`, for a test that fails
--     failed_text_at name k       `proof NAME K`, for a test that fails at an index
--     differing_text i j          `proof SumDiffers I J`
--     checked_text checked        one of these three; `refused overflow Check KIND LEFT RIGHT` where an operation doesn't fit;
--                                 `accepted`; for want of memory `refused memory`
use Rattle.std.specs.Prelude.{ℕ, List, [], ◌∷◌, codes}
use Rattle.std.specs.Fmt.{decimal}
use Rattle.cone_tree_certificate.specs.declared.fault.VerdictFault.{VerdictFault}
use Rattle.cone_tree_certificate.specs.declared.fault.VerdictKind.{VerdictKind}
use Rattle.cone_tree_certificate.specs.declared.fault.VerdictKind.TheVariants.{NotAscii, NoHeader, BadDimension, BadWord, BadNumber, NumberTooLarge, ZeroDenominator, ShortLine, LongLine, BadSplit, MissingLine, ExtraLine, NotSymmetric}
use Rattle.certificate_checker.specs.declared.checked.Checked.{Checked}
use Rattle.certificate_checker.specs.declared.checked.Checked.TheVariants.{Accepted, Dimension, BadTerm, SumDiffers, NotNegative, ValueDiffers, OpenLeaf, TreeShape, Wide, OutOfMemory}
use Rattle.cpfactor_lines.specs.Lines.{line}
use Rattle.cpfactor_lines.specs.Texts.{refusal, overflow_text, memory_text}

abbrev pub accepted_text : List ℕ
accepted_text = line (codes "accepted" ∷ [])

abbrev pub proof_too_long_text : List ℕ
proof_too_long_text = refusal (codes "proof-text" ∷ codes "TooLong" ∷ [])

abbrev pub proof_fault_word : VerdictKind → List ℕ
proof_fault_word NotAscii = codes "NotAscii"
proof_fault_word NoHeader = codes "NoHeader"
proof_fault_word BadDimension = codes "BadDimension"
proof_fault_word BadWord = codes "BadWord"
proof_fault_word BadNumber = codes "BadNumber"
proof_fault_word NumberTooLarge = codes "NumberTooLarge"
proof_fault_word ZeroDenominator = codes "ZeroDenominator"
proof_fault_word ShortLine = codes "ShortLine"
proof_fault_word LongLine = codes "LongLine"
proof_fault_word BadSplit = codes "BadSplit"
proof_fault_word MissingLine = codes "MissingLine"
proof_fault_word ExtraLine = codes "ExtraLine"
proof_fault_word NotSymmetric = codes "NotSymmetric"

abbrev pub proof_fault_text : VerdictFault → List ℕ
proof_fault_text fault = refusal (codes "proof-text" ∷ proof_fault_word fault.kind ∷ decimal fault.line ∷ [])

abbrev pub failed_text : List ℕ → List ℕ
failed_text name = line (codes "proof" ∷ name ∷ [])

abbrev pub failed_text_at : List ℕ → ℕ → List ℕ
failed_text_at name k = line (codes "proof" ∷ name ∷ decimal k ∷ [])

abbrev pub differing_text : ℕ → ℕ → List ℕ
differing_text row column = line (codes "proof" ∷ codes "SumDiffers" ∷ decimal row ∷ decimal column ∷ [])

abbrev pub checked_text : Checked → List ℕ
checked_text Accepted = accepted_text
checked_text Dimension = failed_text (codes "Dimension")
checked_text (BadTerm k) = failed_text_at (codes "BadTerm") k
checked_text (SumDiffers row column) = differing_text row column
checked_text NotNegative = failed_text (codes "NotNegative")
checked_text ValueDiffers = failed_text (codes "ValueDiffers")
checked_text (OpenLeaf k) = failed_text_at (codes "OpenLeaf") k
checked_text (TreeShape k) = failed_text_at (codes "TreeShape") k
checked_text (Wide op) = overflow_text (codes "Check") op
checked_text OutOfMemory = memory_text
