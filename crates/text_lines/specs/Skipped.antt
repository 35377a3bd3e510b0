-- Lines that a reader skips.
--
--     IsSkippedLine line     the line is skipped, and there is no line feed in it
--     ended_lines lines      the lines, each with a line feed behind it
--     IsSkippedText text     the text is such lines, each ended by a line feed
use Rattle.std.specs.Prelude.{◌≡◌, ℕ, true, false, List, [], ◌∷◌, ◌++◌}
use Rattle.std.specs.List.{All, AllByRecursion, flat_map}
use Rattle.text_lines.specs.Lines.{is_line_feed, words, are_skipped}

pub record IsSkippedLine (line : List ℕ) : Type 0 where
  pub skipped : are_skipped (words line) ≡ true
  pub one : All (λ b. is_line_feed b ≡ false) line

abbrev pub ended_lines : List (List ℕ) → List ℕ
ended_lines lines = flat_map (λ line. line ++ 10 ∷ []) lines

pub record IsSkippedText (text : List ℕ) : Type 0 where
  pub lines : List (List ℕ)
  pub skipped : AllByRecursion IsSkippedLine lines
  pub text_is : text ≡ ended_lines lines
