-- Lines of plain words, with one space between them: they are cut again as they were written.
use Rattle.std.proofs.Common.{◌≡◌, ℕ, ◌+◌, ◌<◌, true, false, ltb, List, [], ◌∷◌, ◌++◌, length, map, Result, refl, ap, ◌∙◌, arith}
use Rattle.std.specs.List.{All, AllByRecursion, join_with_byte, flat_map}
use Rattle.std.proofs.lemmas.Bool.{ne_eqb}
use Rattle.std.proofs.lemmas.List.Sums.{list_all-from_AllPass}
use Rattle.std.proofs.lemmas.List.Elements.{All-append, All-cons, All-nil, All-weaker}
use Rattle.text_lines.specs.Lines.{is_blank, is_line_feed, words, are_skipped, content_from, content_lines, lines, TextLine}
use Rattle.text_lines.specs.Spelling.{line_of_words}
use Rattle.text_lines.specs.Readings.{is_ascii, at_line, in_line}
use Rattle.text_lines.proofs.Cuts.{IsWord, words-join, IsLine, lines-ended}
use Rattle.text_lines.proofs.FractionTexts.{IsPlain, IsPlainWord}

abbrev pub joined : List (List ℕ) → List ℕ
joined ws = join_with_byte 32 ws

-- one word or more, each plain
pub record IsPlainLine (ws : List (List ℕ)) : Type 0 where
  pub some : 0 < length ws
  pub plain : AllByRecursion IsPlainWord ws

is_word : (w : List ℕ) → IsPlainWord w → IsWord w
is_word w h =
    let some = h.some in
    record {
      some = rw (ne_eqb (length w) 0 (λ e. omega (arith, some))) refl;
      clear = All-weaker IsPlain (λ b. is_blank b ≡ false) (λ b p. p.blank) w h.plain;
    }

pub are_words : (ws : List (List ℕ)) → AllByRecursion IsPlainWord ws → AllByRecursion IsWord ws
are_words [] h = tt
are_words (w ∷ ws) h = (is_word w h.0, are_words ws h.1)

All-joined : (P : ℕ → Type 0) → P 32 → ((b : ℕ) → IsPlain b → P b) → (ws : List (List ℕ)) → AllByRecursion IsPlainWord ws → All P (joined ws)
All-joined P space each [] h = All-nil P
All-joined P space each (w ∷ []) h = All-weaker IsPlain P each w h.0.plain
All-joined P space each (w ∷ v ∷ ws) h =
    All-append P w (32 ∷ joined (v ∷ ws)) (All-weaker IsPlain P each w h.0.plain) (All-cons P 32 (joined (v ∷ ws)) space (All-joined P space each (v ∷ ws) h.1))

pub words-joined : (ws : List (List ℕ)) → AllByRecursion IsPlainWord ws → words (joined ws) ≡ ws
words-joined ws h = words-join ws (are_words ws h)

ascii-joined : (ws : List (List ℕ)) → AllByRecursion IsPlainWord ws → is_ascii (joined ws) ≡ true
ascii-joined ws h = list_all-from_AllPass (λ b. ltb b 128) (joined ws) (All-joined (λ b. ltb b 128 ≡ true) refl (λ b p. p.ascii) ws h)

-- a line of words gives what is read of the words
pub in_line-joined : {A K F : Type 0} (fault : K → ℕ → F) (foreign : K) (read : List (List ℕ) → Result A K) (k : ℕ) (ws : List (List ℕ))
    → AllByRecursion IsPlainWord ws
    → in_line fault foreign read (record { number = k; bytes = joined ws }) ≡ at_line fault k (read ws)
unfolding in_line
in_line-joined fault foreign read k ws h = rw (ascii-joined ws h, words-joined ws h) refl

kept-joined : (ws : List (List ℕ)) → IsPlainLine ws → are_skipped (words (joined ws)) ≡ false
kept-joined [] h = (let some = h.some in absurd (omega arith))
kept-joined (w ∷ ws) h = rw (words-joined (w ∷ ws) h.plain) (h.plain.0.plain 0 0 h.plain.0.some).comment

-- ---- a text of such lines

-- the lines, the first of which has this number
abbrev pub numbered : ℕ → List (List (List ℕ)) → List TextLine
numbered k [] = []
numbered k (ws ∷ more) = record { number = k; bytes = joined ws } ∷ numbered (k + 1) more

pub lines-joined : (text : List (List (List ℕ))) → flat_map line_of_words text ≡ flat_map (λ l. l ++ 10 ∷ []) (map joined text)
lines-joined [] = refl
lines-joined (ws ∷ text) = ap (λ (t : List ℕ). line_of_words ws ++ t) (lines-joined text)

pub each-line : (text : List (List (List ℕ))) → AllByRecursion IsPlainLine text → AllByRecursion IsLine (map joined text)
each-line [] h = tt
each-line (ws ∷ text) h = (All-joined (λ b. is_line_feed b ≡ false) refl (λ b p. p.line_feed) ws h.0.plain, each-line text h.1)

text-lines : (text : List (List (List ℕ))) → AllByRecursion IsPlainLine text → lines (flat_map line_of_words text) ≡ map joined text
text-lines text h = ap lines (lines-joined text) ∙ lines-ended (map joined text) (each-line text h)

pub content-numbered : (k : ℕ) (text : List (List (List ℕ))) → AllByRecursion IsPlainLine text → content_from k (map joined text) ≡ numbered k text
unfolding content_from
content-numbered k [] h = refl
content-numbered k (ws ∷ text) h =
    rw (kept-joined ws h.0) (ap (λ (more : List TextLine). record { number = k; bytes = joined ws } ∷ more) (content-numbered (k + 1) text h.1))

-- a text of lines of plain words has these lines
pub content_lines-written : (text : List (List (List ℕ))) → AllByRecursion IsPlainLine text → content_lines (flat_map line_of_words text) ≡ numbered 1 text
unfolding content_lines
content_lines-written text h = ap (content_from 1) (text-lines text h) ∙ content-numbered 1 text h
