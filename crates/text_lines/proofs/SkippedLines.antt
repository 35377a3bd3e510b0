-- Lines that are skipped, before a text of plain lines.
use Rattle.std.proofs.Common.{◌≡◌, ℕ, suc, ◌+◌, false, List, [], ◌∷◌, ◌++◌, length, map, codes, refl, ap, sym, ◌∙◌, arith}
use Rattle.std.specs.List.{All, AllByRecursion, flat_map}
use Rattle.std.proofs.lemmas.List.Elements.{All-append, All-cons, All-nil, All-weaker}
use Rattle.std.proofs.lemmas.List.{append-nil}
use Rattle.std.proofs.lemmas.List.Concat.{flat_map-append}
use Rattle.text_lines.specs.Lines.{is_blank, is_line_feed, content_from, content_lines, lines}
use Rattle.text_lines.specs.Skipped.{IsSkippedLine, IsSkippedText, ended_lines}
use Rattle.text_lines.specs.Spelling.{line_of_words}
use Rattle.text_lines.proofs.Cuts.{IsLine, lines-ended, words-join}
use Rattle.text_lines.proofs.FractionTexts.{IsPlain, IsPlainWord}
use Rattle.text_lines.proofs.PlainLines.{joined, are_words, IsPlainLine, numbered, lines-joined, each-line, content-numbered}
use Rattle.text_lines.proofs.Written.{spaced, join_spaced}

-- skipped lines are counted and give no content
pub content-behind : (k : ℕ) (skipped rest : List (List ℕ)) → AllByRecursion IsSkippedLine skipped
    → content_from k (skipped ++ rest) ≡ content_from (k + length skipped) rest
unfolding content_from
content-behind k [] rest h = (let same : k + 0 ≡ k = omega arith in rw same refl)
content-behind k (line ∷ skipped) rest h =
    let same : k + 1 + length skipped ≡ k + suc (length skipped) = omega arith in
    rw h.0.skipped (content-behind (k + 1) skipped rest h.1 ∙ ap (λ (n : ℕ). content_from n rest) same)

are_lines : (skipped rest : List (List ℕ)) → AllByRecursion IsSkippedLine skipped → AllByRecursion IsLine rest → AllByRecursion IsLine (skipped ++ rest)
are_lines [] rest h r = r
are_lines (line ∷ skipped) rest h r = (h.0.one, are_lines skipped rest h.1 r)

-- such lines, and then a text of plain lines
pub content_lines-behind : (skipped : List (List ℕ)) (text : List (List (List ℕ))) → AllByRecursion IsSkippedLine skipped → AllByRecursion IsPlainLine text
    → content_lines (ended_lines skipped ++ flat_map line_of_words text) ≡ numbered (1 + length skipped) text
unfolding content_lines
content_lines-behind skipped text h p =
    let whole : ended_lines skipped ++ flat_map line_of_words text ≡ ended_lines (skipped ++ map joined text) =
    ap (λ (t : List ℕ). ended_lines skipped ++ t) (lines-joined text) ∙ sym (flat_map-append (λ (line : List ℕ). line ++ 10 ∷ []) skipped (map joined text)) in
    let cut : lines (ended_lines skipped ++ flat_map line_of_words text) ≡ skipped ++ map joined text = ap lines whole
    ∙ lines-ended (skipped ++ map joined text) (are_lines skipped (map joined text) h (each-line text p)) in
    ap (content_from 1) cut ∙ content-behind 1 skipped (map joined text) h ∙ content-numbered (1 + length skipped) text p

-- what holds of the space and of plain bytes holds of each byte of words with a space before each
All-spaced : (P : ℕ → Type 0) → P 32 → ((b : ℕ) → IsPlain b → P b) → (ws : List (List ℕ)) → AllByRecursion IsPlainWord ws → All P (spaced ws)
unfolding spaced
All-spaced P space each [] h = All-nil P
All-spaced P space each (w ∷ ws) h =
    All-append P (32 ∷ w) (flat_map (λ v. 32 ∷ v) ws) (All-cons P 32 w space (All-weaker IsPlain P each w h.0.plain)) (All-spaced P space each ws h.1)

-- a comment: the word `#`, and then plain words
abbrev pub commented : List (List ℕ) → List ℕ
commented words = joined (codes "#" ∷ words)

pub comment-skipped : (words : List (List ℕ)) → AllByRecursion IsPlainWord words → IsSkippedLine (commented words)
comment-skipped ws h = record {
  skipped = rw (words-join (codes "#" ∷ ws) (
    record {
      some = refl;
      clear =
          All-cons (λ b. is_blank b ≡ false) 35 [] refl (All-nil (λ b. is_blank b ≡ false));
    },
    are_words ws h,
  )) refl;
  one = rw (join_spaced (codes "#") ws) (All-cons (λ b. is_line_feed b ≡ false) 35 (spaced ws) refl
      (All-spaced (λ b. is_line_feed b ≡ false) refl (λ b p. p.line_feed) ws h));
}

-- ---- texts of such lines
pub skipped-none : IsSkippedText []
skipped-none = record { lines = []; skipped = tt; text_is = refl }

pub skipped-line : (line : List ℕ) → IsSkippedLine line → IsSkippedText (line ++ 10 ∷ [])
skipped-line line h = record { lines = line ∷ []; skipped = (h, tt); text_is = sym (append-nil (line ++ 10 ∷ [])) }

pub skipped-append : (a b : List ℕ) → IsSkippedText a → IsSkippedText b → IsSkippedText (a ++ b)
skipped-append a b h k = record {
  lines = h.lines ++ k.lines;
  skipped = each h.lines k.lines h.skipped k.skipped;
  text_is = ap (λ (t : List ℕ). t ++ b) h.text_is ∙ ap (λ (t : List ℕ). ended_lines h.lines ++ t) k.text_is
      ∙ sym (flat_map-append (λ (line : List ℕ). line ++ 10 ∷ []) h.lines k.lines);
}
  where
    each : (xs ys : List (List ℕ)) → AllByRecursion IsSkippedLine xs → AllByRecursion IsSkippedLine ys → AllByRecursion IsSkippedLine (xs ++ ys)
    each [] ys h k = k
    each (x ∷ xs) ys h k = (h.0, each xs ys h.1 k)

pub skipped-each : {X : Type 0} (f : X → List ℕ) (xs : List X) → ((x : X) → IsSkippedText (f x)) → IsSkippedText (flat_map f xs)
skipped-each f [] h = skipped-none
skipped-each f (x ∷ xs) h = skipped-append (f x) (flat_map f xs) (h x) (skipped-each f xs h)
