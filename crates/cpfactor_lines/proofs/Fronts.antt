-- Texts that are written piece by piece.
use Rattle.std.specs.Prelude.{◌≡◌, ℕ, ◌+◌, ◌<◌, ◌≤◌, List, [], ◌++◌, length, take, drop, Option}
use Rattle.std.proofs.Common.{refl, suc, sym, ap, ◌∙◌, subst, get_or, append_assoc}
use Rattle.std.specs.List.{flat_map}
use Rattle.std.proofs.lemmas.List.{append-nil, take_all, flat_map_more, take-append-drop, take_more}
use Rattle.std.proofs.lemmas.Grind.{flat_map-append}
use Rattle.std.proofs.Math.Seq.{drop-cons}
use Rattle.cp_outside.specs.Faults.{RoseOrFull}
use Rattle.cp_outside.specs.Puts.{OnDone, OnPutFailed, OnPutOutOfMemory, UnlessPutFailed, appended, AppendsFront}
use Rattle.cp_outside.proofs.PutLaws.{appended-[], appended-append, AppendsFront-none, AppendsFront-more, AppendsFront-after}
use Rattle.cp_outside.specs.declared.sink.PutEnd.{PutEnd}
use Rattle.cp_outside.specs.declared.sink.PutEnd.TheVariants.{Done, Failed, OutOfMemory}
use Rattle.cpfactor_lines.specs.Sinks.{SinkShown, IsPut}

abbrev pub shown_by : Option (List ℕ) → Option (List ℕ) → ℕ → ℕ → SinkShown
shown_by told_before told_after faults_before faults_after =
    record { told_before = told_before; told_after = told_after; faults_before = faults_before; faults_after = faults_after }

-- a front of a piece that stands behind what is written, and before what isn't yet
front_behind : (old mid new : Option (List ℕ)) (a piece rest : List ℕ) → mid ≡ appended old a → AppendsFront mid new piece
    → AppendsFront old new (a ++ (piece ++ rest))
front_behind old mid new a piece rest is front = AppendsFront-after old mid new a (piece ++ rest) is (AppendsFront-more mid new piece rest front)

-- nothing of a text
front_unchanged : (old new : Option (List ℕ)) (text : List ℕ) → new ≡ old → AppendsFront old new text
front_unchanged old new text is = subst (λ (told : Option (List ℕ)). AppendsFront old told text) (sym is) (AppendsFront-none old text)

-- ---- pieces one after the other
pieces_split : {X : Type 0} (f : X → List ℕ) (xs : List X) (i : ℕ) (d : X) → i < length xs
    → flat_map f xs ≡ flat_map f (take i xs) ++ (f (get_or xs i d) ++ flat_map f (drop (suc i) xs))
pieces_split f xs i d l =
    let whole : take i xs ++ drop i xs ≡ xs = take-append-drop i xs in
    ap (flat_map f) (sym whole) ∙ flat_map-append f (take i xs) (drop i xs) ∙ ap (λ t. flat_map f (take i xs) ++ flat_map f t) (drop-cons xs i d l)

pub piece_more : {X : Type 0} (f : X → List ℕ) (xs : List X) (i : ℕ) (d : X) (old mid new : Option (List ℕ)) → i < length xs
    → mid ≡ appended old (flat_map f (take i xs)) → new ≡ appended mid (f (get_or xs i d))
    → new ≡ appended old (flat_map f (take (i + 1) xs))
piece_more f xs i d old mid new l is e =
    e ∙ ap (λ m. appended m (f (get_or xs i d))) is ∙ appended-append old (flat_map f (take i xs)) (f (get_or xs i d))
    ∙ ap (appended old) (flat_map_more f [] (take i xs) (get_or xs i d) ∙ ap (flat_map f) (sym (take_more xs i d l)))

piece_failed : {X : Type 0} (f : X → List ℕ) (xs : List X) (i : ℕ) (d : X) (old mid new : Option (List ℕ)) → i < length xs
    → mid ≡ appended old (flat_map f (take i xs)) → AppendsFront mid new (f (get_or xs i d))
    → AppendsFront old new (flat_map f xs)
piece_failed f xs i d old mid new l is front =
    subst (AppendsFront old new) (sym (pieces_split f xs i d l))
    (front_behind old mid new (flat_map f (take i xs)) (f (get_or xs i d)) (flat_map f (drop (suc i) xs)) is front)

pub pieces_done : {X : Type 0} (f : X → List ℕ) (xs : List X) (i : ℕ) (old mid : Option (List ℕ)) → length xs ≤ i → mid ≡ appended old (flat_map f (take i xs))
    → mid ≡ appended old (flat_map f xs)
pieces_done f xs i old mid le is = is ∙ ap (λ t. appended old (flat_map f t)) (take_all i xs le)

-- a piece that was cut short cuts all of them short
pub pieces_stopped : {X : Type 0} (f : X → List ℕ) (xs : List X) (i : ℕ) (d : X) (old mid new : Option (List ℕ)) (before between after : ℕ) (end : PutEnd)
    → (end ≡ Done → ⊥) → i < length xs → mid ≡ appended old (flat_map f (take i xs)) → between ≡ before
    → IsPut (f (get_or xs i d)) (shown_by mid new between after) end → IsPut (flat_map f xs) (shown_by old new before after) end
pieces_stopped f xs i d old mid new before between after Done stopped l is quiet put = absurd (stopped refl)
pieces_stopped f xs i d old mid new before between after Failed stopped l is quiet put =
    (subst (λ (b : ℕ). RoseOrFull b after) quiet put.0, piece_failed f xs i d old mid new l is put.1)
pieces_stopped f xs i d old mid new before between after OutOfMemory stopped l is quiet put = (put.0 ∙ quiet, piece_failed f xs i d old mid new l is put.1)

-- ---- the ends of puts
pub put_nothing : (text : List ℕ) (old : Option (List ℕ)) (before : ℕ) → IsPut text (shown_by old old before before) OutOfMemory
put_nothing text old before = (refl, AppendsFront-none old text)

-- a text that is put behind another
pub put_behind : (a b : List ℕ) (old mid new : Option (List ℕ)) (before between after : ℕ) (end : PutEnd) → mid ≡ appended old a → between ≡ before
    → IsPut b (shown_by mid new between after) end → IsPut (a ++ b) (shown_by old new before after) end
put_behind a b old mid new before between after Done is quiet put = (put.0 ∙ quiet, put.1 ∙ ap (λ m. appended m b) is ∙ appended-append old a b)
put_behind a b old mid new before between after Failed is quiet put =
    (subst (λ (b : ℕ). RoseOrFull b after) quiet put.0, AppendsFront-after old mid new a b is put.1)
put_behind a b old mid new before between after OutOfMemory is quiet put = (put.0 ∙ quiet, AppendsFront-after old mid new a b is put.1)

-- what one put says
pub put_is : (text bytes : List ℕ) (old new : Option (List ℕ)) (before after : ℕ) (end : PutEnd) → bytes ≡ text
    → OnDone end (new ≡ appended old bytes) → OnPutFailed end (AppendsFront old new bytes) → OnPutOutOfMemory end (new ≡ old)
    → OnPutFailed end (RoseOrFull before after) → UnlessPutFailed end (after ≡ before)
    → IsPut text (shown_by old new before after) end
put_is text bytes old new before after Done same done front nothing rose quiet = (quiet, done ∙ ap (appended old) same)
put_is text bytes old new before after Failed same done front nothing rose quiet = (rose, subst (AppendsFront old new) same front)
put_is text bytes old new before after OutOfMemory same done front nothing rose quiet = (quiet, front_unchanged old new text nothing)

-- the same where the put was cut short and more was to follow
pub put_stopped : (text bytes rest : List ℕ) (old new : Option (List ℕ)) (before after : ℕ) (end : PutEnd) → (end ≡ Done → ⊥) → bytes ≡ text
    → OnPutFailed end (AppendsFront old new bytes) → OnPutOutOfMemory end (new ≡ old) → OnPutFailed end (RoseOrFull before after)
    → UnlessPutFailed end (after ≡ before) → IsPut (text ++ rest) (shown_by old new before after) end
put_stopped text bytes rest old new before after Done stopped same front nothing rose quiet = absurd (stopped refl)
put_stopped text bytes rest old new before after Failed stopped same front nothing rose quiet =
    (rose, AppendsFront-more old new text rest (subst (AppendsFront old new) same front))
put_stopped text bytes rest old new before after OutOfMemory stopped same front nothing rose quiet = (quiet, front_unchanged old new (text ++ rest) nothing)

-- ---- a text that is put front by front

-- what was put of a text: a front of it, after which the rest is due
pub record IsPutSoFar (text rest : List ℕ) (old mid : Option (List ℕ)) (before between : ℕ) : Type 0 where
  pub done : List ℕ
  pub parts : text ≡ done ++ rest
  pub written : mid ≡ appended old done
  pub quiet : between ≡ before

pub put_begun : (text : List ℕ) (old : Option (List ℕ)) (before : ℕ) → IsPutSoFar text text old old before before
put_begun text old before = record { done = []; parts = refl; written = sym (appended-[] old); quiet = refl }

pub put_on : (text rest line more : List ℕ) (old mid new : Option (List ℕ)) (before between after : ℕ) → IsPutSoFar text rest old mid before between
    → rest ≡ line ++ more → new ≡ appended mid line → after ≡ between
    → IsPutSoFar text more old new before after
put_on text rest line more old mid new before between after so_far cut put quiet = record {
  done = so_far.done ++ line;
  parts = so_far.parts ∙ ap (λ t. so_far.done ++ t) cut ∙ sym (append_assoc so_far.done line more);
  written = put ∙ ap (λ m. appended m line) so_far.written ∙ appended-append old so_far.done line;
  quiet = quiet ∙ so_far.quiet;
}

pub put_cut_off : (text rest line more : List ℕ) (old mid new : Option (List ℕ)) (before between after : ℕ) (end : PutEnd)
    → IsPutSoFar text rest old mid before between → rest ≡ line ++ more → (end ≡ Done → ⊥)
    → OnPutFailed end (AppendsFront mid new line) → OnPutOutOfMemory end (new ≡ mid) → OnPutFailed end (RoseOrFull between after)
    → UnlessPutFailed end (after ≡ between) → IsPut text (shown_by old new before after) end
put_cut_off text rest line more old mid new before between after end so_far cut stopped front nothing rose quiet =
    subst (λ (t : List ℕ). IsPut t (shown_by old new before after) end) (sym (so_far.parts ∙ ap (λ t. so_far.done ++ t) cut))
    (put_behind so_far.done (line ++ more) old mid new before between after end so_far.written so_far.quiet
    (put_stopped line line more mid new between after end stopped refl front nothing rose quiet))

pub put_whole : (text rest : List ℕ) (old mid : Option (List ℕ)) (before between : ℕ) → IsPutSoFar text rest old mid before between → rest ≡ []
    → IsPut text (shown_by old mid before between) Done
put_whole text rest old mid before between so_far none =
    (so_far.quiet, so_far.written ∙ ap (appended old) (sym (append-nil so_far.done) ∙ ap (λ t. so_far.done ++ t) (sym none) ∙ sym so_far.parts))
