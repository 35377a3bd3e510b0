-- The loop of the visits.
use Rattle.std.specs.Prelude.{Bool, true, false, Result, Ok, Err, OnOk, OnErr, ◌≡◌, ◌⊎◌, ℕ, ℤ, zero, suc, ◌+◌, ◌-◌, ◌<◌, ◌≤◌, List, [], ◌∷◌, ◌++◌, length}
use Rattle.std.specs.Prelude.{Option, Some, None, slice_get, slice_index_or}
use Rattle.std.proofs.Common.{arith, sym, ◌∙◌, ap, ap₂, refl, subst, inl, inr, append_assoc, append-nil, length-append, get_or-append-add}
use Rattle.std.proofs.lemmas.Option.{get_or_from_slice_get}
use Rattle.std.proofs.lemmas.List.Elements.{All-nil, All-cons, All-head, All-tail, All-get_or}
use Rattle.std.specs.List.{All}
use Rattle.std.specs.Result.{is_err}
use Rattle.symmetric_matrix.specs.Symmetric.{Symmetric}
use Rattle.perfect_walk.specs.declared.journal.Visit.{Visit}
use Rattle.perfect_walk.specs.declared.journal.Step.{Step}
use Rattle.perfect_walk.specs.declared.journal.Step.TheVariants as step
use Rattle.perfect_walk.specs.declared.journal.Journal.{Journal}
use Rattle.perfect_walk.specs.declared.journal.End.{End}
use Rattle.perfect_walk.specs.declared.journal.End.TheVariants as end
use Rattle.perfect_walk.specs.declared.journal.Walked.{Walked}
use Rattle.perfect_walk.specs.declared.walking.Trail.{Trail}
use Rattle.perfect_walk.specs.declared.walking.Turned.{Turned}
use Rattle.perfect_walk.specs.declared.walking.Turned.TheVariants as turned
use Rattle.perfect_walk.specs.States.{Task, WalkState, search_target_at}
use Rattle.perfect_walk.specs.Next.{Moved}
use Rattle.perfect_walk.specs.Chains.{IsWalkStep, IsWalkRun, at_visit, start_visit, start_state}
use Rattle.perfect_walk.specs.Ends.{IsWalkedTo}
use Rattle.perfect_walk.specs.Parts.{task, IsHeld, IsLess, AreLess, IsPart, IsNextHeld, IsReached}
use Rattle.perfect_walk.proofs.Runs.{run_none, run_one, run_append}

-- ---- lists
all_more : (P : Visit → Type 0) (xs : List Visit) (x : Visit) → All P xs → P x → All P (xs ++ x ∷ [])
all_more P [] x h k = All-cons P x [] k (All-nil P)
all_more P (y ∷ ys) x h k = All-cons P y (ys ++ x ∷ []) (All-head P y ys h) (all_more P ys x (All-tail P y ys h) k)

less_more : (s : Symmetric) (before : List Visit) (v w : Visit) → AreLess s (before ++ v ∷ []) → IsLess s v w → AreLess s ((before ++ v ∷ []) ++ w ∷ [])
less_more s [] v w h k = (k, tt)
less_more s (x ∷ []) v w h k = (h.0, (k, tt))
less_more s (x ∷ y ∷ ys) v w h k = (h.0, less_more s (y ∷ ys) v w h.1 k)

last_of : (before : List Visit) (v w : Visit) (xs : List Visit) (k : ℕ) → xs ≡ before ++ v ∷ [] → k + 1 ≡ length xs → slice_get xs k ≡ Some w → w ≡ v
last_of before v w xs k e n h =
    let size : length xs ≡ length before + 1 = ap (λ (xs : List Visit). length xs) e ∙ length-append before (v ∷ []) in
    let here : k ≡ length before + 0 = omega arith in
    sym (get_or_from_slice_get xs k w v h) ∙ ap₂ (λ (xs : List Visit) (k : ℕ). slice_index_or xs k v) e here ∙ get_or-append-add before (v ∷ []) 0 v

module _ (T : Task) (limit : ℕ) where
  -- ---- the start
  pub reached_start : (v : Visit) (visited : List Visit) (trail : Trail) → v ≡ start_visit T.s.size → IsHeld T.s.size v → visited ≡ v ∷ [] → trail.steps ≡ []
      → trail.searched ≡ None → IsReached T limit visited trail
  reached_start v visited trail is held visits steps searched = record {
    targets = [];
    before = [];
    last = start_visit T.s.size;
    visits = visits ∙ ap (λ (v : Visit). v ∷ []) is;
    is_last = visits ∙ ap (λ (v : Visit). v ∷ []) is;
    run = subst (λ (x : Option Symmetric). IsWalkRun T (start_state T.s.size) [] trail.steps (at_visit (start_visit T.s.size) x)) (sym searched)
        (subst (λ (xs : List Step). IsWalkRun T (start_state T.s.size) [] xs (start_state T.s.size)) (sym steps) (run_none T (start_state T.s.size)));
    within = subst (λ (xs : List Step). length xs ≤ limit) (sym steps) (omega arith);
    held = subst (λ (vs : List Visit). All (IsHeld T.s.size) vs) (sym visits) (All-cons (IsHeld T.s.size) v [] held (All-nil (IsHeld T.s.size)));
    less = subst (λ (vs : List Visit). AreLess T.s vs) (sym visits) tt;
  }

  module _ (visited : List Visit) (trail new : Trail) (R : IsReached T limit visited trail) where
    -- the steps up to the end of a part
    part_run : (left : Turned) → (P : IsPart T limit (at_visit R.last trail.searched) trail new left)
        → IsWalkRun T (start_state T.s.size) R.targets new.steps P.state
    part_run left P =
        subst (λ (xs : List Step). IsWalkRun T (start_state T.s.size) R.targets xs P.state) (sym P.steps)
        (subst (λ (vs : List Visit). IsWalkRun T (start_state T.s.size) vs (trail.steps ++ P.added) P.state) (append-nil R.targets)
        (run_append T (start_state T.s.size) (at_visit R.last trail.searched) P.state R.targets [] trail.steps P.added R.run P.run))

    -- the end of the walk
    pub reached_end : (e : End) → IsPart T limit (at_visit R.last trail.searched) trail new (turned.Ended e)
        → IsWalkedTo T limit (record { end = e; journal = record { visited = visited; steps = new.steps; searched = new.searched } })
    reached_end e P = record
        { state = P.state; chain = record { targets = R.targets; visits = R.visits; run = part_run (turned.Ended e) P }; within = P.within; is_end = P.ends }

    -- a Move that is refused for want of memory
    pub reached_memory : (w : Visit) → IsPart T limit (at_visit R.last trail.searched) trail new (turned.Moved w)
        → (now : List Visit) → now ≡ visited → (steps : List Step) → steps ≡ new.steps
        → IsWalkedTo T limit (record { end = end.OutOfMemory; journal = record { visited = now; steps = steps; searched = new.searched } })
    reached_memory w P now kept steps same = subst
        (λ (vs : List Visit). IsWalkedTo T limit
        (record { end = end.OutOfMemory; journal = record { visited = vs; steps = steps; searched = new.searched } })) (sym kept) (subst
        (λ (steps : List Step). IsWalkedTo T limit
        (record { end = end.OutOfMemory; journal = record { visited = visited; steps = steps; searched = new.searched } })) (sym same) record {
          state = P.state;
          chain = record { targets = R.targets; visits = R.visits; run = part_run (turned.Moved w) P };
          within = P.within;
          is_end = inr (inr record
              { memory = refl; searched_is = inr record { answer = _; search = P.ends.move.search; owes = P.ends.owes; searched_is = P.ends.searched } });
        })

    -- the Move
    pub reached_move : (w : Visit) → IsPart T limit (at_visit R.last trail.searched) trail new (turned.Moved w) → IsNextHeld T.s R.last (turned.Moved w)
        → (now : List Visit) (steps : List Step) → now ≡ visited ++ w ∷ [] → steps ≡ new.steps ++ step.Move ∷ []
        → IsReached T limit now (record { steps = steps; searched = new.searched })
    reached_move w P H now steps visits moved = record {
      targets = R.targets ++ w ∷ [];
      before = visited;
      last = w;
      visits = visits ∙ ap (λ (vs : List Visit). vs ++ w ∷ []) R.visits;
      is_last = visits;
      run = subst (λ (xs : List Step). IsWalkRun T (start_state T.s.size) (R.targets ++ w ∷ []) xs (at_visit w new.searched)) (sym moved)
          (run_append T (start_state T.s.size) P.state (at_visit w new.searched) R.targets (w ∷ []) new.steps (step.Move ∷ []) (part_run (turned.Moved w) P)
          (run_one T P.state (at_visit w new.searched) step.Move record {
            next = Moved w;
            is_next = P.ends.move;
            owes = P.ends.owes;
            made = refl;
            leads = ap (λ (x : Option Symmetric). at_visit w x) P.ends.searched;
          }));
      within = let a = length-append new.steps (step.Move ∷ []) in let b = ap (λ (xs : List Step). length xs) moved in let l = P.ends.left in omega arith;
      held = subst (λ (vs : List Visit). All (IsHeld T.s.size) vs) (sym visits) (all_more (IsHeld T.s.size) visited w R.held H.0);
      less = subst (λ (vs : List Visit). AreLess T.s vs) (sym (visits ∙ ap (λ (vs : List Visit). vs ++ w ∷ []) R.is_last))
          (less_more T.s R.before R.last w (subst (λ (vs : List Visit). AreLess T.s vs) R.is_last R.less) H.1);
    }

    -- each visit makes steps
    pub steps_grow : (w : Visit) → IsPart T limit (at_visit R.last trail.searched) trail new (turned.Moved w) → (steps : List Step)
        → steps ≡ new.steps ++ step.Move ∷ [] → limit - length steps < limit - length trail.steps
    steps_grow w P steps moved =
        let a = length-append new.steps (step.Move ∷ []) in let b = ap (λ (xs : List Step). length xs) moved in let l = P.ends.left in
        let c = length-append trail.steps P.added in let d = ap (λ (xs : List Step). length xs) P.steps in omega arith

-- the last visit, as the loop reads it
pub last_is : (T : Task) (limit : ℕ) (visited : List Visit) (trail : Trail) (R : IsReached T limit visited trail) (w : Visit) (k : ℕ) → k + 1 ≡ length visited
    → slice_get visited k ≡ Some w → w ≡ R.last
last_is T limit visited trail R w k n h = last_of R.before R.last w visited k R.is_last n h

pub some_visits : (T : Task) (limit : ℕ) (visited : List Visit) (trail : Trail) → IsReached T limit visited trail → 1 ≤ length visited
some_visits T limit visited trail R = let a = ap (λ (vs : List Visit). length vs) R.is_last in let b = length-append R.before (R.last ∷ []) in omega arith

pub part_at : (T : Task) (limit : ℕ) (v w : Visit) (x : Option Symmetric) (old new : Trail) (left : Turned) → v ≡ w
    → IsPart T limit (at_visit v x) old new left → IsPart T limit (at_visit w x) old new left
part_at T limit v w x old new left e P = subst (λ (v : Visit). IsPart T limit (at_visit v x) old new left) e P

pub next_at : (s : Symmetric) (v w : Visit) (left : Turned) → v ≡ w → IsNextHeld s v left → IsNextHeld s w left
next_at s v w left e P = subst (λ (v : Visit). IsNextHeld s v left) e P

-- the same end of the walk under another name of d
pub walked_as : (s : Symmetric) (d e : ℤ) (depth limit : ℕ) (v w : Walked) → d ≡ e → w ≡ v
    → IsWalkedTo (task s d depth) limit v → IsWalkedTo (task s e depth) limit w
walked_as s d e depth limit v w same is W =
    subst (λ (w : Walked). IsWalkedTo (task s e depth) limit w) (sym is) (subst (λ (d : ℤ). IsWalkedTo (task s d depth) limit v) same W)

-- ---- what an answer says, where it is one of success or not
pub on_ok_of : {V E : Type 0} (P : Type 0) (r : Result V E) → false ≡ is_err r → OnOk r P → P
on_ok_of P (Ok v) h k = k
on_ok_of P (Err e) h k = absurd cc

pub on_err_of : {V E : Type 0} (P : Type 0) (r : Result V E) → true ≡ is_err r → OnErr r P → P
on_err_of P (Ok v) h k = absurd cc
on_err_of P (Err e) h k = k
