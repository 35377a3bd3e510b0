-- What the answers on the way along a ray make of the walk.
use Rattle.std.specs.Prelude.{◌≡◌, ◌≢◌, ℕ, zero, suc, ◌+◌, ◌<◌, ◌≤◌, ℤ, pos, Bool, true, ◌⊎◌, List, [], ◌∷◌, ◌++◌, map, length, Option, Some, None}
use Rattle.std.specs.Prelude.{if◌then◌else◌, nat_eq}
use Rattle.std.proofs.Common.{arith, sym, ◌∙◌, ap, ap₂, refl, subst, inl, inr, length-append, eq-eqb}
use Rattle.std.proofs.lemmas.List.{length-map}
use Rattle.commutative_ring.proofs.SmallCases.{test_of_apart}
use Rattle.symmetric_matrix.specs.Owed.{first_owed}
use Rattle.symmetric_matrix.specs.Symmetric.{Symmetric, entry}
use Rattle.unimodular_cone.specs.declared.Mode.{Mode}
use Rattle.unimodular_cone.specs.declared.WideAt.{WideAt}
use Rattle.unimodular_cone.specs.Answer.{SearchAnswer, BoundWide, Wide, Low, Depth, Copositive, Found, IsSearchAnswer}
use Rattle.exact_lp.specs.declared.placed.Exchange.{Exchange}
use Rattle.contiguous.specs.declared.neighbour.Tighten.{Tighten}
use Rattle.contiguous.specs.declared.neighbour.NeighbourOp.{NeighbourOp}
use Rattle.contiguous.specs.declared.neighbour.NeighbourOp.TheVariants as op
use Rattle.contiguous.specs.declared.neighbour.Neighbour.{Neighbour}
use Rattle.contiguous.specs.declared.neighbour.Neighbour.TheVariants as neighbour
use Rattle.contiguous.specs.Tightenings.{Line, candidate, level, tighten_of, tighten_ops, neighbour_is_owed, IsNextVector, last_tighten, IsRunAlong}
use Rattle.contiguous.specs.Tightenings.{IsCandidateAnswer, IsFoundAnswer, IsVectorDue, IsOperationOwed, IsTightenRefused, IsWideAnswer, IsNeighbourAnswer}
use Rattle.contiguous.specs.Tightenings.{searched_after}
use Rattle.perfect_walk.specs.declared.journal.Visit.{Visit}
use Rattle.perfect_walk.specs.declared.journal.Owed.{Owed}
use Rattle.perfect_walk.specs.declared.journal.Step.{Step}
use Rattle.perfect_walk.specs.declared.journal.Step.TheVariants as step
use Rattle.perfect_walk.specs.declared.journal.End.{End}
use Rattle.perfect_walk.specs.declared.journal.End.TheVariants as end
use Rattle.perfect_walk.specs.declared.walking.Trail.{Trail}
use Rattle.perfect_walk.specs.declared.walking.Turned.{Turned}
use Rattle.perfect_walk.specs.declared.walking.Turned.TheVariants as turned
use Rattle.perfect_walk.specs.Operations.{first_owed_of, of_neighbour}
use Rattle.perfect_walk.specs.States.{Task, WalkState, ray_at, line_at, search_target_at, level_at, rayed_ops, search_ops, tightening_ops}
use Rattle.perfect_walk.specs.Next.{Next, Tightened, Moved, Undecided, TooWide, BoundTooWide, ComesNext, IsAtRay, IsSearchAt, IsCalledFor, IsMoveTo}
use Rattle.perfect_walk.specs.Chains.{IsWalkRun, step_of, searched_with}
use Rattle.perfect_walk.specs.Ends.{due_ops, walk_end_of, IsWalkEnd, IsEndByNext, IsOwedAt, Tightening}
use Rattle.perfect_walk.specs.Parts.{IsPart, IsTurned, IsMoveDue, IsEndedAfter, IsTurnedTo, or_ray}
use Rattle.perfect_walk.proofs.Owes.{owes_then, neighbour_some}
use Rattle.perfect_walk.proofs.RayParts.{part_end, due_none}
use Rattle.perfect_walk.proofs.Tightening.{along, l as line_of, search_after, level_after, target_after, called_after, search_none, tightens_run}

-- ---- parts of the walk without a step
pub part_memory : (T : Task) (limit : ℕ) (σ : WalkState) (old new : Trail) (left : Turned) → length old.steps ≤ limit → old.searched ≡ σ.searched
    → new.steps ≡ old.steps → new.searched ≡ old.searched → left ≡ turned.Ended end.OutOfMemory → IsPart T limit σ old new left
part_memory T limit σ old new left within searched steps same is = part_end T limit σ old new end.OutOfMemory left within steps
    (inr (inr (record { memory = refl; searched_is = inl (same ∙ searched) }))) is

-- ---- the last Tighten
none_is : (ts : List Tighten) → last_tighten ts ≡ None → ts ≡ []
unfolding last_tighten
none_is [] e = refl
none_is (t ∷ []) e = absurd cc
none_is (t ∷ u ∷ us) e = absurd (let k = none_is (u ∷ us) e in cc)

vector_of : (l : Line) (w : List ℕ) → w ≡ (tighten_of l w).vector
unfolding tighten_of
vector_of l w = refl

-- the matrix that was searched before does not matter
module _ (T : Task) (v : Visit) (es : List Exchange) (x y : Option Symmetric) where
  at_ray_same : IsAtRay T (along T v es [] x) → IsAtRay T (along T v es [] y)
  at_ray_same h = record {
    placing = record { tightens = refl; met = λ e. h.placing.met e };
    outside = record { not_last = h.outside.not_last; none = h.outside.none; rule = h.outside.rule };
    is_ray = h.is_ray;
    is_extreme = h.is_extreme;
    separates = h.separates;
  }

  called_same : (w : List ℕ) → IsCalledFor T (along T v es [] x) w → IsCalledFor T (along T v es [] y) w
  called_same w h = record
      { answer = h.answer; is_answer = record { at_ray = λ n. at_ray_same (h.is_answer.at_ray n); answers = h.is_answer.answers }; calls = h.calls }

-- ---- the searches on the way
module _ (T : Task) (limit : ℕ) (v : Visit) (es : List Exchange) (x : Option Symmetric) (w : List ℕ) (budget : ℕ) (old new : Trail)
    (called : IsCalledFor T (along T v es [] x) w) (rayed : first_owed_of (rayed_ops T (along T v es [] x)) ≡ None)
    (within : length old.steps + budget ≡ limit) (before : old.searched ≡ x) where
  abbrev l : Line
  l = line_of T v es

  abbrev at : List Tighten → Option Symmetric → WalkState
  at ts y = along T v es ts y

  count : (ts : List Tighten) → new.steps ≡ old.steps ++ map step.Tighten ts → length new.steps ≡ length old.steps + length ts
  count ts e = ap (λ (xs : List Step). length xs) e ∙ length-append old.steps (map step.Tighten ts)
      ∙ ap (λ (n : ℕ). length old.steps + n) (length-map ts step.Tighten)

  no_more : (ts : List Tighten) → new.steps ≡ old.steps ++ map step.Tighten ts → length ts ≤ budget → length new.steps ≤ limit
  no_more ts e h = let c = count ts e in omega arith

  -- an end by a search of the candidate
  searched_end : (ts : List Tighten) (next : Next) (e : End) (y : Option Symmetric) → ComesNext T (at ts y) next → new.searched ≡ searched_with T (at ts y) next
      → e ≡ walk_end_of T (at ts y) next
      → ((step_of next ≡ None) ⊎ (length new.steps ≡ limit)) → first_owed_of (due_ops T (at ts y) (nat_eq (length new.steps) limit) next) ≡ None
      → IsWalkEnd T limit (at ts y) (length new.steps) new.searched e
  searched_end ts next e y is_next searched is used owes = inl
      (record { next = next; is_next = is_next; owes = owes; used = used; searched_is = searched; end_is = is })

  -- the part, from how it ends
  part_of : (ts : List Tighten) → IsRunAlong l T.depth w budget ts → new.steps ≡ old.steps ++ map step.Tighten ts → (left : Turned)
      → ((y : Option Symmetric) → IsTurned T limit (at ts y) new left) → IsPart T limit (at [] x) old new left
  part_of ts R steps left ends =
      let run = tightens_run T v es x w called rayed ts R.are R.owes in
      record { added = map step.Tighten ts; state = at ts run.0; steps = steps; run = run.1; within = no_more ts steps R.within; ends = ends run.0 }

  -- nothing was done
  memory_part : (left : Turned) → (new.steps ≡ old.steps) × (new.searched ≡ old.searched) × (left ≡ turned.Ended end.OutOfMemory)
      → IsPart T limit (at [] x) old new left
  memory_part left h = part_memory T limit (at [] x) old new left (omega arith) before h.0 h.1 h.2

  -- an end of the walk after the Tightens
  ended_part : (ts : List Tighten) (e : End) (searched : Option Symmetric) (left : Turned) → IsRunAlong l T.depth w budget ts
      → IsEndedAfter old new (map step.Tighten ts) searched e left
      → ((y : Option Symmetric) → new.steps ≡ old.steps ++ map step.Tighten ts → new.searched ≡ searched
      → IsWalkEnd T limit (at ts y) (length new.steps) new.searched e) → IsPart T limit (at [] x) old new left
  ended_part ts e searched left R (inl h) ends = part_of ts R h.0 left
      (λ y. subst (λ (left : Turned). IsTurned T limit (at ts y) new left) (sym h.2) (ends y h.0 h.1))
  ended_part ts e searched left R (inr h) ends = memory_part left h

  target_is : (ts : List Tighten) (y : Option Symmetric) (c : Symmetric) (a : SearchAnswer) → IsCandidateAnswer l T.depth ts c a
      → Some c ≡ Some (search_target_at T (at ts y))
  target_is ts y c a A = ap (λ (c : Symmetric). Some c) (A.candidate_is ∙ sym (target_after T v es ts y A.last A.is_last))

  search_is : (ts : List Tighten) (y : Option Symmetric) (c : Symmetric) (a : SearchAnswer) → IsCandidateAnswer l T.depth ts c a → IsSearchAt T (at ts y) a
  search_is ts y c a A = search_after T v es ts y A.last a A.is_last
      (subst (λ (c : Symmetric). IsSearchAnswer Mode.Least c.size (entry c) T.depth a) A.candidate_is A.answers)

  -- Depth
  pub depth_part : (ts : List Tighten) (c : Symmetric) (path : _) (left : Turned) → IsNeighbourAnswer l T.depth w budget (neighbour.Depth c path ts)
      → IsEndedAfter old new (map step.Tighten ts) (Some c) (end.Depth path) left → IsPart T limit (at [] x) old new left
  depth_part ts c path left A E = ended_part ts (end.Depth path) (Some c) left A.0 E (λ y steps searched.
      searched_end ts (Undecided path) (end.Depth path) y (search_is ts y c (Depth path) A.1) (searched ∙ target_is ts y c (Depth path) A.1) refl (inl refl)
      (due_none T (at ts y) (Undecided path) (nat_eq (length new.steps) limit) (search_none T v es x w called rayed ts y)
      (search_none T v es x w called rayed ts y)))

  -- what was searched last
  abbrev last_of : List Tighten → Symmetric
  last_of ts = or_ray (ray_at T (at [] x)) (searched_after l ts)

  last_is : (ts : List Tighten) (y : Option Symmetric) → last_of ts ≡ search_target_at T (at ts y)
  last_is ts y = by (last_tighten ts)
    where
      by : (o : Option Tighten) → or_ray (ray_at T (at [] x)) (elim o as (λ _. Option Symmetric) [ None ↦ None | Some t ↦ Some (candidate l t) ])
          ≡ elim o as (λ _. Symmetric) [ None ↦ ray_at T (at [] x) | Some t ↦ candidate l t ]
      by None = refl
      by (Some t) = refl

  -- the vector of the Tighten that is due
  pub called_at : (ts : List Tighten) (y : Option Symmetric) (u : List ℕ) → IsVectorDue l T.depth w ts u → IsCalledFor T (at ts y) u
  called_at ts y u h = by (last_tighten ts) refl h
    where
      by : (o : Option Tighten) → last_tighten ts ≡ o → elim o as (λ _. Type 0) [ None ↦ u ≡ w | Some t ↦ IsNextVector l T.depth t u ]
          → IsCalledFor T (at ts y) u
      by None e is = subst (λ (ts : List Tighten). IsCalledFor T (at ts y) u) (sym (none_is ts e))
          (subst (λ (u : List ℕ). IsCalledFor T (at [] y) u) (sym is) (called_same T v es x y w called))
      by (Some t) e next = called_after T v es ts y t u e next

  -- an operation of the next Tighten is owed
  owed_part : (ts : List Tighten) (o : NeighbourOp) (left : Turned) → IsRunAlong l T.depth w budget ts → IsOperationOwed l T.depth w budget ts o
      → IsEndedAfter old new (map step.Tighten ts) (Some (last_of ts)) (end.Overflow (of_neighbour o)) left → IsPart T limit (at [] x) old new left
  owed_part ts o left R O E = ended_part ts (end.Overflow (of_neighbour o)) (Some (last_of ts)) left R E (λ y steps searched.
      inr (inl (
        of_neighbour o,
        record {
          stage = Tightening O.vector;
          is_stage = (called_at ts y O.vector O.due, test_of_apart (length new.steps) limit (λ e. let c = count ts steps in let k = O.left in omega arith));
          owes = search_none T v es x w called rayed ts y;
          first = neighbour_some (tighten_ops l O.vector) o O.first;
          searched_is = searched ∙ ap (λ (c : Symmetric). Some c) (last_is ts y);
        },
        refl,
      )))

  -- Wide
  abbrev IsEndedWide : List Tighten → NeighbourOp → Turned → Option Symmetric → Type 0
  IsEndedWide ts o left c = IsEndedAfter old new (map step.Tighten ts) (Some (or_ray (last_of ts) c)) (end.Overflow (of_neighbour o)) left

  pub wide_part : (ts : List Tighten) (o : NeighbourOp) (c : Option Symmetric) (left : Turned) → IsNeighbourAnswer l T.depth w budget (neighbour.Wide o c ts)
      → IsEndedWide ts o left c → IsPart T limit (at [] x) old new left
  wide_part ts o c left A E = by o c E A.1
    where
      by : (o : NeighbourOp) (c : Option Symmetric) → IsEndedWide ts o left c → IsWideAnswer l T.depth w budget ts o c → IsPart T limit (at [] x) old new left
      by (op.Form u i) c E W = owed_part ts (op.Form u i) left A.0 W.0 (subst (λ (c : Option Symmetric). IsEndedWide ts (op.Form u i) left c) W.1 E)
      by (op.Scale i) c E W = owed_part ts (op.Scale i) left A.0 W.0 (subst (λ (c : Option Symmetric). IsEndedWide ts (op.Scale i) left c) W.1 E)
      by (op.Gram g) None E W = absurd W
      by (op.Gram g) (Some c) E W = ended_part ts (end.Overflow (of_neighbour (op.Gram g))) (Some c) left A.0 E (λ y steps searched.
          searched_end ts (TooWide g) (end.Overflow (of_neighbour (op.Gram g))) y (search_is ts y c (Wide g.path g.entry) W)
          (searched ∙ target_is ts y c (Wide g.path g.entry) W) refl (inl refl)
          (due_none T (at ts y) (TooWide g) (nat_eq (length new.steps) limit) (search_none T v es x w called rayed ts y)
          (search_none T v es x w called rayed ts y)))
      by (op.Bound z) None E W = absurd W
      by (op.Bound z) (Some c) E W = ended_part ts (end.Overflow (of_neighbour (op.Bound z))) (Some c) left A.0 E (λ y steps searched.
          searched_end ts (BoundTooWide z) (end.Overflow (of_neighbour (op.Bound z))) y (search_is ts y c (BoundWide z) W)
          (searched ∙ target_is ts y c (BoundWide z) W) refl (inl refl)
          (due_none T (at ts y) (BoundTooWide z) (nat_eq (length new.steps) limit) (search_none T v es x w called rayed ts y)
          (search_none T v es x w called rayed ts y)))

  -- the Tighten or the Move is refused
  used_true : length new.steps ≡ limit → nat_eq (length new.steps) limit ≡ true
  used_true e = eq-eqb (length new.steps) limit e

  refused_none : (ts : List Tighten) (y : Option Symmetric) (next : Next) → length new.steps ≡ limit → due_ops T (at ts y) true next ≡ search_ops T (at ts y)
      → first_owed_of (due_ops T (at ts y) (nat_eq (length new.steps) limit) next) ≡ None
  refused_none ts y next e is =
      ap (λ (b : Bool). first_owed_of (due_ops T (at ts y) b next)) (used_true e) ∙ ap (λ (ops : List Owed). first_owed_of ops) is
      ∙ search_none T v es x w called rayed ts y

  pub pivots_part : (ts : List Tighten) (left : Turned) → IsNeighbourAnswer l T.depth w budget (neighbour.Pivots ts)
      → IsEndedAfter old new (map step.Tighten ts) (Some (last_of ts)) end.Pivots left → IsPart T limit (at [] x) old new left
  pivots_part ts left A E = ended_part ts end.Pivots (Some (last_of ts)) left A.0 E (λ y steps searched.
      let used : length new.steps ≡ limit = let c = count ts steps in let k = A.1.used in omega arith in
      searched_end ts (Tightened (tighten_of l A.1.vector)) end.Pivots y (
        subst (λ (u : List ℕ). IsCalledFor T (at ts y) u) (vector_of l A.1.vector) (called_at ts y A.1.vector A.1.due),
        ap (λ (u : List ℕ). tighten_of l u)
            (vector_of l A.1.vector),
      )
      (searched ∙ ap (λ (c : Symmetric). Some c) (last_is ts y)) refl (inr used)
      (refused_none ts y (Tightened (tighten_of l A.1.vector)) used refl))

  -- Found
  move_of : (ts : List Tighten) (y : Option Symmetric) (c : Symmetric) (mu : ℤ) (found : List (List ℕ)) (V : Visit)
      → V ≡ record { matrix = c; mu = mu; vectors = found } → IsFoundAnswer l T.depth ts c mu found → IsMoveTo T (at ts y) V
  move_of ts y c mu found V e F = subst (λ (V : Visit). IsMoveTo T (at ts y) V) (sym e) record {
    search = search_is ts y c (Found mu found) F.search;
    at_level = F.at_level ∙ sym (level_after T v es ts y F.search.last F.search.is_last);
    matrix_is = F.search.candidate_is ∙ sym (target_after T v es ts y F.search.last F.search.is_last);
  }

  pub found_part : (ts : List Tighten) (c : Symmetric) (mu : ℤ) (found : List (List ℕ)) (V : Visit) (left : Turned)
      → V ≡ record { matrix = c; mu = mu; vectors = found }
      → IsNeighbourAnswer l T.depth w budget (neighbour.Found c mu found ts) → IsTurnedTo old new limit (map step.Tighten ts) V left
      → IsPart T limit (at [] x) old new left
  found_part ts c mu found V left is A (inr h) = memory_part left h
  found_part ts c mu found V left is A (inl h) = part_of ts A.0 h.0 left (λ y. by y h.2)
    where
      target_of : (y : Option Symmetric) → Some V.matrix ≡ Some (search_target_at T (at ts y))
      target_of y = ap (λ (c : Symmetric). Some c) ((move_of ts y c mu found V is A.1).matrix_is)

      by : (y : Option Symmetric) → (((left ≡ turned.Moved V) × (length new.steps ≢ limit)) ⊎ ((left ≡ turned.Ended end.Pivots) × (length new.steps ≡ limit)))
          → IsTurned T limit (at ts y) new left
      by y (inl k) = subst (λ (left : Turned). IsTurned T limit (at ts y) new left) (sym k.0) record {
        move = move_of ts y c mu found V is A.1;
        owes = search_none T v es x w called rayed ts y;
        left = let m = no_more ts h.0 A.0.within in let n = k.1 in omega arith;
        searched = h.1 ∙ target_of y;
      }
      by y (inr k) = subst (λ (left : Turned). IsTurned T limit (at ts y) new left) (sym k.0)
          (searched_end ts (Moved V) end.Pivots y (move_of ts y c mu found V is A.1) (h.1 ∙ target_of y) refl (inr k.1) (refused_none ts y (Moved V) k.1 refl))
