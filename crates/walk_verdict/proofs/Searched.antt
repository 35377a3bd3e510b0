-- Each visit of a chain would be found copositive by a search for a value below 0, to the depth of the walk: the first
-- one has a closed root, and each other one was found by a search for the least value, whose tree is the same.
use Rattle.std.specs.Prelude.{◌⊎◌, ℕ, ℤ, pos, ◌≤ℤ◌, List, [], ◌∷◌, ◌++◌}
use Rattle.std.specs.List.{All}
use Rattle.std.proofs.Common.{arith, sym, refl, subst, inl, inr}
use Rattle.std.proofs.lemmas.Int.{ints}
use Rattle.std.proofs.lemmas.List.Elements.{All-nil, All-cons, All-append, All-head, All-tail}
use Rattle.commutative_ring.proofs.SmallCases.{low_or_positive}
use Rattle.unimodular_cone.specs.declared.Mode.{Mode}
use Rattle.unimodular_cone.specs.Paths.{Path}
use Rattle.unimodular_cone.specs.Tree.{IsClosedAt}
use Rattle.unimodular_cone.specs.Answer.{Copositive, Found, IsSearchAnswer, IsClosedAnswer}
use Rattle.symmetric_matrix.specs.Symmetric.{Symmetric, entry}
use Rattle.perfect_walk.specs.declared.journal.Visit.{Visit}
use Rattle.perfect_walk.specs.declared.journal.Step.{Step}
use Rattle.perfect_walk.specs.States.{Task, WalkState, search_target_at}
use Rattle.perfect_walk.specs.Next.{Next, ByMatrix, Exchanged, Factored, ByRay, Tightened, Moved, Undecided, TooWide, BoundTooWide, ComesNext, IsMoveTo}
use Rattle.perfect_walk.specs.Chains.{IsWalkRun, IsChain, after, entered, start_state}
use Rattle.perfect_walk.specs.declared.journal.Journal.{Journal}
use Rattle.walk_verdict.proofs.FirstSearch.{first_is_copositive}

module _ (n : ℕ) (q : ℕ → ℕ → ℤ) (depth : ℕ) (b : ℤ) (A : IsClosedAnswer Mode.Least n q depth b) where
  positive : pos 1 ≤ℤ b
  positive = by (low_or_positive b)
    where
      by : ((b ≤ℤ pos 0) ⊎ (pos 1 ≤ℤ b)) → pos 1 ≤ℤ b
      by (inr h) = h
      by (inl h) =
          let a = A.is_bound.attained in
          absurd (A.clear.none_low a.0 a.2 (a.1, a.3, (let e = a.4 in grind (arith, ints))))

  closed_at_none : (path : Path) → IsClosedAt n q path b → IsClosedAt n q path (pos 0)
  closed_at_none path h i l = let a = h i l in let p = positive in grind (arith, ints)

  closed_sign : IsClosedAnswer Mode.Sign n q depth (pos 0)
  closed_sign = record {
    clear = record {
      bound_fits = tt;
      root_fits = A.clear.root_fits;
      none_low = λ path within low. A.clear.none_low path within (low.0, low.1, (let l = low.2 in grind (arith, ints)));
    };
    is_bound = refl;
    none_open = λ path h. A.none_open path record {
      in_tree = h.in_tree;
      ends = h.ends;
      itself = λ closed. h.itself (closed_at_none path closed);
      above = λ a above closed. h.above a above (closed_at_none a closed);
    };
  }

found_is_copositive : (n : ℕ) (q : ℕ → ℕ → ℤ) (depth : ℕ) (b : ℤ) (vectors : List (List ℕ)) → IsSearchAnswer Mode.Least n q depth (Found b vectors)
    → IsSearchAnswer Mode.Sign n q depth Copositive
found_is_copositive n q depth b vectors h = (refl, closed_sign n q depth b h.1)

-- ---- the last visit of a run
module _ (T : Task) where
  visit_after : (P : Visit → Type 0) (σ : WalkState) (next : Next) → P σ.visit → All P (entered next) → P (after T σ next).visit
  visit_after P σ ByMatrix h k = h
  visit_after P σ (Exchanged e) h k = h
  visit_after P σ (Factored f) h k = h
  visit_after P σ ByRay h k = h
  visit_after P σ (Tightened t) h k = h
  visit_after P σ (Moved v) h k = All-head P v [] k
  visit_after P σ (Undecided path) h k = h
  visit_after P σ (TooWide g) h k = h
  visit_after P σ (BoundTooWide z) h k = h

  front : (P : Visit → Type 0) (vs ws : List Visit) → All P (vs ++ ws) → (All P vs × All P ws)
  front P [] ws h = (All-nil P, h)
  front P (v ∷ vs) ws h =
      let r = front P vs ws (All-tail P v (vs ++ ws) h) in
      (All-cons P v vs (All-head P v (vs ++ ws) h) r.0, r.1)

  pub last_visit : (P : Visit → Type 0) (σ τ : WalkState) (vs : List Visit) (xs : List Step) → IsWalkRun T σ vs xs τ → P σ.visit → All P vs → P τ.visit
  last_visit P σ τ vs [] h p a = subst (λ (ρ : WalkState). P ρ.visit) (sym h.1) p
  last_visit P σ τ vs (x ∷ xs) (ρ, ws, s, e, h) p a =
      let parts = front P (entered s.next) ws (subst (λ (vs : List Visit). All P vs) e a) in
      last_visit P ρ τ ws xs h (subst (λ (ρ : WalkState). P ρ.visit) (sym s.leads) (visit_after P σ s.next p parts.0)) parts.1

  -- ---- a search of its matrix for a value below 0
  pub record IsSeenCopositive (v : Visit) : Type 0 where
    pub search : IsSearchAnswer Mode.Sign v.matrix.size (entry v.matrix) T.depth Copositive

  moved_to : (σ : WalkState) (v : Visit) → IsMoveTo T σ v → IsSeenCopositive v
  moved_to σ v M = record {
    search = subst (λ (q : Symmetric). IsSearchAnswer Mode.Sign q.size (entry q) T.depth Copositive) (sym M.matrix_is)
        (found_is_copositive (search_target_at T σ).size (entry (search_target_at T σ)) T.depth v.mu v.vectors (
          refl,
          subst (λ (m : Mode). IsClosedAnswer m (search_target_at T σ).size (entry (search_target_at T σ)) T.depth v.mu) M.search.answers.0 M.search.answers.1,
          M.search.answers.2,
        ));
  }

  entered_seen : (σ : WalkState) (next : Next) → ComesNext T σ next → All IsSeenCopositive (entered next)
  entered_seen σ ByMatrix h = All-nil IsSeenCopositive
  entered_seen σ (Exchanged e) h = All-nil IsSeenCopositive
  entered_seen σ (Factored f) h = All-nil IsSeenCopositive
  entered_seen σ ByRay h = All-nil IsSeenCopositive
  entered_seen σ (Tightened t) h = All-nil IsSeenCopositive
  entered_seen σ (Moved v) h = All-cons IsSeenCopositive v [] (moved_to σ v h) (All-nil IsSeenCopositive)
  entered_seen σ (Undecided path) h = All-nil IsSeenCopositive
  entered_seen σ (TooWide g) h = All-nil IsSeenCopositive
  entered_seen σ (BoundTooWide z) h = All-nil IsSeenCopositive

  run_seen : (σ τ : WalkState) (vs : List Visit) (xs : List Step) → IsWalkRun T σ vs xs τ → All IsSeenCopositive vs
  run_seen σ τ vs [] h = subst (λ (vs : List Visit). All IsSeenCopositive vs) (sym h.0) (All-nil IsSeenCopositive)
  run_seen σ τ vs (x ∷ xs) (ρ, ws, s, e, h) =
      subst (λ (vs : List Visit). All IsSeenCopositive vs) (sym e)
      (All-append IsSeenCopositive (entered s.next) ws (entered_seen σ s.next s.is_next) (run_seen ρ τ ws xs h))

  pub last_seen : (journal : Journal) (σ : WalkState) → IsChain T journal σ → IsSeenCopositive σ.visit
  last_seen journal σ c =
      last_visit IsSeenCopositive (start_state T.s.size) σ c.targets journal.steps c.run record { search = first_is_copositive T.s.size T.depth }
      (run_seen (start_state T.s.size) σ c.targets journal.steps c.run)
