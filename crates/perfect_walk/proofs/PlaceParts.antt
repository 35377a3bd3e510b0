-- What the linear program makes of the walk.
use Rattle.std.specs.Prelude.{◌≡◌, ◌⊎◌, ℕ, ◌+◌, ◌≤◌, ◌<◌, ℤ, pos, ◌≤ℤ◌, Bool, true, false, List, [], ◌∷◌, ◌++◌, map, length, Option, Some, None, nat_eq}
use Rattle.std.specs.Prelude.{slice_index_or}
use Rattle.std.proofs.Common.{arith, sym, ◌∙◌, ap, ap₂, refl, subst, inl, inr, append_assoc, length-append, eq-eqb}
use Rattle.std.proofs.lemmas.List.{length-map}
use Rattle.commutative_ring.proofs.SmallCases.{same_of_test}
use Rattle.exact_forms.specs.Rational.{Rational}
use Rattle.exact_forms.specs.Copositive.{IsPerfect}
use Rattle.symmetric_matrix.specs.Symmetric.{Symmetric}
use Rattle.exact_lp.specs.declared.placed.Exchange.{Exchange}
use Rattle.exact_lp.specs.declared.placed.PlaceOp.{PlaceOp}
use Rattle.exact_lp.specs.declared.placed.Placed.{Placed}
use Rattle.exact_lp.specs.declared.placed.Placed.TheVariants as placed
use Rattle.exact_lp.specs.Rule.{entering}
use Rattle.exact_linear.specs.Tables.{or_zero}
use Rattle.exact_lp.specs.Placement.{Problem, firsts, table_after, exchange_of, IsStepDue, leg_ops, ops_within, first_owed_in, IsRun as IsPlaceRun}
use Rattle.exact_lp.specs.Placement.{IsPlaceAnswer, problem_of}
use Rattle.exact_lp.specs.Ruled.{IsRuled}
use Rattle.exact_lp.specs.Weights.{IsSound}
use Rattle.perfect_walk.specs.declared.journal.Limits.{Limits}
use Rattle.perfect_walk.specs.declared.journal.Owed.{Owed}
use Rattle.perfect_walk.specs.declared.journal.Visit.{Visit}
use Rattle.perfect_walk.specs.declared.journal.Step.{Step}
use Rattle.perfect_walk.specs.declared.journal.Step.TheVariants as step
use Rattle.perfect_walk.specs.declared.journal.End.{End}
use Rattle.perfect_walk.specs.declared.journal.End.TheVariants as end
use Rattle.perfect_walk.specs.declared.walking.Trail.{Trail}
use Rattle.perfect_walk.specs.declared.walking.Turned.{Turned}
use Rattle.perfect_walk.specs.declared.walking.Turned.TheVariants as turned
use Rattle.perfect_walk.specs.Operations.{first_owed_of, of_place}
use Rattle.perfect_walk.specs.States.{Task, WalkState, program_at, product_at, meeting_ops, leg_at, opening_at, inner_at, zeros_at, leaving_at}
use Rattle.perfect_walk.specs.Next.{Exchanged, Factored}
use Rattle.perfect_walk.specs.Chains.{IsWalkRun}
use Rattle.perfect_walk.specs.Ends.{due_ops, IsWalkEnd, Placing, placing_ops}
use Rattle.perfect_walk.specs.Parts.{IsPart, IsTurned, IsEndedAfter, IsFactoredBy, IsOutsideWith}
use Rattle.perfect_walk.proofs.Runs.{run_append}
use Rattle.perfect_walk.proofs.Owes.{owes_then, place_some}
use Rattle.perfect_walk.proofs.RayParts.{due_none}
use Rattle.perfect_walk.proofs.TightenEnds.{part_memory}
use Rattle.perfect_walk.proofs.Exchanging.{with_exchanges, meeting_none, is_placing, leg_at_none, opening_at_none, placed_run, placed_next}

-- where the linear program begins
pub record IsPlaceStart (T : Task) (v : Visit) (limit budget : ℕ) (old : Trail) : Type 0 where
  pub met : pos 0 ≤ℤ product_at T (with_exchanges T v old.searched [])
  pub owes : first_owed_of (inner_at v.matrix T.s) ≡ None
  pub some : 1 ≤ T.s.size
  pub sizes : (k : ℕ) → k < length v.vectors → length (slice_index_or v.vectors k []) ≡ T.s.size
  pub perfect : IsPerfect T.s.size v.vectors
  pub within : length old.steps + budget ≡ limit

module _ (T : Task) (v : Visit) (limit budget : ℕ) (old : Trail) (S : IsPlaceStart T v limit budget old) where
  abbrev p : Problem
  p = problem_of v.vectors T.s T.d

  abbrev pub at : List Exchange → WalkState
  at es = with_exchanges T v old.searched es

  count : (new : Trail) (es : List Exchange) → new.steps ≡ old.steps ++ map step.Exchange es → length new.steps ≡ length old.steps + length es
  count new es e = ap (λ (xs : List Step). length xs) e ∙ length-append old.steps (map step.Exchange es)
      ∙ ap (λ (n : ℕ). length old.steps + n) (length-map es step.Exchange)

  -- the two tests of whether a step is left are one
  same_test : (a k b m n : ℕ) → m ≡ a + k → n ≡ a + b → nat_eq k b ≡ nat_eq m n
  same_test a k b m n e f = by (nat_eq k b) (nat_eq m n) refl refl
    where
      by : (x y : Bool) → nat_eq k b ≡ x → nat_eq m n ≡ y → x ≡ y
      by true true g h = refl
      by true false g h = absurd (let i = same_of_test k b g in let j = eq-eqb m n (omega arith) in cc)
      by false true g h = absurd (let i = same_of_test m n h in let j = eq-eqb k b (omega arith) in cc)
      by false false g h = refl

  within_is : (σ : WalkState) (budget : ℕ) (b : Bool) (o : PlaceOp) → nat_eq (length σ.exchanges) budget ≡ b
      → first_owed_in (ops_within (program_at T σ) budget (length σ.exchanges)) ≡ Some o
      → first_owed_in (placing_ops T σ b) ≡ Some o
  unfolding ops_within
  within_is σ budget b o e h = subst (λ (b : Bool). first_owed_in (placing_ops T σ b) ≡ Some o) e h

  -- nothing was done
  pub memory_here : (new : Trail) (left : Turned) → new.steps ≡ old.steps → new.searched ≡ old.searched → left ≡ turned.Ended end.OutOfMemory
      → IsPart T limit (at []) old new left
  memory_here new left steps searched is = part_memory T limit (at []) old new left (let w = S.within in omega arith) refl steps searched is

  module _ (new : Trail) (es : List Exchange) (R : IsPlaceRun p budget es) where
    run : IsWalkRun T (at []) [] (map step.Exchange es) (at es)
    run = placed_run T v old.searched S.met S.owes S.some S.sizes S.perfect budget es R

    -- an end of the walk after the steps
    ended_part : (e : End) (left : Turned) → IsEndedAfter old new (map step.Exchange es) old.searched e left
        → (new.steps ≡ old.steps ++ map step.Exchange es → new.searched ≡ old.searched → IsWalkEnd T limit (at es) (length new.steps) new.searched e)
        → IsPart T limit (at []) old new left
    ended_part e left (inr h) ends = memory_here new left h.0 h.1 h.2
    ended_part e left (inl h) ends = record {
      added = map step.Exchange es;
      state = at es;
      steps = h.0;
      run = run;
      within = let c = count new es h.0 in let w = R.within in let b = S.within in omega arith;
      ends = subst (λ (left : Turned). IsTurned T limit (at es) new left) (sym h.2) (ends h.0 h.1);
    }

    -- Inside
    pub inside_part : (found : List Rational) (e : End) (left : Turned) → IsPlaceAnswer p budget (placed.Inside found es)
        → IsRuled v.vectors T.s T.d (placed.Inside found es) → IsSound T.s.size v.vectors T.s T.d (placed.Inside found es)
        → IsFactoredBy v.vectors found e → IsEndedAfter old new (map step.Exchange es) old.searched e left → IsPart T limit (at []) old new left
    inside_part found e left A L V F E = ended_part e left E (λ steps searched. by steps searched F)
      where
        by : new.steps ≡ old.steps ++ map step.Exchange es → new.searched ≡ old.searched → IsFactoredBy v.vectors found e
            → IsWalkEnd T limit (at es) (length new.steps) new.searched e
        by steps searched (inr is) = inr (inr record { memory = is; searched_is = inl searched })
        by steps searched (inl is) =
            let none = leg_at_none T v old.searched S.met S.owes es A.1.owes in
            inl record {
              next = Factored found;
              is_next = (
                is_placing T v old.searched S.met S.owes es,
                record { last = A.1.last; weights_are = A.1.found_are; rule = L; number = V.0; sum = V.1 },
              );
              owes = due_none T (at es) (Factored found) (nat_eq (length new.steps) limit) none none;
              used = inl refl;
              searched_is = searched;
              end_is = is;
            }

    -- Pivots
    pub pivots_part : (left : Turned) → IsPlaceAnswer p budget (placed.Pivots es) → IsEndedAfter old new (map step.Exchange es) old.searched end.Pivots left
        → IsPart T limit (at []) old new left
    pivots_part left A E = ended_part end.Pivots left E (λ steps searched.
        let used : length new.steps ≡ limit = let c = count new es steps in let k = A.1.used in let w = S.within in omega arith in
        inl record {
          next = Exchanged (exchange_of (table_after p (length es)) p.vectors (firsts p) (or_zero (entering (table_after p (length es)) p.vectors)));
          is_next = (is_placing T v old.searched S.met S.owes es, placed_next T v old.searched S.met S.owes S.some S.sizes S.perfect budget es R A.1.due);
          owes = ap (λ (b : Bool). first_owed_of
              (due_ops T (at es) b (Exchanged
              (exchange_of (table_after p (length es)) p.vectors (firsts p) (or_zero (entering (table_after p (length es)) p.vectors))))))
              (eq-eqb (length new.steps) limit used)
              ∙ opening_at_none T v old.searched S.met S.owes es A.1.owes;
          used = inr used;
          searched_is = searched;
          end_is = refl;
        })

    -- Wide
    pub wide_part : (o : PlaceOp) (left : Turned) → IsPlaceAnswer p budget (placed.Wide o es)
        → IsEndedAfter old new (map step.Exchange es) old.searched (end.Overflow (of_place o)) left → IsPart T limit (at []) old new left
    wide_part o left A E = ended_part (end.Overflow (of_place o)) left E (λ steps searched.
        inr (inl (
          of_place o,
          record {
            stage = Placing;
            is_stage = is_placing T v old.searched S.met S.owes es;
            owes = meeting_none T v old.searched S.met S.owes es;
            first = place_some _ o
                (within_is (at es) budget (nat_eq (length new.steps) limit) o
                (same_test (length old.steps) (length es) budget (length new.steps) limit (count new es steps) (sym S.within)) A.1);
            searched_is = searched;
          },
          refl,
        )))

    -- Outside
    pub outside_with : (zeros : List ℕ) (leaving : ℕ) → IsPlaceAnswer p budget (placed.Outside zeros leaving es)
        → IsRuled v.vectors T.s T.d (placed.Outside zeros leaving es) → IsOutsideWith T (at es) zeros leaving
    outside_with zeros leaving A L = record {
      placing = is_placing T v old.searched S.met S.owes es;
      outside = record {
        not_last = A.1.not_last;
        none = A.1.none;
        rule = subst (λ (zs : List ℕ). IsRuled v.vectors T.s T.d (placed.Outside zs (leaving_at T (at es)) es)) A.1.zeros_are
            (subst (λ (l : ℕ). IsRuled v.vectors T.s T.d (placed.Outside zeros l es)) A.1.vector_is L);
      };
      zeros_are = A.1.zeros_are;
      leaving_is = A.1.vector_is;
      owes = leg_at_none T v old.searched S.met S.owes es A.1.owes;
    }

    -- the part from there on
    pub outside_part : (mid : Trail) (left : Turned) → mid.steps ≡ old.steps ++ map step.Exchange es → IsPart T limit (at es) mid new left
        → IsPart T limit (at []) old new left
    outside_part mid left steps P = record {
      added = map step.Exchange es ++ P.added;
      state = P.state;
      steps = P.steps ∙ ap (λ (xs : List Step). xs ++ P.added) steps ∙ append_assoc old.steps (map step.Exchange es) P.added;
      run = run_append T (at []) (at es) P.state [] [] (map step.Exchange es) P.added run P.run;
      within = P.within;
      ends = P.ends;
    }

-- the same answer under another name of d
module _ (vectors : List (List ℕ)) (s : Symmetric) (d e : ℤ) (same : d ≡ e) where
  pub placed_as : (budget : ℕ) (a : Placed) → IsPlaceAnswer (problem_of vectors s d) budget a → IsPlaceAnswer (problem_of vectors s e) budget a
  placed_as budget a A = subst (λ (d : ℤ). IsPlaceAnswer (problem_of vectors s d) budget a) same A

  pub ruled_as : (a : Placed) → IsRuled vectors s d a → IsRuled vectors s e a
  ruled_as a A = subst (λ (d : ℤ). IsRuled vectors s d a) same A

  pub sound_as : (n : ℕ) (a : Placed) → IsSound n vectors s d a → IsSound n vectors s e a
  sound_as n a A = subst (λ (d : ℤ). IsSound n vectors s d a) same A
