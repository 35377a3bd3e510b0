-- At each state one thing comes next.
use Rattle.std.specs.Prelude.{◌≡◌, ◌⊎◌, ℕ, ℤ, pos, ◌<ℤ◌, ◌≤ℤ◌, true, false, List, [], ◌∷◌, Option, Some, None}
use Rattle.std.proofs.Common.{arith, sym, ◌∙◌, ap, ap₂, refl, subst, inl, inr}
use Rattle.std.proofs.lemmas.Int.{ints}
use Rattle.exact_forms.specs.Rational.{Rational}
use Rattle.symmetric_matrix.specs.Symmetric.{Symmetric, entry}
use Rattle.unimodular_cone.specs.Answer.{SearchAnswer, BoundWide, Wide, Low, Depth, Copositive, Found, IsSearchAnswer}
use Rattle.unimodular_cone.proofs.AnswerUnique.{answer_unique}
use Rattle.exact_lp.specs.declared.placed.Exchange.{Exchange}
use Rattle.exact_linear.specs.Tables.{is_there}
use Rattle.contiguous.specs.declared.neighbour.Tighten.{Tighten}
use Rattle.contiguous.specs.Tightenings.{tighten_of, first_vector, CallsFor, last_tighten}
use Rattle.perfect_walk.specs.declared.journal.Visit.{Visit}
use Rattle.perfect_walk.specs.declared.journal.Step.{Step}
use Rattle.perfect_walk.specs.States.{Task, WalkState, line_at, search_target_at, level_at, mode_at, product_at}
use Rattle.perfect_walk.specs.Next.{Next, ByMatrix, Exchanged, Factored, ByRay, Tightened, Moved, Undecided, TooWide, BoundTooWide, ComesNext, IsFresh}
use Rattle.perfect_walk.specs.Next.{IsPlacing, IsStepNext, IsInsideNow, IsOutsideNow, IsAtRay, IsSearchAt, IsCalledFor}
use Rattle.perfect_walk.specs.Chains.{IsWalkStep, step_of, after, entered}
use Rattle.perfect_walk.proofs.Tightening.{last_none}

module _ (T : Task) (σ : WalkState) where
  -- ---- what a search makes of it
  abbrev pub BySearch : SearchAnswer → Next → Type 0
  BySearch Copositive next = next ≡ ByRay
  BySearch (Low w z path) next = next ≡ Tightened (tighten_of (line_at T σ) w)
  BySearch (Found b vectors) next = ((b <ℤ level_at T σ) × (next ≡ Tightened (tighten_of (line_at T σ) (first_vector vectors))))
      ⊎ ((b ≡ level_at T σ) × (next ≡ Moved (record { matrix = search_target_at T σ; mu = b; vectors = vectors })))
  BySearch (Depth path) next = next ≡ Undecided path
  BySearch (Wide path at) next = next ≡ TooWide (record { path = path; entry = at })
  BySearch (BoundWide z) next = next ≡ BoundTooWide z

  abbrev pub View : Next → Type 0
  View next = ((next ≡ ByMatrix) × IsFresh σ × (product_at T σ <ℤ pos 0))
      ⊎ (((e : Exchange) × (next ≡ Exchanged e) × IsPlacing T σ × IsStepNext T σ e)
      ⊎ (((found : List Rational) × (next ≡ Factored found) × IsPlacing T σ × IsInsideNow T σ found)
      ⊎ ((a : SearchAnswer) × IsSearchAt T σ a × BySearch a next)))

  by_call : (t : Tighten) (a : SearchAnswer) → t ≡ tighten_of (line_at T σ) t.vector → CallsFor (level_at T σ) t.vector a → BySearch a (Tightened t)
  by_call t Copositive e h = absurd h
  by_call t (Low w z path) e h = ap (λ (t : Tighten). Tightened t) (e ∙ ap (λ (w : List ℕ). tighten_of (line_at T σ) w) h)
  by_call t (Found b vectors) e h = inl (h.0, ap (λ (t : Tighten). Tightened t) (e ∙ ap (λ (w : List ℕ). tighten_of (line_at T σ) w) h.1))
  by_call t (Depth path) e h = absurd h
  by_call t (Wide path at) e h = absurd h
  by_call t (BoundWide z) e h = absurd h

  pub view : (next : Next) → ComesNext T σ next → View next
  view ByMatrix h = inl (refl, h.0, h.1)
  view (Exchanged e) h = inr (inl (e, refl, h.0, h.1))
  view (Factored found) h = inr (inr (inl (found, refl, h.0, h.1)))
  view ByRay h = inr (inr (inr (Copositive, h, refl)))
  view (Tightened t) h = inr (inr (inr (h.0.answer, h.0.is_answer, by_call t h.0.answer h.1 h.0.calls)))
  view (Moved v) h = inr
      (inr (inr (
        Found v.mu v.vectors,
        h.search,
        inr
            (h.at_level, ap (λ (m : Symmetric). Moved (let w : Visit = record { matrix = m; mu = v.mu; vectors = v.vectors } in w)) h.matrix_is),
      )))
  view (Undecided path) h = inr (inr (inr (Depth path, h, refl)))
  view (TooWide at) h = inr (inr (inr (Wide at.path at.entry, h, refl)))
  view (BoundTooWide z) h = inr (inr (inr (BoundWide z, h, refl)))

  -- ---- at most one
  by_one : (a : SearchAnswer) (x y : Next) → BySearch a x → BySearch a y → x ≡ y
  by_one Copositive x y h k = h ∙ sym k
  by_one (Low w z path) x y h k = h ∙ sym k
  by_one (Found b vectors) x y (inl h) (inl k) = h.1 ∙ sym k.1
  by_one (Found b vectors) x y (inl h) (inr k) = absurd (let a = h.0 in let e = k.0 in grind (arith, ints))
  by_one (Found b vectors) x y (inr h) (inl k) = absurd (let a = k.0 in let e = h.0 in grind (arith, ints))
  by_one (Found b vectors) x y (inr h) (inr k) = h.1 ∙ sym k.1
  by_one (Depth path) x y h k = h ∙ sym k
  by_one (Wide path at) x y h k = h ∙ sym k
  by_one (BoundWide z) x y h k = h ∙ sym k

  pub one_answer : (a b : SearchAnswer) → IsSearchAt T σ a → IsSearchAt T σ b → a ≡ b
  one_answer a b h k = answer_unique (mode_at σ) (search_target_at T σ).size (entry (search_target_at T σ)) T.depth a b h.answers k.answers

  -- the ray, where no Tighten stands since the visit
  pub at_ray : (a : SearchAnswer) → σ.tightens ≡ [] → IsSearchAt T σ a → IsAtRay T σ
  at_ray a e h = h.at_ray (ap last_tighten e ∙ last_none)

  pub not_met : IsFresh σ → product_at T σ <ℤ pos 0 → IsPlacing T σ → ⊥
  not_met f n p = let m = p.met f.exchanges in grind (arith, ints)

  pub step_not_outside : (e : Exchange) → IsStepNext T σ e → IsOutsideNow T σ → ⊥
  step_not_outside e s o = let a = s.due.vector in let b = ap is_there o.none in cc

  pub inside_not_outside : (found : List Rational) → IsInsideNow T σ found → IsOutsideNow T σ → ⊥
  inside_not_outside found i o = let a = i.last in let b = o.not_last in cc

  step_not_inside : (e : Exchange) (found : List Rational) → IsStepNext T σ e → IsInsideNow T σ found → ⊥
  step_not_inside e found s i = let a = s.due.not_last in let b = i.last in cc

  pub one_view : (x y : Next) → View x → View y → x ≡ y
  one_view x y (inl h) (inl k) = h.0 ∙ sym k.0
  one_view x y (inl h) (inr (inl (e, is, p, s))) = absurd (not_met h.1 h.2 p)
  one_view x y (inl h) (inr (inr (inl (f, is, p, i)))) = absurd (not_met h.1 h.2 p)
  one_view x y (inl h) (inr (inr (inr (a, s, b)))) = absurd (not_met h.1 h.2 (at_ray a h.1.tightens s).placing)
  one_view x y (inr (inl (e, is, p, s))) (inl k) = absurd (not_met k.1 k.2 p)
  one_view x y (inr (inl (e, is, p, s))) (inr (inl (e', is', p', s'))) = is ∙ ap (λ (e : Exchange). Exchanged e) (s.step_is ∙ sym s'.step_is) ∙ sym is'
  one_view x y (inr (inl (e, is, p, s))) (inr (inr (inl (f, is', p', i)))) = absurd (step_not_inside e f s i)
  one_view x y (inr (inl (e, is, p, s))) (inr (inr (inr (a, t, b)))) = absurd (step_not_outside e s (at_ray a p.tightens t).outside)
  one_view x y (inr (inr (inl (f, is, p, i)))) (inl k) = absurd (not_met k.1 k.2 p)
  one_view x y (inr (inr (inl (f, is, p, i)))) (inr (inl (e, is', p', s))) = absurd (step_not_inside e f s i)
  one_view x y (inr (inr (inl (f, is, p, i)))) (inr (inr (inl (f', is', p', i')))) = is
      ∙ ap (λ (f : List Rational). Factored f) (i.weights_are ∙ sym i'.weights_are) ∙ sym is'
  one_view x y (inr (inr (inl (f, is, p, i)))) (inr (inr (inr (a, t, b)))) = absurd (inside_not_outside f i (at_ray a p.tightens t).outside)
  one_view x y (inr (inr (inr (a, t, b)))) (inl k) = absurd (not_met k.1 k.2 (at_ray a k.1.tightens t).placing)
  one_view x y (inr (inr (inr (a, t, b)))) (inr (inl (e, is, p, s))) = absurd (step_not_outside e s (at_ray a p.tightens t).outside)
  one_view x y (inr (inr (inr (a, t, b)))) (inr (inr (inl (f, is, p, i)))) = absurd (inside_not_outside f i (at_ray a p.tightens t).outside)
  one_view x y (inr (inr (inr (a, t, b)))) (inr (inr (inr (a', t', b')))) = by_one a x y b
      (subst (λ (a : SearchAnswer). BySearch a y) (one_answer a' a t' t) b')

  pub one_next : (x y : Next) → ComesNext T σ x → ComesNext T σ y → x ≡ y
  one_next x y h k = one_view x y (view x h) (view y k)

pub record IsSameStep (T : Task) (σ : WalkState) (x y : Step) (ρ π : WalkState) (a : IsWalkStep T σ x ρ) (b : IsWalkStep T σ y π) : Type 0 where
  pub step : x ≡ y
  pub state : ρ ≡ π
  pub visits : entered a.next ≡ entered b.next

pub one_step : (T : Task) (σ : WalkState) (x y : Step) (ρ π : WalkState) (a : IsWalkStep T σ x ρ) (b : IsWalkStep T σ y π) → IsSameStep T σ x y ρ π a b
one_step T σ x y ρ π a b =
    let e : a.next ≡ b.next = one_next T σ a.next b.next a.is_next b.is_next in
    let s : Some x ≡ Some y = sym a.made ∙ ap step_of e ∙ b.made in
    record { step = cc; state = a.leads ∙ ap (λ (n : Next). after T σ n) e ∙ sym b.leads; visits = ap entered e }
