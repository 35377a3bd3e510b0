-- The operations of one Tighten.
use Rattle.std.specs.Prelude.{◌≡◌, ℕ, ℤ, pos, nat_abs, ◌*ℤ◌, ◌-ℤ◌, List, [], ◌∷◌, ◌++◌, map, Option, Some, None, Result, Ok, Err, IfOk, IfErr}
use Rattle.std.proofs.Common.{sym, ◌∙◌, ap, ap₂, refl, subst, to_z, of_z, to_z-of_z, SFits}
use mir.Syntax.{w128}
use Rattle.exact_forms.specs.Rational.{Rational, ratio}
use Rattle.symmetric_matrix.specs.declared.operation.IntOp.{IntOp}
use Rattle.symmetric_matrix.specs.Operations.{is_owed, mul_op}
use Rattle.symmetric_matrix.specs.Owed.{first_owed, answer}
use Rattle.symmetric_matrix.specs.Recipes.{form_ops}
use Rattle.symmetric_matrix.specs.Symmetric.{Symmetric}
use Rattle.symmetric_matrix.specs.Combining.{combine_ops, combined}
use Rattle.symmetric_matrix.proofs.Owed.{first_owed-append_some, first_owed-append_none, first_owed-map, some_of_err, none_of_ok}
use Rattle.contiguous.specs.declared.tightening.TightenFail.{TightenFail}
use Rattle.contiguous.specs.declared.tightening.TightenFail.TheVariants as fail
use Rattle.contiguous.specs.declared.neighbour.NeighbourOp.{NeighbourOp}
use Rattle.contiguous.specs.declared.neighbour.NeighbourOp.TheVariants as op
use Rattle.contiguous.specs.declared.neighbour.Tighten.{Tighten}
use Rattle.contiguous.specs.declared.tightening.Candidate.{Candidate}
use Rattle.contiguous.specs.Tightenings.{Line, line_along, value_at, tighten_of, tighten_ops, neighbour_is_owed}
use Rattle.contiguous.proofs.Candidates.{vector_is, p_is, q_is, combined_at}
use Rattle.contiguous.specs.Making.{IsValueRefused, scale_ops, IsScaled, IsScaleRefused, IsTightenMade, IsMakingRefused}

tagged : (tag : IntOp → NeighbourOp) (xs : List IntOp) (found : Option IntOp) → ((o : IntOp) → neighbour_is_owed (tag o) ≡ is_owed o)
    → first_owed is_owed xs ≡ found
    → first_owed neighbour_is_owed (map tag xs) ≡ elim found as (λ _. Option NeighbourOp) [ None ↦ None | Some op ↦ Some (tag op) ]
tagged tag xs found same h =
    first_owed-map is_owed neighbour_is_owed tag xs same ∙ ap (λ f. elim f as (λ _. Option NeighbourOp) [ None ↦ None | Some op ↦ Some (tag op) ]) h

module _ (l : Line) (w : List ℕ) where
  above_owed : (o : IntOp) → first_owed is_owed (form_ops l.matrix w) ≡ Some o → first_owed neighbour_is_owed (tighten_ops l w) ≡ Some (op.Form w o)
  unfolding tighten_ops
  above_owed o h =
      first_owed-append_some neighbour_is_owed (map (op.Form w) (form_ops l.matrix w ++ form_ops l.direction w)) _ (op.Form w o)
      (tagged (op.Form w) (form_ops l.matrix w ++ form_ops l.direction w) (Some o) (λ o. refl)
      (first_owed-append_some is_owed (form_ops l.matrix w) (form_ops l.direction w) o h))

  below_owed : (o : IntOp) → first_owed is_owed (form_ops l.matrix w) ≡ None → first_owed is_owed (form_ops l.direction w) ≡ Some o
      → first_owed neighbour_is_owed (tighten_ops l w) ≡ Some (op.Form w o)
  unfolding tighten_ops
  below_owed o n h =
      first_owed-append_some neighbour_is_owed (map (op.Form w) (form_ops l.matrix w ++ form_ops l.direction w)) _ (op.Form w o)
      (tagged (op.Form w) (form_ops l.matrix w ++ form_ops l.direction w) (Some o) (λ o. refl)
      (first_owed-append_none is_owed (form_ops l.matrix w) (form_ops l.direction w) n ∙ h))

  rest_of : first_owed is_owed (form_ops l.matrix w) ≡ None → first_owed is_owed (form_ops l.direction w) ≡ None
      → first_owed neighbour_is_owed (tighten_ops l w) ≡ first_owed neighbour_is_owed (map op.Scale (scale_ops l w))
  unfolding tighten_ops scale_ops
  rest_of n m =
      first_owed-append_none neighbour_is_owed (map (op.Form w) (form_ops l.matrix w ++ form_ops l.direction w)) _
      (tagged (op.Form w) (form_ops l.matrix w ++ form_ops l.direction w) None (λ o. refl)
      (first_owed-append_none is_owed (form_ops l.matrix w) (form_ops l.direction w) n ∙ m))

  pub above_refused : (f : TightenFail) → IsValueRefused l.matrix w f → IsMakingRefused l w f
  above_refused (fail.Wide (op.Form x o)) h = above_owed o h.1 ∙ ap (λ (x : List ℕ). Some (op.Form x o)) (sym h.0)
  above_refused (fail.Wide (op.Scale o)) h = absurd h
  above_refused (fail.Wide (op.Gram at)) h = absurd h
  above_refused (fail.Wide (op.Bound z)) h = absurd h
  above_refused fail.OutOfMemory h = absurd h

  pub below_refused : (f : TightenFail) → first_owed is_owed (form_ops l.matrix w) ≡ None → IsValueRefused l.direction w f → IsMakingRefused l w f
  below_refused (fail.Wide (op.Form x o)) n h = below_owed o n h.1 ∙ ap (λ (x : List ℕ). Some (op.Form x o)) (sym h.0)
  below_refused (fail.Wide (op.Scale o)) n h = absurd h
  below_refused (fail.Wide (op.Gram at)) n h = absurd h
  below_refused (fail.Wide (op.Bound z)) n h = absurd h
  below_refused fail.OutOfMemory n h = absurd h

  pub scale_refused : (f : TightenFail) → first_owed is_owed (form_ops l.matrix w) ≡ None → first_owed is_owed (form_ops l.direction w) ≡ None
      → IsScaleRefused l w f → IsMakingRefused l w f
  scale_refused (fail.Wide (op.Form x o)) n m h = absurd h
  scale_refused (fail.Wide (op.Scale o)) n m h = rest_of n m ∙ tagged op.Scale (scale_ops l w) (Some o) (λ o. refl) h
  scale_refused (fail.Wide (op.Gram at)) n m h = absurd h
  scale_refused (fail.Wide (op.Bound z)) n m h = absurd h
  scale_refused fail.OutOfMemory n m h = tt

  pub scale_made : (c : Candidate) → first_owed is_owed (form_ops l.matrix w) ≡ None → first_owed is_owed (form_ops l.direction w) ≡ None → IsScaled l w c
      → IsTightenMade l w c
  scale_made c n m h =
      record { step = h.step; matrix = h.matrix; level = h.level; owes = rest_of n m ∙ tagged op.Scale (scale_ops l w) None (λ o. refl) h.owes }

  -- ---- the level and the combination
  pub level_refused : (q mu : ℤ) (o : IntOp) → q ≡ (tighten_of l w).q → mu ≡ l.mu → answer is_owed (mul_op q mu ∷ []) (q *ℤ mu) ≡ Err o
      → first_owed is_owed (scale_ops l w) ≡ Some o
  unfolding scale_ops
  level_refused q mu o eq em h =
      first_owed-append_some is_owed (mul_op (tighten_of l w).q l.mu ∷ []) (combine_ops (tighten_of l w).q l.matrix (tighten_of l w).p l.direction) o
      (ap₂ (λ (q : ℤ) (mu : ℤ). first_owed is_owed (mul_op q mu ∷ [])) (sym eq) (sym em) ∙ some_of_err is_owed (mul_op q mu ∷ []) (q *ℤ mu) o h)

  pub level_made : (q mu z : ℤ) → q ≡ (tighten_of l w).q → mu ≡ l.mu → answer is_owed (mul_op q mu ∷ []) (q *ℤ mu) ≡ Ok z
      → (first_owed is_owed (scale_ops l w) ≡ first_owed is_owed (combine_ops (tighten_of l w).q l.matrix (tighten_of l w).p l.direction)) ×
      (z ≡ (tighten_of l w).q *ℤ l.mu)
  unfolding scale_ops
  level_made q mu z eq em h =
      let made = none_of_ok is_owed (mul_op q mu ∷ []) (q *ℤ mu) z h in (
        first_owed-append_none is_owed (mul_op (tighten_of l w).q l.mu ∷ []) (combine_ops (tighten_of l w).q l.matrix (tighten_of l w).p l.direction)
            (ap₂ (λ (q : ℤ) (mu : ℤ). first_owed is_owed (mul_op q mu ∷ [])) (sym eq) (sym em) ∙ made.0),
        sym made.1 ∙ ap₂ (λ (q : ℤ) (mu : ℤ). q *ℤ mu) eq em,
      )

  pub made_all : (r : Result Candidate TightenFail) → first_owed is_owed (form_ops l.matrix w) ≡ None → first_owed is_owed (form_ops l.direction w) ≡ None
      → IfOk r (λ c. IsScaled l w c) → IfOk r (λ c. IsTightenMade l w c)
  made_all (Ok c) n m h = scale_made c n m h
  made_all (Err f) n m h = h

  pub refused_all : (r : Result Candidate TightenFail) → first_owed is_owed (form_ops l.matrix w) ≡ None → first_owed is_owed (form_ops l.direction w) ≡ None
      → IfErr r (λ f. IsScaleRefused l w f) → IfErr r (λ f. IsMakingRefused l w f)
  refused_all (Ok c) n m h = h
  refused_all (Err f) n m h = scale_refused f n m h

  -- where nothing is owed, memory alone is wanting
  pub only_memory : (f : TightenFail) → first_owed neighbour_is_owed (tighten_ops l w) ≡ None → IsMakingRefused l w f → f ≡ fail.OutOfMemory
  only_memory (fail.Wide (op.Form x o)) n h = absurd cc
  only_memory (fail.Wide (op.Scale o)) n h = absurd cc
  only_memory (fail.Wide (op.Gram at)) n h = absurd h
  only_memory (fail.Wide (op.Bound z)) n h = absurd h
  only_memory fail.OutOfMemory n h = refl

  pub tighten_is : (v : List ℕ) (p q : ℤ) → v ≡ w → p ≡ (tighten_of l w).p → q ≡ (tighten_of l w).q
      → ◌≡◌ {A = Tighten} record { vector = v; p = p; q = q } (tighten_of l w)
  tighten_is v p q ev ep eq =
      ap (λ (v : List ℕ). record { vector = v; p = p; q = q }) (ev ∙ sym (vector_is l w))
      ∙ ap₂ (λ (p : ℤ) (q : ℤ). record { vector = (tighten_of l w).vector; p = p; q = q }) ep eq

-- ---- the parts of a Tighten's λ, as code reads them
pub record AreParts (l : Line) (w : List ℕ) (p q : ℤ) : Type 0 where
  pub p_is : p ≡ (tighten_of l w).p
  pub q_is : q ≡ (tighten_of l w).q

pub parts_read : (l : Line) (w : List ℕ) (p q : ℤ) (r : Rational) → SFits w128 p → SFits w128 q → p ≡ r.num → q ≡ pos r.den
    → r ≡ ratio (value_at l.matrix w -ℤ l.mu) (nat_abs (value_at l.direction w)) → AreParts l w (to_z w128 (of_z w128 p)) (to_z w128 (of_z w128 q))
parts_read l w p q r fp fq ep eq h = record {
  p_is = to_z-of_z fp ∙ ep ∙ ap (λ (r : Rational). r.num) h ∙ sym (p_is l w);
  q_is = to_z-of_z fq ∙ eq ∙ ap (λ (r : Rational). pos r.den) h ∙ sym (q_is l w);
}

-- the level was made
pub record IsLevelMade (l : Line) (w : List ℕ) (p q z : ℤ) : Type 0 where
  pub owes : first_owed is_owed (scale_ops l w) ≡ first_owed is_owed (combine_ops q l.matrix p l.direction)
  pub level : z ≡ (tighten_of l w).q *ℤ l.mu

pub level_read : (l : Line) (w : List ℕ) (p q mu z : ℤ) → AreParts l w p q → mu ≡ l.mu → answer is_owed (mul_op q mu ∷ []) (q *ℤ mu) ≡ Ok z
    → IsLevelMade l w p q z
level_read l w p q mu z a em h =
    let made = level_made l w q mu z a.q_is em h in record {
      owes = made.0 ∙ ap₂ (λ (q : ℤ) (p : ℤ). first_owed is_owed (combine_ops q l.matrix p l.direction)) (sym a.q_is) (sym a.p_is);
      level = made.1;
    }

pub combined_read : {l : Line} {w : List ℕ} {p q : ℤ} (m : Symmetric) → AreParts l w p q → m ≡ combined q l.matrix p l.direction → m ≡ combined_at l w
combined_read {l} {w} {p} {q} m a e = e ∙ ap₂ (λ (q : ℤ) (p : ℤ). combined q l.matrix p l.direction) a.q_is a.p_is

pub line_same_made : (P R : Symmetric) (w : List ℕ) (r : Result Candidate TightenFail) (m n : ℤ) → m ≡ n → IfOk r (λ c. IsScaled (line_along P m R) w c)
    → IfOk r (λ c. IsScaled (line_along P n R) w c)
line_same_made P R w r m n e h = subst (λ (m : ℤ). IfOk r (λ c. IsScaled (line_along P m R) w c)) e h

pub line_same_refused : (P R : Symmetric) (w : List ℕ) (r : Result Candidate TightenFail) (m n : ℤ) → m ≡ n
    → IfErr r (λ f. IsScaleRefused (line_along P m R) w f) → IfErr r (λ f. IsScaleRefused (line_along P n R) w f)
line_same_refused P R w r m n e h = subst (λ (m : ℤ). IfErr r (λ f. IsScaleRefused (line_along P m R) w f)) e h
