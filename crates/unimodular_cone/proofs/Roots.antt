-- The root's cone shows the unit vectors and the matrix itself.
use Rattle.std.specs.Prelude.{◌≡◌, ◌≢◌, ◌⊎◌, ℕ, ◌<◌, ◌≤◌, ℤ, pos, ◌*ℤ◌, List, [], slice_index_or}
use Rattle.std.proofs.Common.{arith, sym, ◌∙◌, ap, ap₂, refl, inl, inr}
use Rattle.commutative_ring.proofs.Laws.{one_mul_ℤ, zero_mul_ℤ, mul_zero_ℤ}
use Rattle.commutative_ring.proofs.Expand.{times_one}
use Rattle.commutative_ring.proofs.SmallCases.{at_least_or_below, same_or_not}
use Rattle.symmetric_matrix.proofs.Places.{entry_flip}
use Rattle.exact_forms.specs.Forms.{bilinear}
use Rattle.exact_forms.specs.Sums.{sum_to}
use Rattle.exact_forms.proofs.Sums.{sum_to_one, sum_to_none}
use Rattle.exact_forms.proofs.Slacks.{replaced_here, replaced_other}
use Rattle.symmetric_matrix.specs.Symmetric.{Symmetric, entry, IsSymmetricMatrix}
use Rattle.unimodular_cone.specs.declared.cone.Cone.TheInside.{Inside}
use Rattle.unimodular_cone.specs.declared.refusal.ConeFail.{ConeFail}
use Rattle.unimodular_cone.specs.declared.refusal.ConeFail.TheVariants.{Wide, OutOfMemory}
use Rattle.unimodular_cone.specs.declared.refusal.WideAt.{WideAt}
use Rattle.unimodular_cone.specs.Cones.{Matrix, unit_vectors, gram, cone_from, Fits, FitsLimits, IsFirstOverLimit}
use Rattle.unimodular_cone.specs.ConeFields.{shown_of}
use Rattle.unimodular_cone.specs.Shown.{shown_gram, shown_generators, IsWithinLimits, IsConeAt, IsFirstWideAt, IsWideWhere}
use Rattle.unimodular_cone.specs.RootNumbers.{IsLowerOf, AreUnitRows}
use Rattle.unimodular_cone.proofs.Fields.{coordinate_shown, gram_shown}
use Rattle.unimodular_cone.proofs.LimitsSame.{SameBelow, fits_same, first_over_same, same_back}
use Rattle.unimodular_cone.proofs.ShownLaws.{shown_gram_mirror}

unit_here : (i p : ℕ) → i ≡ p → unit_vectors i p ≡ pos 1
unit_here i p e = replaced_here (λ i. pos 0) p (pos 1) i e

unit_other : (i p : ℕ) → i ≢ p → unit_vectors i p ≡ pos 0
unit_other i p ne = replaced_other (λ i. pos 0) p (pos 1) i ne

-- the Gram matrix of the unit vectors is the matrix
pub gram-unit : (n : ℕ) (q : Matrix) (a b : ℕ) → a < n → b < n → gram n q unit_vectors a b ≡ q a b
unfolding bilinear
gram-unit n q a b la lb =
    sum_to_one n (λ i. sum_to n (λ j. q i j *ℤ (unit_vectors a i *ℤ unit_vectors b j))) a la (λ i li ne. sum_to_none n _ (λ j lj. none i j (λ e. ne (sym e))))
    ∙ sum_to_one n (λ j. q a j *ℤ (unit_vectors a a *ℤ unit_vectors b j)) b lb (λ j lj ne. off j (λ e. ne (sym e)))
    ∙ ap₂ (λ (x : ℤ) (y : ℤ). q a b *ℤ (x *ℤ y)) (unit_here a a refl) (unit_here b b refl)
    ∙ ap (λ (x : ℤ). q a b *ℤ x) (one_mul_ℤ (pos 1))
    ∙ times_one (q a b)
  where
    none : (i j : ℕ) → a ≢ i → q i j *ℤ (unit_vectors a i *ℤ unit_vectors b j) ≡ pos 0
    none i j ne = ap (λ (x : ℤ). q i j *ℤ (x *ℤ unit_vectors b j)) (unit_other a i ne) ∙ ap (λ (x : ℤ). q i j *ℤ x) (zero_mul_ℤ (unit_vectors b j))
        ∙ mul_zero_ℤ (q i j)

    off : (j : ℕ) → b ≢ j → q a j *ℤ (unit_vectors a a *ℤ unit_vectors b j) ≡ pos 0
    off j ne = ap (λ (x : ℤ). q a j *ℤ (unit_vectors a a *ℤ x)) (unit_other b j ne) ∙ ap (λ (x : ℤ). q a j *ℤ x) (mul_zero_ℤ (unit_vectors a a))
        ∙ mul_zero_ℤ (q a j)

root_same : (n : ℕ) (q : Matrix) → SameBelow n unit_vectors unit_vectors q (gram n q unit_vectors)
root_same n q = record { generators = λ k p lk lp. refl; gram_is = λ i j li lj. sym (gram-unit n q i j li lj) }

pub root_wide : (q : Symmetric) (at : WideAt) → at.path ≡ [] → IsFirstOverLimit q.size unit_vectors (entry q) at.entry → IsFirstWideAt q.size (entry q) [] at
unfolding cone_from
root_wide q at e over =
    record {
      path_is = e;
      entry = first_over_same q.size unit_vectors unit_vectors (entry q) (gram q.size (entry q) unit_vectors) at.entry (root_same q.size (entry q)) over;
    }

module _ (q : Symmetric) (lower : List ℤ) (rows : List (List ℕ)) (m : IsSymmetricMatrix q) (h : IsLowerOf q q.size lower) (u : AreUnitRows 8 rows) where
  abbrev pub start : Inside
  start = record { n = q.size; path = []; gram = lower; generators = rows }

  pub coordinate_is : (k p : ℕ) → k < q.size → p < q.size → shown_generators (shown_of start) k p ≡ unit_vectors k p
  coordinate_is k p lk lp = ap pos (coordinate_shown start k p lk lp) ∙ by (same_or_not k p)
    where
      by : ((k ≡ p) ⊎ (k ≢ p)) → pos (slice_index_or (slice_index_or rows k []) p 0) ≡ unit_vectors k p
      by (inl e) = ap (λ (w : ℕ). pos (slice_index_or (slice_index_or rows k []) w 0)) (sym e) ∙ ap pos (u.ones k (omega (arith, m.small)))
          ∙ sym (unit_here k p e)
      by (inr ne) = ap pos (u.zeros k p (omega (arith, m.small)) ne) ∙ sym (unit_other k p ne)

  pub entry_is : (i j : ℕ) → i < q.size → j < q.size → shown_gram (shown_of start) i j ≡ entry q i j
  entry_is i j li lj = by (at_least_or_below i j)
    where
      by : ((j ≤ i) ⊎ (i < j)) → shown_gram (shown_of start) i j ≡ entry q i j
      by (inl le) = gram_shown start i j le li ∙ h.entries i j le li
      by (inr lt) = shown_gram_mirror (shown_of start) i j ∙ gram_shown start j i (omega arith) lj ∙ h.entries j i (omega arith) lj ∙ entry_flip q j i

  pub root_is_cone : IsConeAt q.size (entry q) [] (shown_of start)
  unfolding cone_from
  root_is_cone = record {
    path_is = refl;
    cone = record {
      size = refl;
      generators = coordinate_is;
      gram_is = λ i j li lj. entry_is i j li lj ∙ sym (gram-unit q.size (entry q) i j li lj);
    };
  }

  pub root_is_within : FitsLimits q.size unit_vectors (entry q) → IsWithinLimits (shown_of start)
  root_is_within fits = record {
    some = m.positive;
    few = m.small;
    short = omega arith;
    fits = fits_same q.size unit_vectors (shown_generators (shown_of start)) (entry q) (shown_gram (shown_of start))
        (same_back (record { generators = coordinate_is; gram_is = entry_is })) fits;
  }

-- where the unit vectors fit, no entry of the root is too wide
pub root_not_wide : (n : ℕ) (q : Matrix) (fail : ConeFail) → Fits n q unit_vectors → IsWideWhere (IsFirstWideAt n q []) fail → ⊥
unfolding cone_from
root_not_wide n q (Wide at) fits w = fits at.entry w.entry.over
root_not_wide n q OutOfMemory fits w = w
