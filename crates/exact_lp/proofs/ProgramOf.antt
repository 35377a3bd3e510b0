-- The columns of the linear program of a list of vectors: the sum of the first basis in the last column changes none of the others.
use Rattle.std.specs.Prelude.{◌≡◌, ◌≢◌, ℕ, ◌+◌, ◌<◌, ◌≤◌, ◌⊎◌, pos, Bool, List, length}
use Rattle.std.proofs.Common.{arith, sym, ◌∙◌, ap, inl, inr}
use Rattle.commutative_ring.proofs.SmallCases.{same_or_not}
use Rattle.exact_forms.specs.Rational.{Rational, whole, ◌*ℚ◌}
use Rattle.exact_forms.specs.Coordinates.{Columns}
use Rattle.exact_forms.specs.RankOne.{HasVectors, HasUnits}
use Rattle.exact_forms.specs.Triangles.{triangle}
use Rattle.exact_forms.proofs.Rational.{zero_mul_ℚ}
use Rattle.exact_forms.proofs.RationalSums.{sum_ℚ_same}
use Rattle.symmetric_matrix.specs.Symmetric.{Symmetric, entry}
use Rattle.exact_linear.specs.Columns.{with_sum_of}
use Rattle.exact_linear.specs.FirstBasis.{IsCombinationBelow, IsFirstBasis}
use Rattle.exact_linear.specs.Tables.{Table}
use Rattle.exact_linear.proofs.Spanning.{AreUnitsAndVectors}
use Rattle.exact_lp.specs.OfVectors.{IsProgramOf}
use Rattle.exact_lp.proofs.Right.{other_column}

module _ (A : Columns) (f : Table) where
  -- a weight of a column before the last one, or 0
  same_term : (w : ℕ → Rational) (c k a b : ℕ) → c + 1 < A.count → (c ≤ k → w k ≡ whole (pos 0)) → w k *ℚ (with_sum_of A f).entry k a b ≡ w k *ℚ A.entry k a b
  same_term w c k a b l off = by (same_or_not (k + 1) A.count)
    where
      by : ((k + 1 ≡ A.count) ⊎ (k + 1 ≢ A.count)) → w k *ℚ (with_sum_of A f).entry k a b ≡ w k *ℚ A.entry k a b
      by (inr n) = ap (λ x. w k *ℚ x) (other_column A f k a b n)
      by (inl e) =
          let z : w k ≡ whole (pos 0) = off (omega arith) in
          ap (λ x. x *ℚ (with_sum_of A f).entry k a b) z ∙ zero_mul_ℚ _ ∙ sym (ap (λ x. x *ℚ A.entry k a b) z ∙ zero_mul_ℚ _)

  summed_combination : (low c : ℕ) → c + 1 < A.count → IsCombinationBelow A low c → IsCombinationBelow (with_sum_of A f) low c
  summed_combination low c l g = record {
    weight = g.weight;
    outside = g.outside;
    sum = λ a b la lb.
        sum_ℚ_same A.count _ _ (λ k lk. same_term g.weight c k a b l (λ h. g.outside k lk (inr h)))
        ∙ g.sum a b la lb
        ∙ sym (other_column A f c a b (λ e. absurd (omega arith)));
  }

  plain_combination : (low c : ℕ) → c + 1 < A.count → IsCombinationBelow (with_sum_of A f) low c → IsCombinationBelow A low c
  plain_combination low c l g = record {
    weight = g.weight;
    outside = g.outside;
    sum = λ a b la lb.
        sum_ℚ_same A.count _ _ (λ k lk. sym (same_term g.weight c k a b l (λ h. g.outside k lk (inr h))))
        ∙ g.sum a b la lb
        ∙ other_column A f c a b (λ e. absurd (omega arith));
  }

  pub summed_first : (low high : ℕ) (B : ℕ → Bool) → high < A.count → IsFirstBasis A low high B → IsFirstBasis (with_sum_of A f) low high B
  summed_first low high B l F = record {
    taken = λ c lo hi b g. F.taken c lo hi b (plain_combination low c (omega arith) g);
    left = λ c lo hi b. summed_combination low c (omega arith) (F.left c lo hi b);
  }

  module _ (low : ℕ) (vectors : List (List ℕ)) (U : AreUnitsAndVectors A low vectors) (l : low + length vectors < A.count) where
    pub summed_vectors : HasVectors (with_sum_of A f) low vectors
    summed_vectors = record {
      within = U.has_vectors.within;
      entry = λ k i j lk li lj. other_column A f (low + k) i j (λ e. absurd (omega arith)) ∙ U.has_vectors.entry k i j lk li lj;
    }

    pub summed_units : HasUnits (with_sum_of A f)
    summed_units = record {
      units = λ i j li lj.
          let b = U.unit_below i j li lj in (
            U.unit_column i j,
            U.times i j,
            omega arith,
            λ x y lx ly. ap (λ w. U.times i j *ℚ w) (other_column A f (U.unit_column i j) x y (λ e. absurd (omega arith))) ∙ U.units i j x y li lj lx ly,
          );
    }

-- the program whose columns are those of A, and the sum of the first basis as the last one
pub program_of_vectors : (A : Columns) (f : Table) (low m rank : ℕ) (first : ℕ → ℕ) (chosen : ℕ → Bool) (vectors : List (List ℕ)) (s : Symmetric)
    → A.size ≡ s.size → low ≡ triangle s.size → m ≡ length vectors → low + m + 2 ≡ A.count → AreUnitsAndVectors A low vectors
    → IsFirstBasis A low (low + m) chosen
    → ((i j : ℕ) → i < s.size → j < s.size → A.entry (low + m) i j ≡ whole (entry s i j))
    → IsProgramOf (record {
      columns = with_sum_of A f;
      low = low;
      high = low + m;
      target = low + m;
      top = low + m + 1;
      rank = rank;
      first = first;
      chosen = chosen;
    }) vectors s
program_of_vectors A f low m rank first chosen vectors s size units count all U F target = record {
  size = size;
  low = units;
  high = ap (λ (n : ℕ). low + n) count;
  units = summed_units A f low vectors U (omega arith);
  has_vectors = summed_vectors A f low vectors U (omega arith);
  target = λ i j li lj. other_column A f (low + m) i j (λ e. absurd (omega arith)) ∙ target i j li lj;
  first = summed_first A f low (low + m) chosen (omega arith) F;
}
