-- Judgements that no answer looks at.
use Rattle.std.specs.Prelude.{◌≡◌, ℕ, ◌≤◌, ◌<◌, ◌≤ℤ◌, ◌<ℤ◌, ◌⊎◌, List}
use Rattle.std.specs.List.{Contains}
use Rattle.std.proofs.Common.{arith, inl, inr}
use Rattle.std.proofs.lemmas.Int.{ints}
use Rattle.unimodular_cone.specs.declared.Mode.{Mode}
use Rattle.unimodular_cone.specs.declared.Mode.TheVariants.{Least}
use Rattle.unimodular_cone.specs.Cones.{Matrix, value, cone_at}
use Rattle.search_core.specs.Fair.{Judged, bound_under, least_value, IsLowFate, IsEndFate, IsIrrelevant, HasGenerator, HasAllRelevant, IsFair, IsFairPart}
use Rattle.search_core.proofs.LeastValues.{least_value_le}
use Rattle.search_core.proofs.SameGenerators.{same_itself}

-- under a lesser word no answer looks at it either
pub irrelevant_lower : (m : Mode) (word lower : ℕ) (j : Judged) → lower ≤ word → IsIrrelevant m word j → IsIrrelevant m lower j
irrelevant_lower m word lower j le u = record { not_low = u.not_low; no_end = u.no_end; above = λ mode large. by (u.above mode (omega arith)) large }
  where
    by : bound_under Least word <ℤ j.least → 256 ≤ lower → bound_under Least lower <ℤ j.least
    by above large = omega (arith, ints)

-- a part of a fair list from which only such judgements are left out has what an answer looks at
pub all_relevant : (m : Mode) (n : ℕ) (q : Matrix) (d final : ℕ) (all part : List Judged) → IsFair m n q d all final
    → ((j : Judged) → Contains part j → Contains all j) → ((j : Judged) → Contains all j → Contains part j ⊎ IsIrrelevant m final j)
    → HasAllRelevant m n q final all part
all_relevant m n q d final all part fair within rest = record {
  within = within;
  low = λ j there is. by_low j is (rest j there);
  ends = λ j there is. by_end j is (rest j there);
  attaining = λ mode large j k there l is. by_value j k there l is mode large (rest j there);
}
  where
    by_low : (j : Judged) → IsLowFate j.fate → (Contains part j ⊎ IsIrrelevant m final j) → Contains part j
    by_low j is (inl c) = c
    by_low j is (inr u) = absurd (u.not_low is)

    by_end : (j : Judged) → IsEndFate j.fate → (Contains part j ⊎ IsIrrelevant m final j) → Contains part j
    by_end j is (inl c) = c
    by_end j is (inr u) = absurd (u.no_end is)

    by_value : (j : Judged) (k : ℕ) → Contains all j → k < n → value n q (cone_at n q j.path) k ≡ bound_under Least final → m ≡ Least → 256 ≤ final
        → (Contains part j ⊎ IsIrrelevant m final j) → HasGenerator n q part j.path k
    by_value j k there l is mode large (inl c) = (j, k, c, same_itself n q j.path k l)
    by_value j k there l is mode large (inr u) = absurd (
        let above : bound_under Least final <ℤ j.least = u.above mode large in
        let least : j.least ≡ least_value n q (cone_at n q j.path) = (fair.judgements j there).least in
        let below : least_value n q (cone_at n q j.path) ≤ℤ value n q (cone_at n q j.path) k = least_value_le n q (cone_at n q j.path) k l in
        omega (arith, ints)
        )

-- a fair list is such a part of itself
pub whole_part : (m : Mode) (n : ℕ) (q : Matrix) (d final : ℕ) (all : List Judged) → IsFair m n q d all final → IsFairPart m n q d all final
whole_part m n q d final all fair = record {
  all = all;
  fair = fair;
  relevant = all_relevant m n q d final all all fair (λ j there. there) (λ j there. inl there);
}
