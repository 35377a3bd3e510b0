-- The vectors and matrices of the worked examples meet the conditions.
use Rattle.std.specs.Prelude.{◌≡◌, ℕ, zero, suc, ◌+◌, ◌<◌, ◌≤◌, ◌^◌, ℤ, pos, List, [], ◌∷◌, ◌++◌, length, slice_index_or}
use Rattle.std.proofs.Common.{arith, refl, subst, sym, inl, lit≤}
use Rattle.exact_forms.specs.Triangles.{triangle}
use Rattle.exact_forms.specs.Vectors.{ComesBefore}
use Rattle.symmetric_matrix.specs.Lists.{IsVector, CanFollow}
use Rattle.symmetric_matrix.specs.Symmetric.{FitsInt, IsLower}
use Rattle.symmetric_matrix.specs.StartVectors.{start_list, late_runs, runs_from, run_vector, run_digit}

pub two_vector : (a b : ℕ) → a ≤ 2 ^ 62 → b ≤ 2 ^ 62 → IsVector (a ∷ b ∷ [])
two_vector a b h k = record { nonempty = omega arith; short = omega arith; small = small }
  where
    small : (p : ℕ) → p < length (a ∷ b ∷ []) → slice_index_or (a ∷ b ∷ []) p 0 ≤ 2 ^ 62
    small zero l = h
    small (suc zero) l = k
    small (suc (suc p)) l = absurd (omega arith)

abbrev pub three : List (List ℕ)
three = (0 ∷ 1 ∷ []) ∷ (1 ∷ 0 ∷ []) ∷ (1 ∷ 1 ∷ []) ∷ []

pub three_is : start_list 2 ≡ three
unfolding start_list late_runs runs_from run_vector run_digit
three_is = refl

abbrev pub one : List (List ℕ)
one = (1 ∷ []) ∷ []

pub one_is : start_list 1 ≡ one
unfolding start_list late_runs runs_from run_vector run_digit
one_is = refl

lengths : (k : ℕ) → k < length three → length (slice_index_or three k []) ≡ 2
lengths zero l = refl
lengths (suc zero) l = refl
lengths (suc (suc zero)) l = refl
lengths (suc (suc (suc k))) l = absurd (omega arith)

four_lengths_at : (k : ℕ) → k < length (three ++ (2 ∷ 1 ∷ []) ∷ []) → length (slice_index_or (three ++ (2 ∷ 1 ∷ []) ∷ []) k []) ≡ 2
four_lengths_at zero l = refl
four_lengths_at (suc zero) l = refl
four_lengths_at (suc (suc zero)) l = refl
four_lengths_at (suc (suc (suc zero))) l = refl
four_lengths_at (suc (suc (suc (suc k)))) l = absurd (omega arith)

pub three_lengths : (k : ℕ) → k < length (start_list 2) → length (slice_index_or (start_list 2) k []) ≡ 2
three_lengths = subst (λ (xs : List (List ℕ)). (k : ℕ) → k < length xs → length (slice_index_or xs k []) ≡ 2) (sym three_is) lengths

pub four_lengths : (k : ℕ) → k < length (start_list 2 ++ (2 ∷ 1 ∷ []) ∷ []) → length (slice_index_or (start_list 2 ++ (2 ∷ 1 ∷ []) ∷ []) k []) ≡ 2
four_lengths =
    subst (λ (xs : List (List ℕ)). (k : ℕ) → k < length (xs ++ (2 ∷ 1 ∷ []) ∷ [])
    → length (slice_index_or (xs ++ (2 ∷ 1 ∷ []) ∷ []) k []) ≡ 2) (sym three_is) four_lengths_at

one_length_at : (k : ℕ) → k < length one → length (slice_index_or one k []) ≡ 1
one_length_at zero l = refl
one_length_at (suc k) l = absurd (omega arith)

pub one_lengths : (k : ℕ) → k < length (start_list 1) → length (slice_index_or (start_list 1) k []) ≡ 1
one_lengths = subst (λ (xs : List (List ℕ)). (k : ℕ) → k < length xs → length (slice_index_or xs k []) ≡ 1) (sym one_is) one_length_at

pub fourth_follows : CanFollow (start_list 2) (2 ∷ 1 ∷ [])
fourth_follows = subst (λ (xs : List (List ℕ)). CanFollow xs (2 ∷ 1 ∷ [])) (sym three_is) record { one_length = lengths; greater = λ k e. last k e }
  where
    last : (k : ℕ) → k + 1 ≡ length three → ComesBefore (slice_index_or three k []) (2 ∷ 1 ∷ [])
    last k e = subst (λ (k : ℕ). ComesBefore (slice_index_or three k []) (2 ∷ 1 ∷ [])) (let f : 2 ≡ k = omega arith in f) (inl (omega arith))

pub one_entry : (a : ℤ) → FitsInt a → IsLower 1 (a ∷ [])
unfolding triangle
one_entry a h = record { entries = refl; fits = fits }
  where
    fits : (k : ℕ) → k < length (a ∷ []) → FitsInt (slice_index_or (a ∷ []) k (pos 0))
    fits zero l = h
    fits (suc k) l = absurd (omega arith)

abbrev pub double : List (List ℕ)
double = (2 ∷ []) ∷ []

pub double_vector : IsVector (2 ∷ [])
double_vector = record { nonempty = omega arith; short = omega arith; small = small }
  where
    small : (p : ℕ) → p < length {A = ℕ} (2 ∷ []) → slice_index_or (2 ∷ []) p 0 ≤ 2 ^ 62
    small zero l = lit≤ tt
    small (suc p) l = absurd (omega arith)

pub double_lengths : (k : ℕ) → k < length double → length (slice_index_or double k []) ≡ 1
double_lengths zero l = refl
double_lengths (suc k) l = absurd (omega arith)

pub double_follows : CanFollow [] (2 ∷ [])
double_follows = record { one_length = λ k l. absurd (omega arith); greater = λ k e. absurd (omega arith) }
