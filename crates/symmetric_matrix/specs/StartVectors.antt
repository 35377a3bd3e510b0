-- The vectors that a search begins with: each coordinate is 0 or 1, and the ones are consecutive and not none.
--
--     Run                        the places from first to last, counted from 0
--     run_digit r p              1 at the places of the run, and 0 elsewhere
--     run_vector n r             the vector of n places with these digits
--     runs_from first m          the m runs that begin at first, the shortest first
--     late_runs n m              the runs within n places that begin at one of the last m, a later beginning first
--     start_runs n               all runs within n places, in that order
--     start_list n               their vectors
--     IsRunWithin n r            its places are below n, and there is one
--     IsStartVector n x          x has n places, and ones at the places of one run within them
--     ListsStartVectors n list   the list has each of these once, in increasing lexicographic order, and nothing else
use Rattle.std.specs.Prelude.{◌≡◌, ℕ, ◌+◌, ◌-◌, ◌<◌, ◌≤◌, ◌&&◌, nat_le, if◌then◌else◌, List, map}
use Rattle.std.specs.List.{Contains, range_with_len, flat_map}
use Rattle.exact_forms.specs.Vectors.{IsIncreasing}

pub record Run : Type 0 where
  pub first : ℕ
  pub last : ℕ

unfoldable pub run_digit : Run → ℕ → ℕ
run_digit r p = if nat_le r.first p && nat_le p r.last then 1 else 0

unfoldable pub run_vector : ℕ → Run → List ℕ
run_vector n r = map (run_digit r) (range_with_len 0 n)

unfoldable pub runs_from : ℕ → ℕ → List Run
runs_from first m = map (λ k. record { first = first; last = k }) (range_with_len first m)

unfoldable pub late_runs : ℕ → ℕ → List Run
late_runs n m = flat_map (λ k. runs_from (n - (k + 1)) (k + 1)) (range_with_len 0 m)

abbrev pub start_runs : ℕ → List Run
start_runs n = late_runs n n

unfoldable pub start_list : ℕ → List (List ℕ)
start_list n = map (run_vector n) (start_runs n)

pub record IsRunWithin (n : ℕ) (r : Run) : Type 0 where
  pub ordered : r.first ≤ r.last
  pub inside : r.last < n

abbrev pub IsStartVector : ℕ → List ℕ → Type 0
IsStartVector n x = (r : Run) × IsRunWithin n r × (x ≡ run_vector n r)

pub record ListsStartVectors (n : ℕ) (list : List (List ℕ)) : Type 0 where
  pub each : (x : List ℕ) → Contains list x → IsStartVector n x
  pub all : (x : List ℕ) → IsStartVector n x → Contains list x
  pub increasing : IsIncreasing list
