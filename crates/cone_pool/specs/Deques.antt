-- The rule of a deque of paths. A pass is what one thread carries to take part in the deque, and its account is what
-- the proofs know of it.
--
--     account put taken first out away  the account with these fields
--     opening_account        the account of the owner of a new deque
--     another_account        the account that another thread's pass begins with
--     away_account           what is left of an account whose pass was joined into another
--     account_with_one_more v  v after another pass was split off
--     joined_account v w     v after w was joined into it
--     account_of pass        the account of a pass
--     first_accounts vs      how many accounts are first
--     present_accounts vs    how many accounts were not joined away
--     IsBalanced items vs    what was put is, path by path, what is left or was taken; one account is first, and its
--                            `out` is the number of the others that were not joined away
--     PutsPaths v paths w    v became w when the paths were put
--     TakesPaths v paths w   v became w when the paths were taken
--     TookNoMoreThanPut v    where v is the first and no other is in use, it took no path more often than it put it
--     TakesPathsWithin v paths w  TakesPaths, and w took no more than it put
--     TookAllThatItPut v     where v is the first and no other is in use, what it put is what it took
use Rattle.std.specs.Prelude.{◌≡◌, ◌≤◌, ℕ, ◌+◌, ◌-◌, Bool, true, false, cond, List, [], ◌∷◌, ◌++◌}
use mathlib.Core.Option.{some}
use lib.ListN.{get_elem?}
use Rattle.std.specs.Global.{Global}
use Rattle.crossbeam_deque.specs.Handles.{Pass, view}
use Rattle.unimodular_cone.specs.Paths.{Path}
use Rattle.search_core.specs.Machine.{times}
use Rattle.bound_word.specs.Totals.{total_of}
pub use Rattle.cone_pool.specs.declared.rule.Account.{Account}

abbrev pub account : List Path → List Path → Bool → ℕ → Bool → Account
account put taken first out away = record { put = put; taken = taken; first = first; out = out; away = away }

abbrev pub opening_account : Account
opening_account = account [] [] true 0 false

abbrev pub another_account : Account
another_account = account [] [] false 0 false

abbrev pub away_account : Account
away_account = account [] [] false 0 true

abbrev pub account_with_one_more : Account → Account
account_with_one_more v = account v.put v.taken v.first (v.out + 1) v.away

abbrev pub joined_account : Account → Account → Account
joined_account v w = account (v.put ++ w.put) (v.taken ++ w.taken) v.first (v.out - 1) v.away

abbrev pub account_of : Pass Path Account Global → Account
account_of pass = view pass

abbrev pub first_accounts : List Account → ℕ
first_accounts vs = total_of (λ (v : Account). cond v.first 1 0) vs

abbrev pub present_accounts : List Account → ℕ
present_accounts vs = total_of (λ (v : Account). cond v.away 0 1) vs

pub record IsBalanced (items : List Path) (vs : List Account) : Type 0 where
  pub balanced : (p : Path)
      → total_of (λ (v : Account). times p v.put) vs ≡ total_of (λ (v : Account). times p v.taken) vs + times p items
  pub gone : (k : ℕ) (v : Account) → get_elem? vs k ≡ some v → v.away ≡ true → v ≡ away_account
  pub one_first : first_accounts vs ≡ 1
  pub out : (k : ℕ) (v : Account) → get_elem? vs k ≡ some v → v.first ≡ true → v.out + 1 ≡ present_accounts vs

abbrev pub PutsPaths : Account → List Path → Account → Type 0
PutsPaths v paths w = w ≡ account (v.put ++ paths) v.taken v.first v.out v.away

abbrev pub TakesPaths : Account → List Path → Account → Type 0
TakesPaths v paths w = w ≡ account v.put (v.taken ++ paths) v.first v.out v.away

abbrev pub TookNoMoreThanPut : Account → Type 0
TookNoMoreThanPut v = v.first ≡ true → v.away ≡ false → v.out ≡ 0 → (p : Path) → times p v.taken ≤ times p v.put

abbrev pub TakesPathsWithin : Account → List Path → Account → Type 0
TakesPathsWithin v paths w = TakesPaths v paths w × TookNoMoreThanPut w

abbrev pub TookAllThatItPut : Account → Type 0
TookAllThatItPut v = v.first ≡ true → v.away ≡ false → v.out ≡ 0 → (p : Path) → times p v.put ≡ times p v.taken
