-- Each step on a deque keeps the balance.
use Rattle.std.proofs.Common.{◌≡◌, ◌≢◌, ℕ, ◌+◌, ◌≤◌, ◌⊎◌, cond, true, false, true≢false, List, [], ◌∷◌, ◌++◌, slice_set, refl, sym, ap, ◌∙◌, subst, ⊎_elim}
use Rattle.std.proofs.Common.{arith}
use mathlib.Core.Option.{some}
use lib.ListN.{get_elem?}
use Rattle.commutative_ring.proofs.SmallCases.{true_or_false}
use Rattle.crossbeam_deque.specs.Tasks.{Pushes, Takes, Pops, Finds, Forks, Merges}
use Rattle.unimodular_cone.specs.Paths.{Path}
use Rattle.search_core.specs.Machine.{times}
use Rattle.search_core.proofs.Times.{times-append, times_none}
use Rattle.cone_pool.specs.Deques.{Account, account, opening_account, another_account, away_account, account_with_one_more, joined_account, first_accounts}
use Rattle.cone_pool.specs.Deques.{present_accounts, IsBalanced, PutsPaths, TakesPaths, TakesPathsWithin, TookAllThatItPut}
use Rattle.bound_word.proofs.Each.{each_set, each_snoc, each_one}
use Rattle.bound_word.proofs.Totals.{total_set, total_snoc, total_two, total_alone, still_there, first_set}

abbrev is_first : Account → ℕ
is_first v = cond v.first 1 0

abbrev is_here : Account → ℕ
is_here v = cond v.away 0 1

abbrev puts : Path → Account → ℕ
puts p v = times p v.put

abbrev takes : Path → Account → ℕ
takes p v = times p v.taken

-- what is to hold of each account, where n are present
abbrev Gone : Account → Type 0
Gone u = u.away ≡ true → u ≡ away_account

abbrev Alone : ℕ → Account → Type 0
Alone n u = u.out + 1 ≡ n

abbrev Out : ℕ → Account → Type 0
Out n u = u.first ≡ true → Alone n u

pub begins : IsBalanced [] (opening_account ∷ [])
begins = record {
  balanced = λ p. (let a = times_none p in omega arith);
  gone = each_one Gone opening_account (λ e. absurd (true≢false (sym e)));
  one_first = refl;
  out = each_one (Out 1) opening_account (λ e. refl);
}

-- an account that changes only in what it put and took
pub changes : (items items' : List Path) (accounts : List Account) (k : ℕ) (v : Account) (put taken : List Path) → v.away ≡ false
    → get_elem? accounts k ≡ some v
    → ((p : Path) → times p put + times p v.taken + times p items ≡ times p v.put + times p taken + times p items')
    → IsBalanced items accounts → IsBalanced items' (slice_set accounts k (account put taken v.first v.out v.away))
changes items items' accounts k v put taken here at same h =
    let w : Account = account put taken v.first v.out v.away in
    let vs : List Account = slice_set accounts k w in
    let heres : present_accounts vs ≡ present_accounts accounts = (let t = total_set is_here accounts k v w at in omega arith) in
    let firsts_same : first_accounts vs ≡ first_accounts accounts = (let t = total_set is_first accounts k v w at in omega arith) in record {
      balanced = λ p. (let a = total_set (puts p) accounts k v w at in let b = total_set (takes p) accounts k v w at in let c = h.balanced p in
          let d = same p in omega arith);
      gone = each_set Gone accounts k w (λ e. absurd (true≢false (sym e ∙ here))) h.gone;
      one_first = firsts_same ∙ h.one_first;
      out = each_set (Out (present_accounts vs)) accounts k w (λ e. h.out k v at e ∙ sym heres)
          (λ j u there e. h.out j u there e ∙ sym heres);
    }

pub pushes : (port : ℕ) (v : Account) (xs : List Path) → v.away ≡ false → Pushes IsBalanced port v xs (PutsPaths v xs)
pushes port v xs here items accounts h at = (
  account (v.put ++ xs) v.taken v.first v.out v.away,
  changes items (items ++ xs) accounts port v (v.put ++ xs) v.taken here at (λ p. omega (arith, times-append p v.put xs, times-append p items xs)) h,
  refl,
)

pub steals : (port : ℕ) (v : Account) (most : ℕ) → v.away ≡ false → Takes IsBalanced port v most (TakesPaths v)
steals port v most here xs items accounts enough few h at = (
  account v.put (v.taken ++ xs) v.first v.out v.away,
  changes (xs ++ items) items accounts port v v.put (v.taken ++ xs) here at (λ p. omega (arith, times-append p v.taken xs, times-append p xs items)) h,
  refl,
)

gone_is_empty : (p : Path) (u : Account) → u ≡ away_account → (times p u.put ≡ 0) × (times p u.taken ≡ 0)
gone_is_empty p u e = (ap (λ (v : Account). times p v.put) e ∙ times_none p, ap (λ (v : Account). times p v.taken) e ∙ times_none p)

away_or_here : (u : Account) → (u.away ≡ true) ⊎ (u.away ≡ false)
away_or_here u = true_or_false u.away

-- with no other pass in use, all other accounts are empty
own_balance : (port : ℕ) (v : Account) (items : List Path) (accounts : List Account) → IsBalanced items accounts → get_elem? accounts port ≡ some v
    → v.first ≡ true → v.away ≡ false → v.out ≡ 0 → (p : Path) → times p v.put ≡ times p v.taken + times p items
own_balance port v items accounts h at first here out p =
    let one : present_accounts accounts ≡ 1 = (let a = h.out port v at first in omega arith) in
    let v_here : is_here v ≡ 1 = ap (λ c. cond c 0 1) here in
    let others : (j : ℕ) (u : Account) → get_elem? accounts j ≡ some u → j ≢ port → u ≡ away_account = λ j u there apart. ⊎_elim
    (λ (e : u.away ≡ true). h.gone j u there e)
    (λ (e : u.away ≡ false). (let t = total_two is_here accounts j port u v there at apart in let x : is_here u ≡ 1 = ap (λ c. cond c 0 1) e in
    absurd (omega arith)))
    (away_or_here u) in
    let a = total_alone (puts p) accounts port v at (λ j u there apart. (gone_is_empty p u (others j u there apart)).0) in
    let b = total_alone (takes p) accounts port v at (λ j u there apart. (gone_is_empty p u (others j u there apart)).1) in
    let c = h.balanced p in
    omega arith

pub pops : (port : ℕ) (v : Account) → v.away ≡ false → Pops IsBalanced port v (TakesPathsWithin v)
pops port v here x items accounts h at = (
  account v.put (v.taken ++ x ∷ []) v.first v.out v.away,
  changes (items ++ x ∷ []) items accounts port v v.put
      (v.taken ++ x ∷ []) here at (λ p. omega (arith, times-append p v.taken (x ∷ []), times-append p items (x ∷ []))) h,
  (
    refl,
    λ first away out p. (let a = own_balance port v (items ++ x ∷ []) accounts h at first away out p in
        omega (arith, times-append p v.taken (x ∷ []), times-append p items (x ∷ []))),
  ),
)

pub all_taken : (port : ℕ) (v : Account) → Finds IsBalanced port v (TookAllThatItPut v)
all_taken port v accounts h at first here out p = let a = own_balance port v [] accounts h at first here out p in omega (arith, times_none p)

pub forks : (port : ℕ) (v : Account) → v.first ≡ true → v.away ≡ false → Forks IsBalanced port v (account_with_one_more v) another_account
forks port v first here items accounts h at =
    let l : Account = account_with_one_more v in
    let vs : List Account = slice_set accounts port l in
    let all : List Account = vs ++ another_account ∷ [] in
    let one_more : present_accounts all ≡ present_accounts accounts + 1 =
    (let a = total_set is_here accounts port v l at in let b = total_snoc is_here vs another_account in omega arith) in
    let firsts_same : first_accounts all ≡ first_accounts accounts =
    (let a = total_set is_first accounts port v l at in let b = total_snoc is_first vs another_account in omega arith) in record {
      balanced = λ p. (let a = total_set (puts p) accounts port v l at in let b = total_set (takes p) accounts port v l at in
          let c = total_snoc (puts p) vs another_account in let d = total_snoc (takes p) vs another_account in
          let e = h.balanced p in let g = times_none p in omega arith);
      gone = each_snoc Gone vs another_account (λ e. absurd (true≢false (sym e)))
          (each_set Gone accounts port l (λ e. absurd (true≢false (sym e ∙ here))) h.gone);
      one_first = firsts_same ∙ h.one_first;
      out = each_snoc (Out (present_accounts all)) vs another_account (λ e. absurd (true≢false (sym e)))
          (first_set (λ (u : Account). u.first) (Alone (present_accounts all)) accounts port v l at first h.one_first
          (let a = h.out port v at first in omega arith));
    }

pub merges : (port : ℕ) (v : Account) (other : ℕ) (w : Account) → v.first ≡ true → v.away ≡ false → w.first ≡ false → w.away ≡ false
    → Merges IsBalanced port v other w (joined_account v w) away_account
merges port v other w first here second there items accounts h at apart at' =
    let both : Account = joined_account v w in
    let vs : List Account = slice_set accounts port both in
    let all : List Account = slice_set vs other away_account in
    let was = still_there accounts port other both w apart at' in
    let one : is_here v ≡ 1 = ap (λ c. cond c 0 1) here in
    let two : is_here w ≡ 1 = ap (λ c. cond c 0 1) there in
    let none : is_first w ≡ 0 = ap (λ c. cond c 1 0) second in
    let fewer : present_accounts all + 1 ≡ present_accounts accounts =
    (let a = total_set is_here accounts port v both at in let b = total_set is_here vs other w away_account at' in omega arith) in
    let more : 2 ≤ present_accounts accounts = (let a = total_two is_here accounts other port w v was at apart in omega arith) in
    let firsts_same : first_accounts all ≡ first_accounts accounts =
    (let a = total_set is_first accounts port v both at in let b = total_set is_first vs other w away_account at' in omega arith) in record {
      balanced = λ p. (let a = total_set (puts p) accounts port v both at in let b = total_set (takes p) accounts port v both at in
          let c = total_set (puts p) vs other w away_account at' in let d = total_set (takes p) vs other w away_account at' in
          let e = h.balanced p in let g = times_none p in omega (arith, times-append p v.put w.put, times-append p v.taken w.taken));
      gone = each_set Gone vs other away_account (λ e. refl) (each_set Gone accounts port both (λ e. absurd (true≢false (sym e ∙ here))) h.gone);
      one_first = firsts_same ∙ h.one_first;
      out = each_set (Out (present_accounts all)) vs other away_account (λ e. absurd (true≢false (sym e)))
          (first_set (λ (u : Account). u.first) (Alone (present_accounts all)) accounts port v both at first h.one_first
          (let a = h.out port v at first in omega arith));
    }
