-- Each step keeps the rule.
use Rattle.std.proofs.Common.{◌≡◌, ◌≢◌, ℕ, zero, suc, ◌+◌, ◌≤◌, min, cond, Bool, true, false, true≢false, List, [], ◌∷◌, ◌++◌, slice_set, slice_index, refl}
use Rattle.std.proofs.Common.{sym, ap, ◌∙◌, subst, le_of_eq, le_trans, arith}
use mathlib.Core.Option.{some, some-injective, some-ne-none}
use lib.ListN.{get_elem?}
use Rattle.atomic_table.specs.Table.{State, keeps, Allows, Splits, Joins, Final, Seen}
use Rattle.bound_word.specs.Falling.{View, greatest_word, opening_view, another_view, away_view, with_one_more, joined_view, least_given, bound, first_views}
use Rattle.bound_word.specs.Falling.{present, IsFallingWord, IsWordOffer}
use Rattle.bound_word.proofs.Each.{each_set, each_snoc, each_one}
use Rattle.bound_word.proofs.Views.{least_top, least_at, least_set, least_same, least_snoc, least_gone, least_alone}
use Rattle.bound_word.proofs.Totals.{total_set, total_snoc, total_two, still_there, first_set}

abbrev is_first : View → ℕ
is_first v = cond v.first 1 0

abbrev is_here : View → ℕ
is_here v = cond v.away 0 1

abbrev Holds : ℕ → State (Unit {0}) View → Type 0
Holds start s = IsFallingWord start s.words s.views

pub opens : (start : ℕ) → start ≤ greatest_word → IsFallingWord start (start ∷ 1 ∷ []) (opening_view start ∷ [])
opens start fits = let w = opening_view start in record {
  count = 1;
  word = ap (λ n. n ∷ 1 ∷ []) (omega arith);
  told = each_one (λ (v : View). bound start (w ∷ []) ≤ v.told) w (omega arith);
  gone = each_one (λ (v : View). v.away ≡ true → v ≡ away_view) w (λ e. absurd (true≢false (sym e)));
  one_first = refl;
  out = each_one (λ (v : View). v.first ≡ true → v.out + 1 ≡ 1) w (λ e. refl);
  out_before = each_one (λ (v : View). 1 ≤ v.out_before) w (omega arith);
}

-- a step that keeps what counts of a view: its place among the views, and the bound where it is what it was
counts_same : (start : ℕ) (words : List ℕ) (vs : List View) (k : ℕ) (v : View) → get_elem? vs k ≡ some v → slice_set vs k v ≡ vs
counts_same start words [] k v at = refl
counts_same start words (x ∷ xs) zero v at = ap (λ y. y ∷ xs) (sym (some-injective x v at))
counts_same start words (x ∷ xs) (suc k) v at = ap (λ ys. x ∷ ys) (counts_same start words xs k v at)

counts_hold : (start id : ℕ) (v : View) (f : ℕ → ℕ) (s : State (Unit {0}) View) → Holds start s → get_elem? s.views id ≡ some v
    → IsFallingWord start (slice_set s.words 1 (f (slice_index s.words 1))) (slice_set s.views id v)
counts_hold start id v f s h at =
    subst (λ vs. IsFallingWord start (slice_set s.words 1 (f (slice_index s.words 1))) vs) (sym (counts_same start s.words s.views id v at)) record {
      count = f (slice_index s.words 1);
      word = ap (λ ws. slice_set ws 1 (f (slice_index s.words 1))) h.word;
      told = h.told;
      gone = h.gone;
      one_first = h.one_first;
      out = h.out;
      out_before = h.out_before;
    }

pub counts : (start slots id : ℕ) (v : View) (carried : List (ℕ × Unit {0})) (f : ℕ → ℕ)
    → Allows (Holds start) slots id (v, carried) 1 f (λ n w. w ≡ (v, carried))
counts start slots id v carried f s h homes at fits = (v, keeps, tt, counts_hold start id v f s h at, refl)

-- the same, and what the rule says of the view
pub looks : (start slots id : ℕ) (v : View) (carried : List (ℕ × Unit {0}))
    → Allows (Holds start) slots id (v, carried) 1 (λ n. n) (λ n w. (w ≡ (v, carried)) × (1 ≤ v.out_before))
looks start slots id v carried s h homes at fits = (v, keeps, tt, counts_hold start id v (λ n. n) s h at, (refl, h.out_before id v at))

pub offers : (start slots id code : ℕ) (v : View) (carried : List (ℕ × Unit {0})) → v.away ≡ false
    → Allows (Holds start) slots id (v, carried) 0 (λ n. min n code) (λ n w. IsWordOffer code v n w.0 × (w.1 ≡ carried))
offers start slots id code v carried here s h homes at fits =
    let found : ℕ = slice_index s.words 0 in
    let w : View = record { given = min v.given code; told = min found code; first = v.first; out = v.out; out_before = v.out_before; away = v.away } in
    let vs : List View = slice_set s.views id w in
    let is : found ≡ bound start s.views = ap (λ ws. slice_index ws 0) h.word in
    let least : least_given vs ≡ min (least_given s.views) code = least_set s.views id v w code at refl in
    let falls : bound start vs ≡ min found code = omega arith in
    let heres : present vs ≡ present s.views = (let t = total_set is_here s.views id v w at in omega arith) in
    let firsts_same : first_views vs ≡ first_views s.views = (let t = total_set is_first s.views id v w at in omega arith) in
    let lower : bound start vs ≤ bound start s.views = omega arith in (
      w,
      keeps,
      tt,
      record {
        count = h.count;
        word = ap (λ ws. slice_set ws 0 (min found code)) h.word ∙ ap (λ n. n ∷ h.count ∷ []) (sym falls);
        told = each_set (λ (u : View). bound start vs ≤ u.told) s.views id w (le_of_eq falls) (λ k u there. le_trans lower (h.told k u there));
        gone = each_set (λ (u : View). u.away ≡ true → u ≡ away_view) s.views id w (λ e. absurd (true≢false (sym e ∙ here))) h.gone;
        one_first = firsts_same ∙ h.one_first;
        out = each_set (λ (u : View). u.first ≡ true → u.out + 1 ≡ present vs) s.views id w (λ e. h.out id v at e ∙ sym heres)
            (λ k u there e. h.out k u there e ∙ sym heres);
        out_before = each_set (λ (u : View). 1 ≤ u.out_before) s.views id w (h.out_before id v at) h.out_before;
      },
      (
        record {
          below = subst (λ n. n ≤ v.told) (sym is) (h.told id v at);
          given = refl;
          told = refl;
          first = refl;
          out = refl;
          out_before = refl;
          away = refl;
        },
        refl,
      ),
    )

pub splits : (start id : ℕ) (v : View) → v.first ≡ true → v.away ≡ false → Splits (Holds start) id v (with_one_more v) (another_view v)
splits start id v first here s h at =
    let l : View = with_one_more v in
    let r : View = another_view v in
    let vs : List View = slice_set s.views id l in
    let all : List View = vs ++ r ∷ [] in
    let same : bound start all ≡ bound start s.views = (let a = least_snoc vs r refl in let b = least_same s.views id v l at refl in omega arith) in
    let one_more : present all ≡ present s.views + 1 = (let a = total_set is_here s.views id v l at in let b = total_snoc is_here vs r in omega arith) in
    let firsts_same : first_views all ≡ first_views s.views =
    (let a = total_set is_first s.views id v l at in let b = total_snoc is_first vs r in omega arith) in
    let lower : bound start all ≤ bound start s.views = le_of_eq same in
    let Told : View → Type 0 = λ u. bound start all ≤ u.told in
    let Gone : View → Type 0 = λ u. u.away ≡ true → u ≡ away_view in
    let Alone : View → Type 0 = λ u. u.out + 1 ≡ present all in let Out : View → Type 0 = λ u. u.first ≡ true → Alone u in
    let Before : View → Type 0 = λ u. 1 ≤ u.out_before in
    let mine : Told v = le_trans lower (h.told id v at) in record {
      count = h.count;
      word = h.word ∙ ap (λ n. n ∷ h.count ∷ []) (sym same);
      told = each_snoc Told vs r mine (each_set Told s.views id l mine (λ k u there. le_trans lower (h.told k u there)));
      gone = each_snoc Gone vs r (λ e. absurd (true≢false (sym e))) (each_set Gone s.views id l (λ e. absurd (true≢false (sym e ∙ here))) h.gone);
      one_first = firsts_same ∙ h.one_first;
      out = each_snoc Out vs r (λ e. absurd (true≢false (sym e)))
          (first_set (λ (u : View). u.first) Alone s.views id v l at first h.one_first (let a = h.out id v at first in omega arith));
      out_before = each_snoc Before vs r (omega arith) (each_set Before s.views id l (h.out_before id v at) h.out_before);
    }

set_there : (vs : List View) (k : ℕ) (v w : View) → get_elem? vs k ≡ some v → get_elem? (slice_set vs k w) k ≡ some w
set_there [] k v w at = absurd (some-ne-none v (sym at))
set_there (x ∷ xs) zero v w at = refl
set_there (x ∷ xs) (suc k) v w at = set_there xs k v w at

pub joins : (start id other : ℕ) (v w : View) → v.first ≡ true → v.away ≡ false → w.first ≡ false → w.away ≡ false
    → Joins (Holds start) id v other w (joined_view v w) away_view
joins start id other v w first here second there s h at apart at' =
    let both : View = joined_view v w in
    let vs : List View = slice_set s.views id both in
    let all : List View = slice_set vs other away_view in
    let was = still_there s.views id other both w apart at' in
    let kept : get_elem? vs id ≡ some both = set_there s.views id v both at in
    let one : is_here v ≡ 1 = ap (λ c. cond c 0 1) here in
    let two : is_here w ≡ 1 = ap (λ c. cond c 0 1) there in
    let none : is_first w ≡ 0 = ap (λ c. cond c 1 0) second in
    let least : least_given all ≡ least_given s.views =
    (let a = least_set s.views id v both w.given at refl in let b = least_at s.views other w was in
    let c = least_gone vs id other both w away_view kept at' apart (omega arith) refl in omega arith) in
    let same : bound start all ≡ bound start s.views = ap (min start) least in
    let fewer : present all + 1 ≡ present s.views =
    (let a = total_set is_here s.views id v both at in let b = total_set is_here vs other w away_view at' in omega arith) in
    let more : 2 ≤ present s.views = (let a = total_two is_here s.views other id w v was at apart in omega arith) in
    let firsts_same : first_views all ≡ first_views s.views =
    (let a = total_set is_first s.views id v both at in let b = total_set is_first vs other w away_view at' in omega arith) in
    let lower : bound start all ≤ bound start s.views = le_of_eq same in
    let Told : View → Type 0 = λ u. bound start all ≤ u.told in
    let Gone : View → Type 0 = λ u. u.away ≡ true → u ≡ away_view in
    let Alone : View → Type 0 = λ u. u.out + 1 ≡ present all in let Out : View → Type 0 = λ u. u.first ≡ true → Alone u in
    let Before : View → Type 0 = λ u. 1 ≤ u.out_before in
    let mine : Told both = (let a = h.told id v at in let b = h.told other w was in omega arith) in
    let gone : Told away_view = (let a = least_top all in omega arith) in record {
      count = h.count;
      word = h.word ∙ ap (λ n. n ∷ h.count ∷ []) (sym same);
      told = each_set Told vs other away_view gone (each_set Told s.views id both mine (λ k u there. le_trans lower (h.told k u there)));
      gone = each_set Gone vs other away_view (λ e. refl) (each_set Gone s.views id both (λ e. absurd (true≢false (sym e ∙ here))) h.gone);
      one_first = firsts_same ∙ h.one_first;
      out = each_set Out vs other away_view (λ e. absurd (true≢false (sym e)))
          (first_set (λ (u : View). u.first) Alone s.views id v both at first h.one_first (let a = h.out id v at first in omega arith));
      out_before = each_set Before vs other away_view (omega arith) (each_set Before s.views id both (let a = h.out id v at first in omega arith) h.out_before);
    }

-- what is known at the end, with no other seat out
pub closes : (start id : ℕ) (v : View) (words : List ℕ) (slots : List (Unit {0})) (n : ℕ) → v.first ≡ true → v.away ≡ false → v.out ≡ 0
    → v.given ≤ greatest_word → Final (Seen (Holds start) id v) words slots
    → get_elem? words 0 ≡ some n → (n ≡ min start v.given) × (n ≤ v.told)
closes start id v words slots n first here out fits last at =
    let s : State (Unit {0}) View = last.0 in
    let h : IsFallingWord start s.words s.views = last.1.0 in
    let mine : get_elem? s.views id ≡ some v = last.1.1 in
    let is : n ≡ bound start s.views = some-injective n (bound start s.views) (sym at ∙ ap (λ ws. get_elem? ws 0) (sym last.2 ∙ h.word)) in
    let one : present s.views ≡ 1 = (let a = h.out id v mine first in omega arith) in
    let v_here : is_here v ≡ 1 = ap (λ c. cond c 0 1) here in
    let others : (j : ℕ) (u : View) → get_elem? s.views j ≡ some u → j ≢ id → u.given ≡ greatest_word =
    λ j u there apart.
    gone_gives u (h.gone j u there) (λ e. (let t = total_two is_here s.views j id u v there mine apart in
    let x : is_here u ≡ 1 = ap (λ c. cond c 0 1) e in absurd (omega arith))) in
    let least : least_given s.views ≡ v.given = least_alone s.views id v mine others fits in
    (is ∙ ap (min start) least, subst (λ k. k ≤ v.told) (sym is) (h.told id v mine))
  where
    by : (u : View) (b : Bool) → u.away ≡ b → (u.away ≡ true → u ≡ away_view) → (u.away ≡ false → ⊥) → u.given ≡ greatest_word
    by u true e gone not = ap (λ (y : View). y.given) (gone e)
    by u false e gone not = absurd (not e)

    gone_gives : (u : View) → (u.away ≡ true → u ≡ away_view) → (u.away ≡ false → ⊥) → u.given ≡ greatest_word
    gone_gives u gone not = by u u.away refl gone not
