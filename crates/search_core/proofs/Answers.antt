-- From a fair list each case of `settle` gives the search's answer.
use Rattle.std.specs.Prelude.{◌≡◌, ℕ, zero, suc, ◌<◌, ◌≤◌, ℤ, pos, negsuc, ◌≤ℤ◌, ◌⊎◌, List, [], ◌∷◌, ◌++◌, length}
use Rattle.std.proofs.Common.{arith, sym, ◌∙◌, ap, refl, inl, inr, subst}
use Rattle.std.proofs.lemmas.Int.{ints}
use Rattle.std.specs.List.{Contains}
use Rattle.exact_forms.specs.Forms.{IsSymmetric}
use Rattle.exact_forms.specs.Slacks.{AreNonnegative}
use Rattle.unimodular_cone.specs.Paths.{Path, IsAbove}
use Rattle.unimodular_cone.specs.declared.WideEntry.{WideEntry}
use Rattle.unimodular_cone.specs.Cones.{Matrix, gram, value, cone_at, unit_vectors, Fits}
use Rattle.unimodular_cone.specs.declared.Mode.{Mode}
use Rattle.unimodular_cone.specs.declared.Mode.TheVariants.{Sign, Least}
use Rattle.unimodular_cone.specs.Tree.{CanSplit, IsLowValue, IsLow, IsFinalBound, IsOpen, IsFirstOverBelow}
use Rattle.unimodular_cone.specs.Answer.{coordinate, Attains, IsIncreasing, SearchAnswer, Found, Copositive, Depth, IsSearchAnswer, IsClosedAnswer, IsClear}
use Rattle.unimodular_cone.specs.Answer.{IsListOf, IsOpenAnswer, BoundFits}
use Rattle.search_core.specs.Fair.{Fate, Judged, bound_under, IsSplit, HasPath, IsFair, code, code_of, start_word, least_value, IsLowFate}
use Rattle.search_core.proofs.PathFates.{IsClosedUnder}
use Rattle.search_core.proofs.ShownFates.{judged_fate}
use Rattle.unimodular_cone.proofs.Covers.{value_same, closed_attains}
use Rattle.unimodular_cone.proofs.Bounded.{closed_or_not}
use Rattle.unimodular_cone.proofs.Generators.{proper}
use Rattle.search_core.proofs.LeastValues.{least_value_attained, start_is_large}
use Rattle.unimodular_cone.proofs.Minimum.{nonneg_place, nonzero_vector}
use Rattle.unimodular_cone.proofs.Tree.{above_child, none_above_root, HasChildren, StopsAt, descend_from_root}
use Rattle.search_core.proofs.Settle.{IsLimitFate, split_or_limit, split_can}
use Rattle.search_core.proofs.Fairness.{NoLowBefore, NoOpenBefore, judged_in_tree, none_low, low_is_judged, limit_is_open, settles_low, settles_open}
use Rattle.search_core.proofs.Fairness.{settles_none_open}
use Rattle.search_core.proofs.Bound.{final_bound_Least}

pub final_bound : (m : Mode) (n : ℕ) (q : Matrix) (d : ℕ) (judged : List Judged) (final : ℕ) → IsSymmetric n q → IsFair m n q d judged final → d ≤ 200
    → 256 ≤ final → 0 < n → BoundFits m n q
    → IsFinalBound m n q d (bound_under m final)
final_bound Sign n q d judged final s fair small large some narrow = refl
final_bound Least n q d judged final s fair small large some narrow = final_bound_Least n q d judged final s fair small large some narrow

bound_positive : (final : ℕ) → pos 1 ≤ℤ bound_under Least final
bound_positive final = omega (arith, ints)

-- a code below 256 is the depth of a low cone
code_is_low : (m : Mode) (depth : ℕ) (z : ℤ) → code_of m depth z < 256 → IsLowValue m z × (code_of m depth z ≡ depth)
code_is_low Sign depth (pos z) h = absurd (omega arith)
code_is_low Sign depth (negsuc z) h = (omega (arith, ints), refl)
code_is_low Least depth (pos zero) h = (omega (arith, ints), refl)
code_is_low Least depth (pos (suc z)) h = absurd (omega arith)
code_is_low Least depth (negsuc z) h = (omega (arith, ints), refl)

-- judged, and no cone above it is closed at the final bound
pub record IsJudgedWay (m : Mode) (n : ℕ) (q : Matrix) (judged : List Judged) (final : ℕ) (p : Path) : Type 0 where
  pub has : HasPath judged p
  pub above : (a : Path) → IsAbove a p → ¬ IsClosedUnder m n q a final

module _ (m : Mode) (n : ℕ) (q : Matrix) (d : ℕ) (judged : List Judged) (final : ℕ) (s : IsSymmetric n q) (fair : IsFair m n q d judged final)
    (small : d ≤ 200) (some : 0 < n) where
  -- ---- Low
  pub some_low : final < 256 → (j : Judged) × Contains judged j × IsLowFate j.fate × (length j.path ≡ final)
  some_low lt = by fair.final_word.attained
    where
      by : ((final ≡ start_word m n q) ⊎ ((j : Judged) × Contains judged j × (final ≡ code m n q j.path)))
          → (j : Judged) × Contains judged j × IsLowFate j.fate × (length j.path ≡ final)
      by (inl e) = absurd (let h : 256 ≤ start_word m n q = start_is_large m _ in omega arith)
      by (inr (j, c, e)) =
          let z = code_is_low m (length j.path) (least_value n q (cone_at n q j.path)) (omega arith) in
          let r = least_value_attained n q (cone_at n q j.path) some in
          let low : IsLow m n q (cone_at n q j.path) = (r.0, r.1, subst (IsLowValue m) (sym r.2) z.0) in
          let depth : code m n q j.path ≡ length j.path = z.1 in
          let k = low_is_judged m n q d judged final s fair j.path (judged_in_tree m n q d judged final s fair j c) low (omega arith) in
          (k.0, k.1, k.3, ap length k.2 ∙ k.4)

  pub answers_low : BoundFits m n q → Fits n q unit_vectors → (j : Judged) → Contains judged j → (which : ℕ) → j.fate ≡ Fate.Low (suc which)
      → length j.path ≡ final
      → NoLowBefore judged final j
      → (x : List ℕ) (z : ℤ) → IsListOf n x (cone_at n q j.path which) → value n q (cone_at n q j.path) which ≡ z
      → IsSearchAnswer m n q d (SearchAnswer.Low x z j.path)
  answers_low narrow root_fits j c which e depth first x z vector val =
      let r = settles_low m n q d judged final s fair j c which e depth first in
      record { bound_fits = narrow; root_fits = root_fits; first_low = r.0; which = which; is_which = r.1; vector = vector; value = val }

  -- ---- no low cone
  module _ (large : 256 ≤ final) (narrow : BoundFits m n q) (root_fits : Fits n q unit_vectors) where
    clear : IsClear m n q d
    clear = record { bound_fits = narrow; root_fits = root_fits; none_low = none_low m n q d judged final s fair small large }

    is_bound : IsFinalBound m n q d (bound_under m final)
    is_bound = final_bound m n q d judged final s fair small large some narrow

    open_answer : (j : Judged) → Contains judged j → IsOpen n q d (bound_under m final) j.path
        → NoOpenBefore m n q d judged final j
        → IsOpenAnswer m n q d j.path
    open_answer j c o first =
        record {
          clear = clear;
          bound = bound_under m final;
          is_bound = is_bound;
          first_open = settles_open m n q d judged final s fair small large j c o first;
        }

    pub answers_depth : (j : Judged) → Contains judged j → length j.path ≡ d → IsOpen n q d (bound_under m final) j.path
        → NoOpenBefore m n q d judged final j
        → IsSearchAnswer m n q d (Depth j.path)
    answers_depth j c e o first = (open_answer j c o first, e)

    pub answers_wide : (j : Judged) → Contains judged j → length j.path < d → (at_path : Path) (entry : WideEntry) → IsFirstOverBelow n q j.path at_path entry
        → IsOpen n q d (bound_under m final) j.path
        → NoOpenBefore m n q d judged final j
        → IsSearchAnswer m n q d (SearchAnswer.Wide at_path entry)
    answers_wide j c lt at_path entry w o first = inr (j.path, open_answer j c o first, lt, w)

    -- ---- no open cone
    module _ (none : (k : Judged) → Contains judged k → IsLimitFate n q d k.path k.fate → ¬ IsOpen n q d (bound_under m final) k.path) where
      closed_answer : IsClosedAnswer m n q d (bound_under m final)
      closed_answer = record { clear = clear; is_bound = is_bound; none_open = settles_none_open m n q d judged final s fair small large none }

      judged_short : (p : Path) → HasPath judged p → length p ≤ d
      judged_short p (j, c, same) = subst (λ (w : Path). length w ≤ d) same (judged_in_tree m n q d judged final s fair j c).short

      step : (p : Path) → IsJudgedWay m n q judged final p → IsClosedUnder m n q p final ⊎ HasChildren n q (IsJudgedWay m n q judged final) p
      step p w = by (closed_or_not n (gram n q (cone_at n q p)) (bound_under m final))
        where
          at_above : (¬ IsClosedUnder m n q p final) → (a : Path) → ((a ≡ p) ⊎ IsAbove a p) → ¬ IsClosedUnder m n q a final
          at_above not_closed a (inl e) h = not_closed (subst (λ (r : Path). IsClosedUnder m n q r final) e h)
          at_above not_closed a (inr k) h = w.above a k h

          at_fate : (¬ IsClosedUnder m n q p final) → (j : Judged) → Contains judged j → j.path ≡ p → (IsSplit j.fate ⊎ IsLimitFate n q d j.path j.fate)
              → HasChildren n q (IsJudgedWay m n q judged final) p
          at_fate not_closed j c same (inr f) = absurd (none j c f (limit_is_open m n q d judged final s fair j c f
              (λ h. not_closed (subst (λ (r : Path). IsClosedUnder m n q r final) same h))
              (λ a k. w.above a (subst (IsAbove a) same k))))
          at_fate not_closed j c same (inl split) =
              let can : CanSplit n q (cone_at n q p) =
              subst (λ (r : Path). CanSplit n q (cone_at n q r)) same
              (split_can m n q d j.path j.fate (judged_fate m n q d final j (fair.judgements j c)) split).0 in
              record {
                i = can.i;
                j = can.j;
                pair = can.pair;
                children = λ side. record {
                  has = fair.due (p ++ side ∷ []) (inr (j, side, c, split, ap (λ (w : Path). w ++ side ∷ []) (sym same)));
                  above = λ a h. at_above not_closed a (above_child a p side h);
                };
              }

          at_judged : (¬ IsClosedUnder m n q p final) → HasPath judged p → HasChildren n q (IsJudgedWay m n q judged final) p
          at_judged not_closed (j, c, same) = at_fate not_closed j c same
              (split_or_limit m n q d final j.path j.fate small large (judged_fate m n q d final j (fair.judgements j c)) (fair.judgements j c).above_final
              (judged_in_tree m n q d judged final s fair j c).short
              (λ h. not_closed (subst (λ (r : Path). IsClosedUnder m n q r final) same h)))

          by : (IsClosedUnder m n q p final ⊎ (¬ IsClosedUnder m n q p final))
              → IsClosedUnder m n q p final ⊎ HasChildren n q (IsJudgedWay m n q judged final) p
          by (inl closed) = inl closed
          by (inr not_closed) = inr (at_judged not_closed w.has)

      -- each vector lies in a judged cone that is closed at the final bound
      pub lies_in_judged : (x : ℕ → ℤ) → AreNonnegative n x → StopsAt n q (IsJudgedWay m n q judged final) (λ p. IsClosedUnder m n q p final) x
      lies_in_judged x nonneg = descend_from_root n q (IsJudgedWay m n q judged final) (λ p. IsClosedUnder m n q p final) d x (λ p w. judged_short p w.has) step
          (record { has = fair.due [] (inl refl); above = λ a h. absurd (none_above_root a h) }) nonneg

-- ---- the closed answers
-- vectors lists the generators of judged cones whose value is z
pub record ListsJudged (n : ℕ) (q : Matrix) (judged : List Judged) (z : ℤ) (vectors : List (List ℕ)) : Type 0 where
  pub each : (x : List ℕ) → Contains vectors x → (j : Judged) × (k : ℕ) × Contains judged j × (k < n) × IsListOf n x (cone_at n q j.path k)
      × (value n q (cone_at n q j.path) k ≡ z)
  pub all : (j : Judged) (k : ℕ) (x : List ℕ) → Contains judged j → k < n → IsListOf n x (cone_at n q j.path k) → value n q (cone_at n q j.path) k ≡ z
      → Contains vectors x
  pub increasing : IsIncreasing vectors

module _ (n : ℕ) (q : Matrix) (d : ℕ) (judged : List Judged) (final : ℕ) (s : IsSymmetric n q) (fair : IsFair Least n q d judged final) (small : d ≤ 200)
    (some : 0 < n) (large : 256 ≤ final) (narrow : BoundFits Least n q) (root_fits : Fits n q unit_vectors)
    (none : (k : Judged) → Contains judged k → IsLimitFate n q d k.path k.fate → ¬ IsOpen n q d (bound_under Least final) k.path) where
  pub attaining_is_judged : (x : List ℕ) → Attains n q (bound_under Least final) x
      → (j : Judged) × (k : ℕ) × Contains judged j × (k < n) × ((p : ℕ) → p < n → coordinate x p ≡ cone_at n q j.path k p)
  attaining_is_judged x h =
      let r = lies_in_judged Least n q d judged final s fair small some large narrow root_fits none (coordinate x) (nonneg_place n x) in
      let g = closed_attains n q (cone_at n q r.path) (bound_under Least final) (coordinate x) s (bound_positive final) r.stops r.lies h.nonzero h.value in
      by r.path r.reached.has g.0 g.1 g.2
    where
      by : (p : Path) → HasPath judged p → (k : ℕ) → k < n → ((i : ℕ) → i < n → coordinate x i ≡ cone_at n q p k i) → (j : Judged) ×
          (k : ℕ) × Contains judged j × (k < n) × ((p : ℕ) → p < n → coordinate x p ≡ cone_at n q j.path k p)
      by p (j, c, same) k l e = (j, k, c, l, λ i li. e i li ∙ ap (λ (w : Path). cone_at n q w k i) (sym same))

  pub answers_found : (vectors : List (List ℕ)) → ListsJudged n q judged (bound_under Least final) vectors
      → IsSearchAnswer Least n q d (Found (bound_under Least final) vectors)
  answers_found vectors lists = (
    refl,
    closed_answer Least n q d judged final s fair small some large narrow root_fits none,
    record { each = each; all = all; increasing = lists.increasing },
  )
    where
      each : (x : List ℕ) → Contains vectors x → Attains n q (bound_under Least final) x
      each x c = by (lists.each x c)
        where
          by : ((j : Judged) × (k : ℕ) × Contains judged j × (k < n) × IsListOf n x (cone_at n q j.path k) ×
              (value n q (cone_at n q j.path) k ≡ bound_under Least final)) → Attains n q (bound_under Least final) x
          by (j, k, cj, l, vector, e) = record {
            size = vector.size;
            nonzero = nonzero_vector n x (cone_at n q j.path k) vector ((proper n q j.path).nonzero k l);
            value = value_same n q (coordinate x) (cone_at n q j.path k) vector.same ∙ e;
          }

      all : (x : List ℕ) → Attains n q (bound_under Least final) x → Contains vectors x
      all x a = by (attaining_is_judged x a)
        where
          by : ((j : Judged) × (k : ℕ) × Contains judged j × (k < n) × ((p : ℕ) → p < n → coordinate x p ≡ cone_at n q j.path k p)) → Contains vectors x
          by (j, k, cj, l, same) = lists.all j k x cj l (record { size = a.size; same = same })
              (sym (value_same n q (coordinate x) (cone_at n q j.path k) same) ∙ a.value)

pub answers_copositive : (n : ℕ) (q : Matrix) (d : ℕ) (judged : List Judged) (final : ℕ) → IsSymmetric n q → IsFair Sign n q d judged final → d ≤ 200 → 0 < n
    → 256 ≤ final → Fits n q unit_vectors
    → ((k : Judged) → Contains judged k → IsLimitFate n q d k.path k.fate → ¬ IsOpen n q d (bound_under Sign final) k.path)
    → IsSearchAnswer Sign n q d Copositive
answers_copositive n q d judged final s fair small some large root_fits none =
    (refl, closed_answer Sign n q d judged final s fair small some large tt root_fits none)
