-- What is settled from some judgements of a fair list that have all relevant ones.
use Rattle.std.specs.Prelude.{◌≡◌, ◌≢◌, ℕ, suc, ◌<◌, ◌≤◌, ◌-◌, ℤ, pos, ◌≤ℤ◌, ◌⊎◌, List, length}
use Rattle.std.specs.List.{Contains}
use Rattle.std.proofs.Common.{arith, sym, ◌∙◌, ap, refl, inl, inr, subst}
use Rattle.commutative_ring.proofs.SmallCases.{below_unless_same}
use Rattle.exact_forms.specs.Forms.{IsSymmetric}
use Rattle.symmetric_matrix.specs.Symmetric.{Symmetric, entry}
use Rattle.unimodular_cone.specs.declared.Mode.{Mode}
use Rattle.unimodular_cone.specs.declared.Mode.TheVariants.{Sign, Least}
use Rattle.unimodular_cone.specs.declared.WideAt.{WideAt}
use Rattle.unimodular_cone.specs.Paths.{Path}
use Rattle.unimodular_cone.specs.Cones.{Matrix, value, cone_at, unit_vectors, Fits}
use Rattle.unimodular_cone.specs.Tree.{IsFirstLowAt, IsOpen, IsFirstOverBelow}
use Rattle.unimodular_cone.specs.Answer.{SearchAnswer, IsSearchAnswer, BoundFits, IsListOf}
use Rattle.unimodular_cone.specs.Shown.{ShownCone, shown_gram, shown_generators, IsConeAt}
use Rattle.unimodular_cone.proofs.Unique.{both_le}
use Rattle.search_core.specs.Fair.{Fate, Closed, Split, Low, Dropped, AtLimit, Wide, Judged, word_of, bound_under, least_value, IsEndFate, IsFairPart, IsFairEnds}
use Rattle.search_core.specs.Fair.{HasGenerator, HasAllRelevant}
use Rattle.search_core.proofs.PathFates.{IsPathFate}
use Rattle.search_core.proofs.ShownFates.{judged_fate}
use Rattle.search_core.specs.Scans.{IsLowOf, IsOpenEnd, IsFirstWith, AreInTree}
use Rattle.search_core.specs.Attaining.{ListsGenerators}
use Rattle.search_core.specs.declared.settling.End.{End}
use Rattle.search_core.specs.Ends.{IsEndOf, NamesEnd}
use Rattle.search_core.proofs.LeastValues.{least_value_le, least_value_attained}
use Rattle.search_core.proofs.SameGenerators.{same_value}
use Rattle.search_core.proofs.Settle.{IsLimitFate}
use Rattle.search_core.proofs.Fairness.{NoOpenBefore, judged_in_tree, limit_is_open}
use Rattle.search_core.proofs.Answers.{some_low, answers_low, answers_depth, answers_wide, answers_found, answers_copositive}
use Rattle.search_core.proofs.Bound.{final_bound_Least, final_over}
use Rattle.search_core.proofs.Mirrors.{entry_symmetric}

-- ---- ends
end_is_limit : (m : Mode) (n : ℕ) (q : Matrix) (d : ℕ) (p : Path) (f : Fate) → IsPathFate m n q d p (word_of p f) f → IsEndFate f → IsLimitFate n q d p f
end_is_limit m n q d p (Closed w) fate e = absurd e
end_is_limit m n q d p (Split i j w) fate e = absurd e
end_is_limit m n q d p (Low k) fate e = absurd e
end_is_limit m n q d p (Dropped w) fate e = absurd e
end_is_limit m n q d p (AtLimit w) fate e = record { word = w; which = inl (refl, fate.2) }
end_is_limit m n q d p (Wide w at) fate e = record { word = w; which = inr (at, refl, fate.2, fate.3) }

limit_is_end : (n : ℕ) (q : Matrix) (d : ℕ) (p : Path) (f : Fate) → IsLimitFate n q d p f → IsEndFate f
limit_is_end n q d p f h = by h.which
  where
    by : ((f ≡ AtLimit h.word) × (length p ≡ d)) ⊎ ((at : WideAt) × (f ≡ Wide h.word at) × (length p ≢ d) × IsFirstOverBelow n q p at.path at.entry)
        → IsEndFate f
    by (inl (e, l)) = subst IsEndFate (sym e) tt
    by (inr (at, e, l, w)) = subst IsEndFate (sym e) tt

-- judgements of a search that is to be settled
pub record IsSettled (m : Mode) (n : ℕ) (q : Matrix) (d : ℕ) (part : List Judged) (final : ℕ) : Type 0 where
  pub symmetric : IsSymmetric n q
  pub fair_ends : IsFairEnds m n q d part final
  pub small : d ≤ 200
  pub some : 0 < n
  pub narrow : BoundFits m n q
  pub root_fits : Fits n q unit_vectors

-- what an answer looks at has the low ones and the ends
abbrev pub ends_of : {m : Mode} {n : ℕ} {q : Matrix} {d : ℕ} {part : List Judged} {final : ℕ} → IsFairPart m n q d part final → IsFairEnds m n q d part final
ends_of {m} {n} {q} {d} {part} {final} f =
    record { all = f.all; fair = f.fair; has = record { within = f.relevant.within; low = f.relevant.low; ends = f.relevant.ends } }

abbrev pub settled : {m : Mode} (q : Symmetric) {d : ℕ} {part : List Judged} {final : ℕ} → IsFairEnds m q.size (entry q) d part final → d ≤ 200 → 0 < q.size
    → BoundFits m q.size (entry q) → Fits q.size (entry q) unit_vectors → IsSettled m q.size (entry q) d part final
settled {m} q {d} {part} {final} f small some narrow root_fits = record {
  symmetric = entry_symmetric q.size q;
  fair_ends = f;
  small = small;
  some = some;
  narrow = narrow;
  root_fits = root_fits;
}

module _ (m : Mode) (n : ℕ) (q : Matrix) (d : ℕ) (part : List Judged) (final : ℕ) (g : IsSettled m n q d part final) where
  pub part_in_tree : AreInTree n q d part
  part_in_tree j c = judged_in_tree m n q d g.fair_ends.all final g.symmetric g.fair_ends.fair j (g.fair_ends.has.within j c)

  fate_as : (j : Judged) (a : Fate) → Contains part j → j.fate ≡ a → IsPathFate m n q d j.path (word_of j.path a) a
  fate_as j a c e =
      subst (λ (a : Fate). IsPathFate m n q d j.path (word_of j.path a) a) e
      (judged_fate m n q d final j (g.fair_ends.fair.judgements j (g.fair_ends.has.within j c)))

  limit_fate : (j : Judged) → Contains part j → IsEndFate j.fate → IsLimitFate n q d j.path j.fate
  limit_fate j c e = end_is_limit m n q d j.path j.fate (judged_fate m n q d final j (g.fair_ends.fair.judgements j (g.fair_ends.has.within j c))) e

  -- ---- Low
  pub some_low_part : final < 256 → ((j : Judged) → Contains part j → ¬ IsLowOf final j) → ⊥
  some_low_part lt none =
      let r = some_low m n q d g.fair_ends.all final g.symmetric g.fair_ends.fair g.small g.some lt in none r.0 (g.fair_ends.has.low r.0 r.1 r.2)
      (r.2, r.3)

  pub first_low_at : (j : Judged) (which : ℕ) → IsFirstWith (IsLowOf final) part j → j.fate ≡ Low which
      → (k : ℕ) × (which ≡ suc k) × IsFirstLowAt m n q (cone_at n q j.path) k
  first_low_at j which h e = (fate_as j (Low which) h.member e).1

  pub low_answer : (j : Judged) (which : ℕ) → IsFirstWith (IsLowOf final) part j → j.fate ≡ Low (suc which)
      → (x : List ℕ) (z : ℤ) → IsListOf n x (cone_at n q j.path which) → value n q (cone_at n q j.path) which ≡ z
      → IsSearchAnswer m n q d (SearchAnswer.Low x z j.path)
  low_answer j which h e x z vector val =
      answers_low m n q d g.fair_ends.all final g.symmetric g.fair_ends.fair g.small g.some g.narrow g.root_fits j
      (g.fair_ends.has.within j h.member) which e h.holds.1
      (λ k c low depth. h.first k (g.fair_ends.has.low k c low) (low, depth)) x z vector val

  pub low_end_answer : (j : Judged) (which : ℕ) → IsFirstWith (IsLowOf final) part j → j.fate ≡ Low which → (c : ShownCone) → IsConeAt n q j.path c
      → (x : List ℕ) (z v : ℤ) → IsListOf c.size x (shown_generators c (which - 1)) → z ≡ v → v ≡ shown_gram c (which - 1) (which - 1)
      → IsSearchAnswer m n q d (SearchAnswer.Low x z j.path)
  low_end_answer j which h e c at x z v vector same val = by (first_low_at j which h e)
    where
      by : ((k : ℕ) × (which ≡ suc k) × IsFirstLowAt m n q (cone_at n q j.path) k) → IsSearchAnswer m n q d (SearchAnswer.Low x z j.path)
      by (k, is, first) =
          let at_k : which - 1 ≡ k = omega arith in
          let lk : k < n = first.range in
          low_answer j k h (e ∙ ap Low is) x z
          (record {
            size = vector.size ∙ at.cone.size;
            same = λ p lp. vector.same p (rw at.cone.size lp) ∙ ap (λ (i : ℕ). shown_generators c i p) at_k ∙ at.cone.generators k p lk lp;
          })
          (sym (same ∙ val ∙ ap (λ (i : ℕ). shown_gram c i i) at_k ∙ at.cone.gram_is k k lk lk))

  -- ---- an open end
  module _ (large : 256 ≤ final) where
    opens : (j : Judged) → Contains part j → IsOpenEnd n q (bound_under m final) j → IsOpen n q d (bound_under m final) j.path
    opens j c o =
        limit_is_open m n q d g.fair_ends.all final g.symmetric g.fair_ends.fair j (g.fair_ends.has.within j c) (limit_fate j c o.0) o.1.itself o.1.above

    firsts : (j : Judged) → IsFirstWith (IsOpenEnd n q (bound_under m final)) part j
        → NoOpenBefore m n q d g.fair_ends.all final j
    firsts j h k c limit o =
        let e : IsEndFate k.fate = limit_is_end n q d k.path k.fate limit in
        h.first k (g.fair_ends.has.ends k c e) (e, record { itself = o.itself; above = o.above })

    pub depth_answer : (j : Judged) (word : ℕ) → IsFirstWith (IsOpenEnd n q (bound_under m final)) part j → j.fate ≡ AtLimit word
        → IsSearchAnswer m n q d (SearchAnswer.Depth j.path)
    depth_answer j word h e =
        let fate : IsPathFate m n q d j.path word (AtLimit word) = fate_as j (AtLimit word) h.member e in
        answers_depth m n q d g.fair_ends.all final g.symmetric g.fair_ends.fair g.small g.some large g.narrow g.root_fits j
        (g.fair_ends.has.within j h.member)
        fate.2 (opens j h.member h.holds) (firsts j h)

    pub wide_answer : (j : Judged) (word : ℕ) (at : WideAt) → IsFirstWith (IsOpenEnd n q (bound_under m final)) part j → j.fate ≡ Wide word at
        → IsSearchAnswer m n q d (SearchAnswer.Wide at.path at.entry)
    wide_answer j word at h e =
        let fate : IsPathFate m n q d j.path word (Wide word at) = fate_as j (Wide word at) h.member e in
        let short : length j.path ≤ d = (part_in_tree j h.member).short in
        let ne : length j.path ≢ d = fate.2 in
        answers_wide m n q d g.fair_ends.all final g.symmetric g.fair_ends.fair g.small g.some large g.narrow g.root_fits j
        (g.fair_ends.has.within j h.member)
        (below_unless_same (length j.path) d short ne) at.path at.entry fate.3 (opens j h.member h.holds) (firsts j h)

    pub no_end : ((j : Judged) → Contains part j → ¬ IsOpenEnd n q (bound_under m final) j)
        → (k : Judged) → Contains g.fair_ends.all k → IsLimitFate n q d k.path k.fate → ¬ IsOpen n q d (bound_under m final) k.path
    no_end none k c limit o =
        let e : IsEndFate k.fate = limit_is_end n q d k.path k.fate limit in
        none k (g.fair_ends.has.ends k c e) (e, record { itself = o.itself; above = o.above })

-- of a search for a sign an answer looks at nothing else
pub sign_part : {n : ℕ} {q : Matrix} {d : ℕ} {part : List Judged} {final : ℕ} → IsFairEnds Sign n q d part final → IsFairPart Sign n q d part final
sign_part f = record {
  all = f.all;
  fair = f.fair;
  relevant = record {
    within = f.has.within;
    low = f.has.low;
    ends = f.has.ends;
    attaining = λ mode. absurd (let e : ◌≡◌ {A = Mode} Sign Least = mode in cc);
  };
}

-- ---- no open end
pub copositive_answer : {n : ℕ} {q : Matrix} {d : ℕ} {part : List Judged} {final : ℕ} → IsSettled Sign n q d part final → 256 ≤ final
    → ((j : Judged) → Contains part j → ¬ IsOpenEnd n q (pos 0) j) → IsSearchAnswer Sign n q d SearchAnswer.Copositive
copositive_answer {n} {q} {d} {part} {final} g large none =
    answers_copositive n q d g.fair_ends.all final g.symmetric g.fair_ends.fair g.small g.some large g.root_fits (no_end Sign n q d part final g large none)

pub over_256 : {n : ℕ} {q : Matrix} {d : ℕ} {part : List Judged} {final : ℕ} → IsSettled Least n q d part final → 256 ≤ final → 256 < final
over_256 {n} {q} {d} {part} {final} g large = final_over n q d g.fair_ends.all final g.symmetric g.fair_ends.fair g.small large g.some g.narrow

-- a judgement's least value is at least the final bound, so it is the value of a generator that attains it
least_is : {n : ℕ} {q : Matrix} {d : ℕ} {part : List Judged} {final : ℕ} → (g : IsSettled Least n q d part final) → 256 ≤ final
    → (j : Judged) (k : ℕ) → Contains g.fair_ends.all j → k < n → value n q (cone_at n q j.path) k ≡ bound_under Least final
    → j.least ≡ bound_under Least final
least_is {n} {q} {d} {part} {final} g large j k c l val =
    let least : j.least ≡ least_value n q (cone_at n q j.path) = (g.fair_ends.fair.judgements j c).least in
    let below : least_value n q (cone_at n q j.path) ≤ℤ value n q (cone_at n q j.path) k = least_value_le n q (cone_at n q j.path) k l in
    let r = least_value_attained n q (cone_at n q j.path) g.some in
    let bound = final_bound_Least n q d g.fair_ends.all final g.symmetric g.fair_ends.fair g.small large g.some g.narrow in
    let above : bound_under Least final ≤ℤ value n q (cone_at n q j.path) r.0 =
    bound.least j.path r.0 (judged_in_tree Least n q d g.fair_ends.all final g.symmetric g.fair_ends.fair j c) r.1 in
    least
    ∙ both_le _ _ (subst (λ (z : ℤ). least_value n q (cone_at n q j.path) ≤ℤ z) val below)
    (subst (λ (z : ℤ). bound_under Least final ≤ℤ z) r.2 above)

-- a list of the generators that attain the final bound
pub found_answer : {n : ℕ} {q : Matrix} {d : ℕ} {part : List Judged} {final : ℕ} → (g : IsSettled Least n q d part final) → 256 ≤ final
    → ((j : Judged) → Contains part j → ¬ IsOpenEnd n q (bound_under Least final) j)
    → (vectors : List (List ℕ)) → ListsGenerators n q g.fair_ends.all (bound_under Least final) vectors
    → IsSearchAnswer Least n q d (SearchAnswer.Found (bound_under Least final) vectors)
found_answer {n} {q} {d} {part} {final} g large none vectors lists =
    answers_found n q d g.fair_ends.all final g.symmetric g.fair_ends.fair g.small g.some large g.narrow g.root_fits
    (no_end Least n q d part final g large none) vectors
    (record { each = lists.each; all = λ j k x c l vector val. lists.all j k x c (least_is g large j k c l val) l vector val; increasing = lists.increasing })

-- such a list of a part of the judgements that has all that an answer looks at
pub of_the_whole : {n : ℕ} {q : Matrix} {d : ℕ} {part whole : List Judged} {final : ℕ} → (g : IsSettled Least n q d whole final) → 256 ≤ final
    → HasAllRelevant Least n q final g.fair_ends.all part → (vectors : List (List ℕ)) → ListsGenerators n q part (bound_under Least final) vectors
    → ListsGenerators n q g.fair_ends.all (bound_under Least final) vectors
of_the_whole {n} {q} {d} {part} {whole} {final} g large relevant vectors lists = record { each = each; all = all; increasing = lists.increasing }
  where
    each : (x : List ℕ) → Contains vectors x
        → (j : Judged) × (k : ℕ) × Contains g.fair_ends.all j × (k < n) × IsListOf n x (cone_at n q j.path k) ×
        (value n q (cone_at n q j.path) k ≡ bound_under Least final)
    each x c = let r = lists.each x c in (r.0, r.1, relevant.within r.0 r.2, r.3, r.4, r.5)

    all : (j : Judged) (k : ℕ) (x : List ℕ) → Contains g.fair_ends.all j → j.least ≡ bound_under Least final → k < n → IsListOf n x (cone_at n q j.path k)
        → value n q (cone_at n q j.path) k ≡ bound_under Least final → Contains vectors x
    all j k x c least l vector val = by (relevant.attaining refl large j k c l val)
      where
        by : HasGenerator n q part j.path k → Contains vectors x
        by (p, i, there, same) =
            let attains : value n q (cone_at n q p.path) i ≡ bound_under Least final = same_value n q j.path p.path k i same ∙ val in
            lists.all p i x there (least_is g large p i (relevant.within p there) same.range attains) same.range
            (record { size = vector.size; same = λ t lt. vector.same t lt ∙ sym (same.same t lt) }) attains

-- ---- the end that is named
pub named_end : {m : Mode} {n : ℕ} {q : Matrix} {d : ℕ} {part : List Judged} {final : ℕ} → IsSettled m n q d part final → 256 ≤ final
    → (j : Judged) (end : End) → IsFirstWith (IsOpenEnd n q (bound_under m final)) part j → NamesEnd j end → IsEndOf m n q d part final end
named_end g large j (End.Low x z path) h e = absurd e
named_end {m} {n} {q} {d} {part} {final} g large j (End.Depth path) h (same, (word, e)) =
    subst (λ (p : Path). IsSearchAnswer m n q d (SearchAnswer.Depth p)) (sym same) (depth_answer m n q d part final g large j word h e)
named_end {m} {n} {q} {d} {part} {final} g large j (End.Wide at) h (word, e) = wide_answer m n q d part final g large j word at h e
named_end g large j End.Closed h e = absurd e
