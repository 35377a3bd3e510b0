-- The search has at most one answer.
use Rattle.std.specs.Prelude.{◌≡◌, ℕ, ◌<◌, ◌-◌, ◌^◌, ℤ, pos, ◌≤ℤ◌, ◌<ℤ◌, ◌⊎◌, List, [], length}
use Rattle.std.proofs.Common.{arith, sym, ◌∙◌, ap, ap₂, refl, inl, inr, subst}
use Rattle.std.proofs.lemmas.Int.{ints}
use Rattle.commutative_ring.proofs.SmallCases.{both_at_most}
use Rattle.unimodular_cone.specs.Paths.{Path}
use Rattle.unimodular_cone.specs.Cones.{Matrix, value, cone_at, unit_vectors, Fits, WideEntry, IsFirstOver}
use Rattle.unimodular_cone.specs.Tree.{Mode, Sign, Least, IsInTree, IsFirstLowAt, IsFirstLow, IsFinalBound, IsLeastInTree, IsOpen, IsFirstOpen}
use Rattle.unimodular_cone.specs.Tree.{IsFirstOverBelow}
use Rattle.unimodular_cone.specs.Answer.{ListsAttaining, SearchAnswer, BoundWide, Wide, Low, Depth, Copositive, Found, IsLeastDiagonal, BoundFits, IsClear}
use Rattle.unimodular_cone.specs.Answer.{IsOpenAnswer, IsLowAnswer, IsClosedAnswer, IsSearchAnswer}
use Rattle.exact_forms.proofs.Copositive.{lists_unique}
use Rattle.exact_forms.proofs.Vectors.{vector_decided}
use Rattle.unimodular_cone.proofs.Unique.{no_later_both, no_deeper_both, first_low_at_unique, first_over_unique, first_over_below_unique}

pub least_in_tree_unique : (n : ℕ) (q : Matrix) (d : ℕ) (b c : ℤ) → IsLeastInTree n q d b → IsLeastInTree n q d c → b ≡ c
least_in_tree_unique n q d b c x y = both_at_most b c (at_most c x y.attained) (at_most b y x.attained)
  where
    at_most : {a : ℤ} (z : ℤ) → IsLeastInTree n q d a → ((p : Path) × (k : ℕ) × IsInTree n q d p × (k < n) × (value n q (cone_at n q p) k ≡ z)) → a ≤ℤ z
    at_most {a} z x (p, k, t, l, e) = subst (λ (w : ℤ). a ≤ℤ w) e (x.least p k t l)

pub final_bound_unique : (m : Mode) (n : ℕ) (q : Matrix) (d : ℕ) (b c : ℤ) → IsFinalBound m n q d b → IsFinalBound m n q d c → b ≡ c
final_bound_unique Sign n q d b c x y = x ∙ sym y
final_bound_unique Least n q d b c x y = least_in_tree_unique n q d b c x y

pub first_low_unique : (m : Mode) (n : ℕ) (q : Matrix) (d : ℕ) (p r : Path) → IsFirstLow m n q d p → IsFirstLow m n q d r → p ≡ r
first_low_unique m n q d p r x y = no_deeper_both p r (x.first r y.in_tree y.low) (y.first p x.in_tree x.low)

pub first_open_unique : (n : ℕ) (q : Matrix) (d : ℕ) (b : ℤ) (p r : Path) → IsFirstOpen n q d b p → IsFirstOpen n q d b r → p ≡ r
first_open_unique n q d b p r x y = no_later_both p r (x.first r y.open_path) (y.first p x.open_path)

least_diagonal_unique : (n : ℕ) (q : Matrix) (b c : ℤ) → IsLeastDiagonal n q b → IsLeastDiagonal n q c → b ≡ c
least_diagonal_unique n q b c x y = both_at_most b c (at_most c x y.attained) (at_most b y x.attained)
  where
    at_most : {a : ℤ} (z : ℤ) → IsLeastDiagonal n q a → ((k : ℕ) × (k < n) × (q k k ≡ z)) → a ≤ℤ z
    at_most {a} z x (k, l, e) = subst (λ (w : ℤ). a ≤ℤ w) e (x.least k l)

-- what is left once one of the five kinds of answer does not apply
abbrev IsOpenOf : Mode → ℕ → Matrix → ℕ → SearchAnswer → Path → Type 0
IsOpenOf m n q d a p =
    ((a ≡ Depth p) × (length p ≡ d))
    ⊎ ((at_path : Path) × (entry : WideEntry) × (a ≡ Wide at_path entry) × (length p < d) × IsFirstOverBelow n q p at_path entry)

abbrev IsClosedOf : Mode → ℕ → Matrix → SearchAnswer → ℤ → Type 0
IsClosedOf m n q a b = ((m ≡ Sign) × (a ≡ Copositive)) ⊎ ((vectors : List (List ℕ)) × (m ≡ Least) × (a ≡ Found b vectors) × ListsAttaining n q b vectors)

abbrev IsFourth : Mode → ℕ → Matrix → ℕ → SearchAnswer → Type 0
IsFourth m n q d a = ((p : Path) × IsOpenAnswer m n q d p × IsOpenOf m n q d a p) ⊎ ((b : ℤ) × IsClosedAnswer m n q d b × IsClosedOf m n q a b)

abbrev IsThird : Mode → ℕ → Matrix → ℕ → SearchAnswer → Type 0
IsThird m n q d a = ((x : List ℕ) × (z : ℤ) × (p : Path) × (a ≡ Low x z p) × IsLowAnswer m n q d x z p) ⊎ (IsClear m n q d × IsFourth m n q d a)

abbrev IsSecond : Mode → ℕ → Matrix → ℕ → SearchAnswer → Type 0
IsSecond m n q d a = ((entry : WideEntry) × (a ≡ Wide [] entry) × IsFirstOver n q unit_vectors entry) ⊎ (Fits n q unit_vectors × IsThird m n q d a)

abbrev IsFirst : Mode → ℕ → Matrix → ℕ → SearchAnswer → Type 0
IsFirst m n q d a = ((z : ℤ) × (a ≡ BoundWide z) × (m ≡ Least) × IsLeastDiagonal n q z × (pos (2 ^ 63 - 1) <ℤ z)) ⊎ (BoundFits m n q × IsSecond m n q d a)

in_order : (m : Mode) (n : ℕ) (q : Matrix) (d : ℕ) (a : SearchAnswer) → IsSearchAnswer m n q d a → IsFirst m n q d a
in_order m n q d (BoundWide z) (h, l, lt) = inl (z, refl, h, l, lt)
in_order m n q d (Wide at_path entry) (inl (narrow, e, over)) = inr (narrow, inl (entry, ap (λ (w : Path). Wide w entry) e, over))
in_order m n q d (Wide at_path entry) (inr (p, o, lt, w)) =
    inr (o.clear.bound_fits, inr (o.clear.root_fits, inr (o.clear, inl (p, o, inr (at_path, entry, refl, lt, w)))))
in_order m n q d (Low x z p) h = inr (h.bound_fits, inr (h.root_fits, inl (x, z, p, refl, h)))
in_order m n q d (Depth p) (o, e) = inr (o.clear.bound_fits, inr (o.clear.root_fits, inr (o.clear, inl (p, o, inl (refl, e)))))
in_order m n q d Copositive (e, c) = inr (c.clear.bound_fits, inr (c.clear.root_fits, inr (c.clear, inr (pos 0, c, inl (e, refl)))))
in_order m n q d (Found b vectors) (e, c, l) = inr (c.clear.bound_fits, inr (c.clear.root_fits, inr (c.clear, inr (b, c, inr (vectors, e, refl, l)))))

sign_not_least : (m : Mode) → m ≡ Sign → m ≡ Least → ⊥
sign_not_least m e f = (cc)

wide_not_narrow : (m : Mode) (n : ℕ) (q : Matrix) (z : ℤ) → m ≡ Least → IsLeastDiagonal n q z → pos (2 ^ 63 - 1) <ℤ z → BoundFits m n q → ⊥
wide_not_narrow Sign n q z e h lt narrow = (cc)
wide_not_narrow Least n q z e h lt (k, l, le) = let g : z ≤ℤ q k k = h.least k l in omega (arith, ints)

low_vector : (m : Mode) (n : ℕ) (q : Matrix) (d : ℕ) (x y : List ℕ) (z w : ℤ) (p r : Path) → IsLowAnswer m n q d x z p → IsLowAnswer m n q d y w r → p ≡ r
    → (x ≡ y) × (z ≡ w)
low_vector m n q d x y z w p r a b e =
    (vector_decided n x y a.vector.size b.vector.size (λ i l. a.vector.same i l ∙ same_place i ∙ sym (b.vector.same i l)), sym a.value ∙ same_value ∙ b.value)
  where
    which : a.which ≡ b.which
    which = first_low_at_unique m n q (cone_at n q r) a.which b.which (subst (λ (s : Path). IsFirstLowAt m n q (cone_at n q s) a.which) e a.is_which) b.is_which

    same_place : (i : ℕ) → cone_at n q p a.which i ≡ cone_at n q r b.which i
    same_place i = ap₂ (λ (s : Path) (k : ℕ). cone_at n q s k i) e which

    same_value : value n q (cone_at n q p) a.which ≡ value n q (cone_at n q r) b.which
    same_value = ap₂ (λ (s : Path) (k : ℕ). value n q (cone_at n q s) k) e which

open_not_closed : (m : Mode) (n : ℕ) (q : Matrix) (d : ℕ) (p : Path) (b : ℤ) → IsOpenAnswer m n q d p → IsClosedAnswer m n q d b → ⊥
open_not_closed m n q d p b o c =
    c.none_open p (subst (λ (z : ℤ). IsOpen n q d z p) (final_bound_unique m n q d o.bound b o.is_bound c.is_bound) o.first_open.open_path)

same_open : (m : Mode) (n : ℕ) (q : Matrix) (d : ℕ) (p r : Path) → IsOpenAnswer m n q d p → IsOpenAnswer m n q d r → p ≡ r
same_open m n q d p r x y =
    first_open_unique n q d x.bound p r x.first_open
    (subst (λ (z : ℤ). IsFirstOpen n q d z r) (final_bound_unique m n q d y.bound x.bound y.is_bound x.is_bound) y.first_open)

same_open_answer : (m : Mode) (n : ℕ) (q : Matrix) (d : ℕ) (a b : SearchAnswer) (p r : Path) → p ≡ r → IsOpenOf m n q d a p → IsOpenOf m n q d b r → a ≡ b
same_open_answer m n q d a b p r e (inl (x, h)) (inl (y, k)) = x ∙ ap Depth e ∙ sym y
same_open_answer m n q d a b p r e (inl (x, h)) (inr (u, f, y, lt, w)) = absurd (omega (arith, ap length e))
same_open_answer m n q d a b p r e (inr (u, f, x, lt, w)) (inl (y, k)) = absurd (omega (arith, ap length e))
same_open_answer m n q d a b p r e (inr (u, f, x, lt, w)) (inr (u', f', y, lt', w')) =
    let g = first_over_below_unique n q p u u' f f' w (subst (λ (s : Path). IsFirstOverBelow n q s u' f') (sym e) w') in
    x ∙ ap₂ Wide g.0 g.1 ∙ sym y

same_closed_answer : (m : Mode) (n : ℕ) (q : Matrix) (a b : SearchAnswer) (z w : ℤ) → z ≡ w → IsClosedOf m n q a z → IsClosedOf m n q b w → a ≡ b
same_closed_answer m n q a b z w e (inl (f, x)) (inl (g, y)) = x ∙ sym y
same_closed_answer m n q a b z w e (inl (f, x)) (inr (l, g, y, h)) = absurd (sign_not_least m f g)
same_closed_answer m n q a b z w e (inr (l, g, y, h)) (inl (f, x)) = absurd (sign_not_least m f g)
same_closed_answer m n q a b z w e (inr (l, g, x, h)) (inr (l', g', y, h')) = x
    ∙ ap₂ Found e (lists_unique n q z l l' h (subst (λ (u : ℤ). ListsAttaining n q u l') (sym e) h')) ∙ sym y

fourth : (m : Mode) (n : ℕ) (q : Matrix) (d : ℕ) (a b : SearchAnswer) → IsFourth m n q d a → IsFourth m n q d b → a ≡ b
fourth m n q d a b (inl (p, o, x)) (inl (r, o', y)) = same_open_answer m n q d a b p r (same_open m n q d p r o o') x y
fourth m n q d a b (inl (p, o, x)) (inr (z, c, y)) = absurd (open_not_closed m n q d p z o c)
fourth m n q d a b (inr (z, c, x)) (inl (p, o, y)) = absurd (open_not_closed m n q d p z o c)
fourth m n q d a b (inr (z, c, x)) (inr (w, c', y)) = same_closed_answer m n q a b z w (final_bound_unique m n q d z w c.is_bound c'.is_bound) x y

third : (m : Mode) (n : ℕ) (q : Matrix) (d : ℕ) (a b : SearchAnswer) → IsThird m n q d a → IsThird m n q d b → a ≡ b
third m n q d a b (inl (x, z, p, e, l)) (inl (y, w, r, f, k)) =
    let same : p ≡ r = first_low_unique m n q d p r l.first_low k.first_low in
    let v = low_vector m n q d x y z w p r l k same in
    let g : Low x z p ≡ Low y w r = ap₂ (λ (u : List ℕ) (s : Path). Low u z s) v.0 same ∙ ap (λ (t : ℤ). Low y t r) v.1 in
    e ∙ g ∙ sym f
third m n q d a b (inl (x, z, p, e, l)) (inr (c, h)) = absurd (c.none_low p l.first_low.in_tree l.first_low.low)
third m n q d a b (inr (c, h)) (inl (x, z, p, e, l)) = absurd (c.none_low p l.first_low.in_tree l.first_low.low)
third m n q d a b (inr (c, h)) (inr (c', h')) = fourth m n q d a b h h'

second : (m : Mode) (n : ℕ) (q : Matrix) (d : ℕ) (a b : SearchAnswer) → IsSecond m n q d a → IsSecond m n q d b → a ≡ b
second m n q d a b (inl (f, e, o)) (inl (g, e', o')) = e ∙ ap (Wide []) (first_over_unique n q unit_vectors f g o o') ∙ sym e'
second m n q d a b (inl (f, e, o)) (inr (fits, h)) = absurd (fits f o.over)
second m n q d a b (inr (fits, h)) (inl (f, e, o)) = absurd (fits f o.over)
second m n q d a b (inr (fits, h)) (inr (fits', h')) = third m n q d a b h h'

first_of : (m : Mode) (n : ℕ) (q : Matrix) (d : ℕ) (a b : SearchAnswer) → IsFirst m n q d a → IsFirst m n q d b → a ≡ b
first_of m n q d a b (inl (z, e, k, l, lt)) (inl (w, e', k', l', lt')) = e ∙ ap BoundWide (least_diagonal_unique n q z w l l') ∙ sym e'
first_of m n q d a b (inl (z, e, k, l, lt)) (inr (narrow, h)) = absurd (wide_not_narrow m n q z k l lt narrow)
first_of m n q d a b (inr (narrow, h)) (inl (z, e, k, l, lt)) = absurd (wide_not_narrow m n q z k l lt narrow)
first_of m n q d a b (inr (narrow, h)) (inr (narrow', h')) = second m n q d a b h h'

pub answer_unique : (m : Mode) (n : ℕ) (q : Matrix) (d : ℕ) (a b : SearchAnswer) → IsSearchAnswer m n q d a → IsSearchAnswer m n q d b → a ≡ b
answer_unique m n q d a b h k = first_of m n q d a b (in_order m n q d a h) (in_order m n q d b k)
