-- Stacks in the order of digits: with all that lies below it, each cone comes before the cones that stand under it.
use Rattle.std.specs.Prelude.{◌≡◌, ◌⊎◌, true, false, List, [], ◌∷◌, ◌++◌}
use Rattle.std.specs.List.{Contains}
use Rattle.std.proofs.Common.{inl, inr, subst}
use Rattle.std.proofs.lemmas.List.Elements.{Contains-push, Contains-append_left, Contains-append_cases}
use Rattle.exact_forms.proofs.Lists.{nothing_in}
use Rattle.exact_forms.proofs.Vectors.{contains_cons}
use Rattle.unimodular_cone.specs.Paths.{Path, IsNoLater}
use Rattle.unimodular_cone.specs.Shown.{ShownCone}

-- the paths part, p to the left
abbrev pub IsLeftOf : Path → Path → Type 0
IsLeftOf [] r = ⊥
IsLeftOf (side ∷ p) [] = ⊥
IsLeftOf (false ∷ p) (false ∷ r) = IsLeftOf p r
IsLeftOf (false ∷ p) (true ∷ r) = Unit {0}
IsLeftOf (true ∷ p) (false ∷ r) = ⊥
IsLeftOf (true ∷ p) (true ∷ r) = IsLeftOf p r

left_more : (p r more : Path) → IsLeftOf p r → IsLeftOf (p ++ more) r
left_more [] r more h = absurd h
left_more (side ∷ p) [] more h = absurd h
left_more (false ∷ p) (false ∷ r) more h = left_more p r more h
left_more (false ∷ p) (true ∷ r) more h = tt
left_more (true ∷ p) (false ∷ r) more h = absurd h
left_more (true ∷ p) (true ∷ r) more h = left_more p r more h

pub left_no_later : (p r more : Path) → IsLeftOf p r → IsNoLater p (r ++ more)
left_no_later [] r more h = absurd h
left_no_later (side ∷ p) [] more h = absurd h
left_no_later (false ∷ p) (false ∷ r) more h = left_no_later p r more h
left_no_later (false ∷ p) (true ∷ r) more h = tt
left_no_later (true ∷ p) (false ∷ r) more h = absurd h
left_no_later (true ∷ p) (true ∷ r) more h = left_no_later p r more h

pub front_no_later : (p more : Path) → IsNoLater p (p ++ more)
front_no_later [] more = tt
front_no_later (false ∷ p) more = front_no_later p more
front_no_later (true ∷ p) more = front_no_later p more

sides_part : (p : Path) → IsLeftOf (p ++ false ∷ []) (p ++ true ∷ [])
sides_part [] = tt
sides_part (false ∷ p) = sides_part p
sides_part (true ∷ p) = sides_part p

-- ---- stacks, the last cone on top
abbrev pub IsInOrder : List ShownCone → Type 0
IsInOrder [] = Unit {0}
IsInOrder (c ∷ above) = ((e : ShownCone) → Contains above e → IsLeftOf e.path c.path) × IsInOrder above

pub one_in_order : (c : ShownCone) → IsInOrder (c ∷ [])
one_in_order c = ((λ e h. absurd (nothing_in e h)), tt)

pub order_below : (rest : List ShownCone) (c : ShownCone) → IsInOrder (rest ++ c ∷ []) → IsInOrder rest
order_below [] c h = tt
order_below (x ∷ rest) c (left, h) = ((λ e k. left e (Contains-append_left rest (c ∷ []) e k)), order_below rest c h)

pub top_is_left : (rest : List ShownCone) (c e : ShownCone) → IsInOrder (rest ++ c ∷ []) → Contains rest e → IsLeftOf c.path e.path
top_is_left [] c e h k = absurd (nothing_in e k)
top_is_left (x ∷ rest) c e (left, h) k = by (contains_cons x rest e k) (top_is_left rest c e h)
  where
    by : ((x ≡ e) ⊎ Contains rest e) → (Contains rest e → IsLeftOf c.path e.path) → IsLeftOf c.path e.path
    by (inl is) rec = subst (λ (y : ShownCone). IsLeftOf c.path y.path) is (left c (Contains-push rest c))
    by (inr there) rec = rec there

-- the two children in the place of the top
pub split_in_order : (rest : List ShownCone) (c second first : ShownCone) → second.path ≡ c.path ++ true ∷ [] → first.path ≡ c.path ++ false ∷ []
    → IsInOrder (rest ++ c ∷ []) → IsInOrder (rest ++ second ∷ first ∷ [])
split_in_order [] c second first at_second at_first h = (here, one_in_order first)
  where
    here : (e : ShownCone) → Contains (first ∷ []) e → IsLeftOf e.path second.path
    here e k = by (contains_cons first [] e k)
      where
        by : ((first ≡ e) ⊎ Contains [] e) → IsLeftOf e.path second.path
        by (inl is) = subst (λ (y : ShownCone). IsLeftOf y.path second.path) is (rw (at_first, at_second) (sides_part c.path))
        by (inr there) = absurd (nothing_in e there)
split_in_order (x ∷ rest) c second first at_second at_first (left, h) = (left_of, split_in_order rest c second first at_second at_first h)
  where
    at_top : IsLeftOf c.path x.path
    at_top = left c (Contains-push rest c)

    of_two : (e : ShownCone) → ((second ≡ e) ⊎ Contains (first ∷ []) e) → IsLeftOf e.path x.path
    of_two e (inl is) = subst (λ (y : ShownCone). IsLeftOf y.path x.path) is (rw at_second (left_more c.path x.path (true ∷ []) at_top))
    of_two e (inr k) = of_one (contains_cons first [] e k)
      where
        of_one : ((first ≡ e) ⊎ Contains [] e) → IsLeftOf e.path x.path
        of_one (inl is) = subst (λ (y : ShownCone). IsLeftOf y.path x.path) is (rw at_first (left_more c.path x.path (false ∷ []) at_top))
        of_one (inr there) = absurd (nothing_in e there)

    left_of : (e : ShownCone) → Contains (rest ++ second ∷ first ∷ []) e → IsLeftOf e.path x.path
    left_of e k = by (Contains-append_cases rest (second ∷ first ∷ []) e k)
      where
        by : (Contains rest e ⊎ Contains (second ∷ first ∷ []) e) → IsLeftOf e.path x.path
        by (inl there) = left e (Contains-append_left rest (c ∷ []) e there)
        by (inr two) = of_two e (contains_cons second (first ∷ []) e two)
