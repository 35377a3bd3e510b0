-- The orders of paths, and what stands above a path.
use Rattle.std.specs.Prelude.{◌≡◌, ℕ, zero, suc, ◌<◌, Bool, true, false, [], ◌∷◌, length, ◌++◌, take}
use Rattle.std.specs.Ordering.{MatchOrdering}
use Rattle.std.specs.declared.cmp.Ordering.{Ordering}
use Rattle.std.specs.declared.cmp.Ordering.TheVariants.{Less, Equal, Greater}
use Rattle.std.proofs.Common.{arith, sym, ◌∙◌, ap, refl}
use Rattle.unimodular_cone.specs.Paths.{Path, IsAbove, IsNoLater, place_order}

-- a digit that both paths begin with
after_digit : (s : Bool) (p r : Path) (o : Ordering)
    → MatchOrdering o (IsNoLater p r × (¬ IsNoLater r p)) (p ≡ r) (IsNoLater r p × (¬ IsNoLater p r))
    → MatchOrdering o (IsNoLater p r × (¬ IsNoLater r p)) (◌≡◌ {A = Path} (s ∷ p) (s ∷ r)) (IsNoLater r p × (¬ IsNoLater p r))
after_digit s p r Less h = h
after_digit s p r Equal h = ap (λ (w : Path). s ∷ w) h
after_digit s p r Greater h = h

-- what an answer of the order by place says
pub place_order_is : (p r : Path) → MatchOrdering (place_order p r) (IsNoLater p r × (¬ IsNoLater r p)) (p ≡ r) (IsNoLater r p × (¬ IsNoLater p r))
unfolding place_order
place_order_is [] [] = refl
place_order_is [] (s ∷ r) = (tt, λ h. h)
place_order_is (s ∷ p) [] = (tt, λ h. h)
place_order_is (false ∷ p) (false ∷ r) = after_digit false p r (place_order p r) (place_order_is p r)
place_order_is (false ∷ p) (true ∷ r) = (tt, λ h. h)
place_order_is (true ∷ p) (false ∷ r) = (tt, λ h. h)
place_order_is (true ∷ p) (true ∷ r) = after_digit true p r (place_order p r) (place_order_is p r)

pub no_later_self : (p : Path) → IsNoLater p p
no_later_self [] = tt
no_later_self (false ∷ p) = no_later_self p
no_later_self (true ∷ p) = no_later_self p

pub no_later_trans : (p r t : Path) → IsNoLater p r → IsNoLater r t → IsNoLater p t
no_later_trans [] r t h k = tt
no_later_trans (s ∷ p) [] t h k = absurd h
no_later_trans (s ∷ p) (u ∷ r) [] h k = absurd k
no_later_trans (false ∷ p) (false ∷ r) (false ∷ t) h k = no_later_trans p r t h k
no_later_trans (false ∷ p) (false ∷ r) (true ∷ t) h k = tt
no_later_trans (false ∷ p) (true ∷ r) (false ∷ t) h k = absurd k
no_later_trans (false ∷ p) (true ∷ r) (true ∷ t) h k = tt
no_later_trans (true ∷ p) (false ∷ r) (u ∷ t) h k = absurd h
no_later_trans (true ∷ p) (true ∷ r) (false ∷ t) h k = absurd k
no_later_trans (true ∷ p) (true ∷ r) (true ∷ t) h k = no_later_trans p r t h k

-- ---- what stands above a path are its shorter beginnings
pub take_is_above : (p : Path) (k : ℕ) → k < length p → IsAbove (take k p) p
take_is_above [] k l = absurd (omega arith)
take_is_above (a ∷ p) zero l = (a, p, refl)
take_is_above (a ∷ p) (suc k) l = let h : IsAbove (take k p) p = take_is_above p k (omega arith) in (h.0, h.1, ap (λ (w : Path). a ∷ w) h.2)

pub above_is_take : (a p : Path) → IsAbove a p → a ≡ take (length a) p
above_is_take a p (s, r, e) = sym (take_of a (s ∷ r)) ∙ ap (take (length a)) (sym e)
  where
    take_of : (a r : Path) → take (length a) (a ++ r) ≡ a
    take_of [] r = refl
    take_of (x ∷ a) r = ap (λ (w : Path). x ∷ w) (take_of a r)
