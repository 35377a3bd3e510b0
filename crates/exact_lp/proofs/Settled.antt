-- Where t has come in, before the first step: the coordinates of the target, and its weights; and where the first basis settles it.
use Rattle.std.specs.Prelude.{◌≡◌, ◌≢◌, ℕ, ◌<◌, ◌⊎◌, pos, Bool, true, false, cond, List, [], ◌∷◌}
use Rattle.std.proofs.Common.{arith, sym, ◌∙◌, ap, ap₂, refl, subst, inl, inr}
use Rattle.commutative_ring.proofs.Ring.{num, ◌⊕◌, ◌⊗◌, neg, v0, v1}
use Rattle.commutative_ring.proofs.SmallCases.{true_or_false}
use Rattle.exact_forms.specs.Rational.{Rational, whole, ◌+ℚ◌, ◌*ℚ◌, neg_ℚ}
use Rattle.exact_forms.specs.Signs.{IsNonnegative}
use Rattle.exact_forms.specs.Coordinates.{mark, exchanged_coordinates}
use Rattle.exact_forms.proofs.Rational.{ring_ℚ}
use Rattle.exact_forms.proofs.Slacks.{replaced_here, replaced_other}
use Rattle.exact_forms.proofs.Signs.{negative_not_nonneg}
use Rattle.exact_forms.proofs.Coordinates.{mark_off}
use Rattle.exact_linear.proofs.Exchanges.{by_one}
use Rattle.symmetric_matrix.specs.Symmetric.{Symmetric}
use Rattle.exact_lp.specs.declared.placed.Exchange.{Exchange}
use Rattle.exact_lp.specs.Program.{Program, IsProgram, weight}
use Rattle.exact_lp.specs.Simplex.{coordinates_after, open_coordinates_of, IsSimplexOf}
use Rattle.exact_lp.specs.OfVectors.{program_of, over_first}
use Rattle.exact_lp.specs.Theorems.{HasNonnegativeFirst, SettledAtOnce}
use Rattle.exact_lp.proofs.Outcome.{top_at_chosen, top_not_chosen}

module _ (P : Program) (start : ℕ → ℕ → Rational) (R : IsProgram P start) (r : ℕ) (lr : r < P.columns.count) (chosen : P.chosen r ≡ true) where
  abbrev opened : ℕ → ℕ → Rational
  opened = exchanged_coordinates start r P.top

  at : (k : ℕ) (m x : Rational) → mark P.top k ≡ m → start P.top k ≡ x → opened P.target k ≡ start P.target k +ℚ start P.target r *ℚ (m +ℚ neg_ℚ x)
  at k m x f g =
      ap₂ (λ v w. start P.target k +ℚ v *ℚ w) (by_one (start P.target r) (start P.top r) (top_at_chosen P start R r lr chosen))
      (ap₂ (λ v w. v +ℚ neg_ℚ w) f g)

  zero_at_top : (j : ℕ) → j < P.columns.count → start j P.top ≡ whole (pos 0)
  zero_at_top j l = (R.basis.written j l).outside P.top R.top_within (top_not_chosen P start R)

  -- the target's coordinate at t is the one at the column that t takes the place of
  pub opened_top : opened P.target P.top ≡ start P.target r
  opened_top =
      at P.top (whole (pos 1)) (whole (pos 0)) (replaced_here (λ k. whole (pos 0)) P.top (whole (pos 1)) P.top refl) (zero_at_top P.top R.top_within)
      ∙ ap (λ v. v +ℚ start P.target r *ℚ (whole (pos 1) +ℚ neg_ℚ (whole (pos 0)))) (zero_at_top P.target R.target_within)
      ∙ ring_ℚ (start P.target r ∷ []) (num (pos 0) ⊕ v0 ⊗ (num (pos 1) ⊕ neg (num (pos 0)))) v0 refl

  -- the weights are the coordinates over the first basis
  pub opened_weight : (k : ℕ) → k < P.columns.count → k ≢ P.top → weight P opened k ≡ start P.target k
  unfolding weight
  opened_weight k l n =
      ap₂ (λ v w. v +ℚ w) (replaced_other (opened P.target) P.top (whole (pos 0)) k n) (ap (λ w. cond (P.chosen k) w (whole (pos 0))) opened_top)
      ∙ by (true_or_false (P.chosen k))
    where
      off : mark P.top k ≡ whole (pos 0)
      off = mark_off P.columns P.top k n

      parts : (x : Rational) (b : Bool) → start P.top k ≡ x → P.chosen k ≡ b
          → opened P.target k +ℚ cond (P.chosen k) (start P.target r) (whole (pos 0))
          ≡ (start P.target k +ℚ start P.target r *ℚ (whole (pos 0) +ℚ neg_ℚ x)) +ℚ cond b (start P.target r) (whole (pos 0))
      parts x b e c = ap₂ (λ v w. v +ℚ w) (at k (whole (pos 0)) x off e) (ap (λ b. cond b (start P.target r) (whole (pos 0))) c)

      by : ((P.chosen k ≡ true) ⊎ (P.chosen k ≡ false)) → opened P.target k +ℚ cond (P.chosen k) (start P.target r) (whole (pos 0)) ≡ start P.target k
      by (inl c) =
          parts (whole (pos 1)) true (top_at_chosen P start R k l c) c
          ∙ ring_ℚ (start P.target k ∷ start P.target r ∷ []) ((v0 ⊕ v1 ⊗ (num (pos 0) ⊕ neg (num (pos 1)))) ⊕ v1) v0 refl
      by (inr c) =
          parts (whole (pos 0)) false ((R.basis.written P.top R.top_within).outside k l c) c
          ∙ ring_ℚ (start P.target k ∷ start P.target r ∷ []) ((v0 ⊕ v1 ⊗ (num (pos 0) ⊕ neg (num (pos 0)))) ⊕ num (pos 0)) v0 refl

-- ---- the coordinates of S over the first basis are at least 0
at_first : (vectors : List (List ℕ)) (s : Symmetric) (steps : List Exchange) (F : IsSimplexOf vectors s steps) → HasNonnegativeFirst vectors s
    → IsNonnegative (open_coordinates_of vectors s F.place (program_of vectors s).target (program_of vectors s).top)
at_first vectors s steps F n =
    let P : Program = program_of vectors s in
    let R = F.is_program in
    let l = F.least.within in
    subst IsNonnegative
    (sym (opened_top P (over_first vectors s) R (P.first F.place)
    (let a = (R.first_is_vector F.place l).1 in let b = R.vectors in omega arith) (R.first_is_chosen F.place l)))
    (n F.place l)

pub settled_at_once : SettledAtOnce
unfolding coordinates_after
settled_at_once vectors s [] F n = (refl, record { here = at_first vectors s [] F n })
settled_at_once vectors s (x ∷ xs) F n = absurd (negative_not_nonneg _ (F.run.due 0 (omega arith)) (at_first vectors s (x ∷ xs) F n))
