-- The numbers of a child, made from its parent's.
use Rattle.std.specs.Prelude.{◌≡◌, ◌≢◌, ◌⊎◌, ℕ, ◌<◌, ◌≤◌, ◌+◌, max, min, ℤ, pos, ◌+ℤ◌, Bool, List, [], ◌∷◌, ◌++◌, length, slice_index_or, slice_set}
use Rattle.std.specs.Int.{w128}
use Rattle.std.proofs.Common.{arith, to_z, of_z, sym, ◌∙◌, ap, ap₂, refl, inl, inr, subst, get_or-set_other, get_or-set_same, length-append}
use Rattle.commutative_ring.proofs.SmallCases.{at_least_or_below, same_or_not}
use Rattle.exact_forms.specs.Triangles.{triangle}
use Rattle.exact_forms.proofs.Slacks.{replaced_here, replaced_other}
use Rattle.unimodular_cone.specs.declared.cone.Cone.TheInside.{Inside}
use Rattle.unimodular_cone.specs.Paths.{Path}
use Rattle.unimodular_cone.specs.Cones.{child, child_gram}
use Rattle.unimodular_cone.specs.ConeFields.{shown_of}
use Rattle.unimodular_cone.specs.Shown.{ShownCone, shown_gram, shown_generators, IsWithinLimits}
use Rattle.unimodular_cone.specs.Mediant.{IsMediantOf, AreProducts, IsRowOf, FitsWith}
use Rattle.unimodular_cone.specs.Replacement.{IsRowSet, IsChildWith}
use Rattle.unimodular_cone.proofs.Additions.{child_gram_other, child_gram_mirror}
use Rattle.unimodular_cone.proofs.Fields.{coordinate_shown, gram_shown}
use Rattle.unimodular_cone.proofs.LimitsSame.{fits_same, same_back}
use Rattle.unimodular_cone.proofs.Mediants.{IsSumRead, read_both, product_small, row_is}
use Rattle.unimodular_cone.proofs.RowSet.{row_set_corner}
use Rattle.unimodular_cone.proofs.ShownLaws.{shown_gram_mirror}

-- what the numbers d of a child show
pub record IsChildMade (a : Inside) (r s : ℕ) (path : Path) (d : Inside) : Type 0 where
  pub child : IsChildWith (shown_of a) r s path (shown_of d)
  pub within : IsWithinLimits (shown_of a) → length path ≤ 200 → FitsWith (shown_of a) r s → IsWithinLimits (shown_of d)

abbrev pub replaced : Inside → Path → ℕ → List ℕ → List ℤ → Inside
replaced a path at xs new = record { n = a.n; path = path; gram = new; generators = slice_set a.generators at xs }

module _ (a : Inside) (r s at : ℕ) (path : Path) (xs : List ℕ) (row new : List ℤ) (lr : r < a.n) (ls : s < a.n)
    (hx : IsMediantOf (shown_of a) r s xs) (hrow : IsRowOf (shown_of a) r s row) (set : IsRowSet a.n r a.gram row new) (room : r < length a.generators)
    (here : at ≡ r) where
  abbrev made : Inside
  made = replaced a path at xs new

  coordinate_made : (k p : ℕ) → k < a.n → p < a.n → shown_generators (shown_of made) k p ≡ child (shown_generators (shown_of a)) r s k p
  coordinate_made k p lk lp = by (same_or_not k r)
    where
      by : ((k ≡ r) ⊎ (k ≢ r)) → shown_generators (shown_of made) k p ≡ child (shown_generators (shown_of a)) r s k p
      by (inl e) =
          ap pos (coordinate_shown made k p lk lp
          ∙ ap (λ (w : List ℕ). slice_index_or w p 0) (ap₂ (λ (i : ℕ) (j : ℕ). slice_index_or (slice_set a.generators i xs) j []) here e
          ∙ get_or-set_same a.generators r xs [] room)
          ∙ hx.sums p lp)
          ∙ ap (λ (f : ℕ → ℤ). f p)
          (sym (replaced_here (shown_generators (shown_of a)) r (λ p. shown_generators (shown_of a) r p +ℤ shown_generators (shown_of a) s p) k e))
      by (inr ne) =
          ap pos (coordinate_shown made k p lk lp
          ∙ ap (λ (w : List ℕ). slice_index_or w p 0) (get_or-set_other a.generators at k xs [] (λ e. ne (e ∙ here)))
          ∙ sym (coordinate_shown a k p lk lp))
          ∙ ap (λ (f : ℕ → ℤ). f p)
          (sym (replaced_other (shown_generators (shown_of a)) r (λ p. shown_generators (shown_of a) r p +ℤ shown_generators (shown_of a) s p) k ne))

  below : (k l : ℕ) → l ≤ k → k < a.n → shown_gram (shown_of made) k l ≡ child_gram (shown_gram (shown_of a)) r s k l
  below k l le lk = gram_shown made k l le lk ∙ by (same_or_not k r) (same_or_not l r)
    where
      by : ((k ≡ r) ⊎ (k ≢ r)) → ((l ≡ r) ⊎ (l ≢ r)) → slice_index_or new (triangle k + l) (pos 0) ≡ child_gram (shown_gram (shown_of a)) r s k l
      by (inl e) f =
          ap (λ (i : ℕ). slice_index_or new (triangle i + l) (pos 0)) e
          ∙ set.in_row l (omega arith) (omega arith)
          ∙ hrow.entries l (omega arith)
          ∙ ap (λ (i : ℕ). child_gram (shown_gram (shown_of a)) r s i l) (sym e)
      by (inr ne) (inl f) =
          ap (λ (j : ℕ). slice_index_or new (triangle k + j) (pos 0)) f
          ∙ set.in_column k (omega arith) lk
          ∙ hrow.entries k lk
          ∙ child_gram_mirror (shown_gram (shown_of a)) r s r k (shown_gram_mirror (shown_of a))
          ∙ ap (λ (j : ℕ). child_gram (shown_gram (shown_of a)) r s k j) (sym f)
      by (inr ne) (inr nf) = set.elsewhere k l le ne nf ∙ sym (gram_shown a k l le lk) ∙ sym (child_gram_other (shown_gram (shown_of a)) r s k l ne nf)

  gram_made : (k l : ℕ) → k < a.n → l < a.n → shown_gram (shown_of made) k l ≡ child_gram (shown_gram (shown_of a)) r s k l
  gram_made k l lk ll = by (at_least_or_below k l)
    where
      by : ((l ≤ k) ⊎ (k < l)) → shown_gram (shown_of made) k l ≡ child_gram (shown_gram (shown_of a)) r s k l
      by (inl le) = below k l le lk
      by (inr lt) = shown_gram_mirror (shown_of made) k l ∙ below l k (omega arith) ll
          ∙ child_gram_mirror (shown_gram (shown_of a)) r s l k (shown_gram_mirror (shown_of a))

  pub child_made : IsChildMade a r s path made
  child_made = record {
    child = record { size = refl; path_is = refl; generators = coordinate_made; gram_is = gram_made };
    within = λ w short fits. record {
      some = w.some;
      few = w.few;
      short = short;
      fits = fits_same a.n (child (shown_generators (shown_of a)) r s) (shown_generators (shown_of made)) (child_gram (shown_gram (shown_of a)) r s)
          (shown_gram (shown_of made)) (same_back (record { generators = coordinate_made; gram_is = gram_made })) fits;
    };
  }

-- ---- the mediant's products are written, and then the entry on the diagonal
pub record IsPlaced (a : Inside) (r s at here there : ℕ) (products new : List ℤ) : Type 0 where
  pub within : IsWithinLimits (shown_of a)
  pub first : r < a.n
  pub second : s < a.n
  pub products_are : AreProducts (shown_of a) r s products
  pub set : IsRowSet a.n r a.gram products new
  pub place : at ≡ triangle r + r
  pub here_is : here ≡ r
  pub there_is : there ≡ s

corner_place : (r : ℕ) → triangle (max r r) + min r r ≡ triangle r + r
corner_place r = let a : max r r ≡ r = omega arith in let b : min r r ≡ r = omega arith in rw (a, b)

-- of the cone that the numbers show
pub placed_of : (a : Inside) (c : ShownCone) (r s at here there : ℕ) (products new : List ℤ) → shown_of a ≡ c → IsWithinLimits (shown_of a) → r < c.size
    → s < c.size → AreProducts c r s products → IsRowSet a.n r a.gram products new → at ≡ triangle (max r r) + min r r → here ≡ r → there ≡ s
    → IsPlaced a r s at here there products new
placed_of a c r s at here there products new seen within lr ls h set place is is' =
    let size : a.n ≡ c.size = ap (λ (x : ShownCone). x.size) seen in
    record {
      within = within;
      first = omega arith;
      second = omega arith;
      products_are = subst (λ (x : ShownCone). AreProducts x r s products) (sym seen) h;
      set = set;
      place = place ∙ corner_place r;
      here_is = is;
      there_is = is';
    }

abbrev pub written : List ℤ → List ℤ → ℕ → ℕ → ℤ
written products new at there =
    to_z w128 (of_z w128 (to_z w128 (of_z w128 (slice_index_or new at (pos 0))) +ℤ to_z w128 (of_z w128 (slice_index_or products there (pos 0)))))

module _ (a : Inside) (r s at here there : ℕ) (products new : List ℤ) (g : IsPlaced a r s at here there products new) where
  pub corner_read : IsSumRead (slice_index_or new at (pos 0)) (slice_index_or products there (pos 0))
      ((shown_gram (shown_of a) r r +ℤ shown_gram (shown_of a) s r) +ℤ (shown_gram (shown_of a) r s +ℤ shown_gram (shown_of a) s s))
  corner_read = read_both _ _ _ _ (ap (λ (k : ℕ). slice_index_or new k (pos 0)) g.place ∙ g.set.in_row r (omega arith) g.first ∙ g.products_are r g.first)
      (ap (λ (k : ℕ). slice_index_or products k (pos 0)) g.there_is ∙ g.products_are s g.second)
      (product_small (shown_of a) r s r g.within g.first g.second g.first) (product_small (shown_of a) r s s g.within g.first g.second g.second)

  pub row_written : length products ≡ 8 → IsRowOf (shown_of a) r s (slice_set products here (written products new at there))
  row_written room =
      row_is (shown_of a) r s here products (written products new at there) g.products_are (omega (arith, g.within.few, g.first)) g.here_is corner_read.is

  pub corner_written : length products ≡ 8 → length a.gram ≡ 36
      → IsRowSet a.n r a.gram (slice_set products here (written products new at there)) (slice_set new at (written products new at there))
  corner_written room size =
      row_set_corner a.n r at here a.gram products new (written products new at there) g.set size (omega (arith, g.first, g.within.few))
      (omega (arith, g.first, g.within.few)) g.place g.here_is

pub child_as : (a c d : ShownCone) (r s : ℕ) (path path' : Path) → a ≡ c → path ≡ path' → IsChildWith a r s path d → IsChildWith c r s path' d
child_as a c d r s path path' e f h = subst (λ (x : ShownCone). IsChildWith x r s path' d) e (subst (λ (p : Path). IsChildWith a r s p d) f h)

-- the path with one more digit, as the cone that the numbers show has it
pub child_after : (a c d : ShownCone) (r s : ℕ) (digit : Bool) (path : Path) → a ≡ c → path ≡ a.path ++ digit ∷ [] → IsChildWith a r s path d
    → IsChildWith c r s (c.path ++ digit ∷ []) d
child_after a c d r s digit path e f = child_as a c d r s path (c.path ++ digit ∷ []) e (f ∙ ap (λ (x : ShownCone). x.path ++ digit ∷ []) e)

pub still_short : (a c : ShownCone) (digit : Bool) (path : Path) → a ≡ c → path ≡ a.path ++ digit ∷ [] → length c.path < 200 → length path ≤ 200
still_short a c digit path e f short =
    let same : length a.path ≡ length c.path = ap (λ (x : ShownCone). length x.path) e in
    omega (arith, ap length f, length-append a.path (digit ∷ []))
