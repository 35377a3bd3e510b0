-- The numbers of a narrow child, made from its parent's: the mediant's products are written, and then the entry on the diagonal.
use Rattle.std.specs.Prelude.{◌≡◌, ℕ, ◌<◌, ℤ, pos, ◌+ℤ◌, FitsSigned, List, length, slice_index_or, slice_set}
use Rattle.std.specs.Int.{w64}
use Rattle.std.proofs.Common.{arith, to_z, of_z, ◌∙◌, ap}
use Rattle.unimodular_cone.specs.declared.cone.Cone.TheInside.{Inside}
use Rattle.unimodular_cone.specs.Paths.{Path}
use Rattle.unimodular_cone.specs.ConeFields.{shown_of}
use Rattle.unimodular_cone.specs.Shown.{shown_gram}
use Rattle.unimodular_cone.specs.Mediant.{IsMediantOf, IsRowOf}
use Rattle.unimodular_cone.specs.Narrow.{HasNarrowGram, HasNarrowMediant}
use Rattle.unimodular_cone.specs.Replacement.{IsRowSet}
use Rattle.unimodular_cone.proofs.Mediants.{row_is}
use Rattle.unimodular_cone.proofs.NarrowChildren.{child_narrow}
use Rattle.unimodular_cone.proofs.NarrowSums.{sum_fits_64, sum_64}
use Rattle.unimodular_cone.proofs.Replaced.{IsChildMade, replaced, child_made, IsPlaced}
use Rattle.unimodular_cone.proofs.RowSet.{row_set_corner}

-- what the numbers d of a narrow child show
pub record IsNarrowChildMade (a : Inside) (r s : ℕ) (path : Path) (d : Inside) : Type 0 where
  pub made : IsChildMade a r s path d
  pub narrow : HasNarrowGram (shown_of a) → HasNarrowGram (shown_of d)

abbrev pub written_64 : List ℤ → List ℤ → ℕ → ℕ → ℤ
written_64 products new at there =
    to_z w64 (of_z w64 (to_z w64 (of_z w64 (slice_index_or new at (pos 0))) +ℤ to_z w64 (of_z w64 (slice_index_or products there (pos 0)))))

abbrev pub narrow_replaced : Inside → Path → ℕ → List ℕ → List ℤ → List ℤ → ℕ → ℕ → Inside
narrow_replaced a path here xs products new at there = replaced a path here xs (slice_set new at (written_64 products new at there))

module _ (a : Inside) (r s at here there : ℕ) (products new : List ℤ) (g : IsPlaced a r s at here there products new)
    (small : HasNarrowMediant (shown_of a) r s) where
  abbrev corner : ℤ
  corner = shown_gram (shown_of a) r r +ℤ shown_gram (shown_of a) s r

  abbrev beside : ℤ
  beside = shown_gram (shown_of a) r s +ℤ shown_gram (shown_of a) s s

  corner_is : slice_index_or new at (pos 0) ≡ corner
  corner_is = ap (λ (k : ℕ). slice_index_or new k (pos 0)) g.place ∙ g.set.in_row r (omega arith) g.first ∙ g.products_are r g.first

  beside_is : slice_index_or products there (pos 0) ≡ beside
  beside_is = ap (λ (k : ℕ). slice_index_or products k (pos 0)) g.there_is ∙ g.products_are s g.second

  pub corner_fits : FitsSigned w64 (to_z w64 (of_z w64 (slice_index_or new at (pos 0))) +ℤ to_z w64 (of_z w64 (slice_index_or products there (pos 0))))
  corner_fits = sum_fits_64 _ _ corner beside corner_is beside_is (small.products r g.first) (small.products s g.second)

  written_is : written_64 products new at there ≡ corner +ℤ beside
  written_is = sum_64 _ _ corner beside corner_is beside_is (small.products r g.first) (small.products s g.second)

  module _ (path : Path) (xs : List ℕ) (full : length products ≡ 8) (size : length a.gram ≡ 36) (room : length a.generators ≡ 8)
      (hx : IsMediantOf (shown_of a) r s xs) where
    abbrev value : ℤ
    value = written_64 products new at there

    row : IsRowOf (shown_of a) r s (slice_set products here value)
    row = row_is (shown_of a) r s here products value g.products_are (omega (arith, g.first, g.within.few)) g.here_is written_is

    corner_set : IsRowSet a.n r a.gram (slice_set products here value) (slice_set new at value)
    corner_set = row_set_corner a.n r at here a.gram products new value g.set size (omega (arith, g.first, g.within.few))
        (omega (arith, g.first, g.within.few)) g.place g.here_is

    inside : r < length a.generators
    inside = omega (arith, room, g.first, g.within.few)

    child : IsChildMade a r s path (narrow_replaced a path here xs products new at there)
    child = child_made a r s here path xs (slice_set products here value) (slice_set new at value) g.first g.second hx row corner_set inside g.here_is

    pub narrow_child_made : IsNarrowChildMade a r s path (narrow_replaced a path here xs products new at there)
    narrow_child_made = record {
      made = child;
      narrow = λ narrow k l lk ll. rw (child.child.gram_is k l lk ll) (child_narrow (shown_of a) r s g.first g.second narrow small k l lk ll);
    }
