-- A narrow cone that is made from the numbers of a cone of any Gram entries.
use Rattle.std.specs.Prelude.{◌≡◌, List, ℤ, length}
use Rattle.std.proofs.Common.{◌∙◌, refl, sym, subst}
use Rattle.exact_forms.specs.Triangles.{triangle}
use Rattle.unimodular_cone.specs.declared.cone.Cone.TheInside.{Inside}
use Rattle.unimodular_cone.specs.declared.narrow.NarrowCone.TheInside.{Inside as NarrowInside}
use Rattle.unimodular_cone.specs.ConeFields.{shown_of, IsCone}
use Rattle.unimodular_cone.specs.Copies.{AreRowsCopied}
use Rattle.unimodular_cone.specs.Narrow.{HasShallowCoordinates, IsNarrowCopy}
use Rattle.unimodular_cone.specs.NarrowFields.{narrow_shown, IsNarrowCone}
use Rattle.unimodular_cone.specs.Shown.{ShownCone, IsWithinLimits}
use Rattle.unimodular_cone.proofs.Copies.{same_shown, copied_is_cone}
use Rattle.unimodular_cone.proofs.NarrowRoots.{entries_narrow}

module _ (c : Inside) (shown : ShownCone) (gram : List ℤ) (is : shown_of c ≡ shown) (within : IsWithinLimits shown) (room : length c.generators ≡ 8)
    (copy : IsNarrowCopy (triangle c.n) c.gram gram) where
  abbrev pub narrowed : NarrowInside
  narrowed = record { n = c.n; path = c.path; gram = gram; generators = c.generators }

  rows : AreRowsCopied c.n c.generators c.generators
  rows = record { room = room; same = λ k l. refl }

  cone : IsCone c
  cone = record { within = subst IsWithinLimits (sym is) within; room = room }

  pub shows_same : narrow_shown narrowed ≡ shown
  shows_same = same_shown c gram c.generators cone.within.few copy.copied.full room copy.copied rows ∙ is

  pub is_narrow_cone : HasShallowCoordinates shown → IsNarrowCone narrowed
  is_narrow_cone shallow = record {
    cone = copied_is_cone c gram c.generators copy.copied.full cone copy.copied rows;
    narrow = entries_narrow (record { n = c.n; path = c.path; gram = gram; generators = c.generators }) copy.narrow;
    shallow = subst HasShallowCoordinates (sym shows_same) shallow;
  }
