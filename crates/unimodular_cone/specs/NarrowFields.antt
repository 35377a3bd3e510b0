-- A narrow cone's fields and what they show.
--
--     as_wide c        the same numbers as fields of a cone of any Gram entries
--     narrow_shown c   what those show
--     IsNarrowCone c   they are a cone's, its Gram entries are narrow, and its coordinates are at most two to the depth
use Rattle.unimodular_cone.specs.declared.narrow.NarrowCone.TheInside.{Inside}
use Rattle.unimodular_cone.specs.declared.cone.Cone.TheInside.{Inside as WideInside}
use Rattle.unimodular_cone.specs.ConeFields.{shown_of, IsCone}
use Rattle.unimodular_cone.specs.Narrow.{HasNarrowGram, HasShallowCoordinates}
use Rattle.unimodular_cone.specs.Shown.{ShownCone}

abbrev pub as_wide : Inside → WideInside
as_wide c = record { n = c.n; path = c.path; gram = c.gram; generators = c.generators }

abbrev pub narrow_shown : Inside → ShownCone
narrow_shown c = shown_of (as_wide c)

pub record IsNarrowCone (c : Inside) : Type 0 where
  pub cone : IsCone (as_wide c)
  pub narrow : HasNarrowGram (narrow_shown c)
  pub shallow : HasShallowCoordinates (narrow_shown c)
