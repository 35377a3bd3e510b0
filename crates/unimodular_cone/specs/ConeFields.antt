-- A cone's fields and what they show.
--
--     shown_of c   the size, the path, the entries of the lower triangle that count, and the numbers of the generators that count
--     IsCone c     what is shown is within its limits, and there is room for eight generators
use Rattle.std.specs.Prelude.{◌≡◌, length, map, take}
use Rattle.exact_forms.specs.Triangles.{triangle}
use Rattle.unimodular_cone.specs.declared.cone.Cone.TheInside.{Inside}
use Rattle.unimodular_cone.specs.Shown.{ShownCone, IsWithinLimits}

abbrev pub shown_of : Inside → ShownCone
shown_of c = record {
  size = c.n;
  path = c.path;
  lower = take (triangle c.n) c.gram;
  generators = map (take c.n) (take c.n c.generators);
}

pub record IsCone (c : Inside) : Type 0 where
  pub within : IsWithinLimits (shown_of c)
  pub room : length c.generators ≡ 8
