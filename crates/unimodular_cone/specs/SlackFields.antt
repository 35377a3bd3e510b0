-- The fields of a narrow cone with its slacks.
--
--     slack_shown c   what its cone shows
--     IsSlackCone c   the slacks are those of its cone's generators
use Rattle.unimodular_cone.specs.declared.slack_cone.SlackCone.TheInside.{Inside}
use Rattle.unimodular_cone.specs.OpenChildren.{AreSlacks}
use Rattle.unimodular_cone.specs.Shown.{ShownCone, shown_gram}

abbrev pub slack_shown : Inside → ShownCone
slack_shown c = c.cone

abbrev pub IsSlackCone : Inside → Type 0
IsSlackCone c = AreSlacks c.cone.size (shown_gram c.cone) c.slacks
