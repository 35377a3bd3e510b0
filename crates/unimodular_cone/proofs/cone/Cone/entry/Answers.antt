use Rattle.std.proofs.Common.{subst}
use Rattle.unimodular_cone.specs.Shown.{IsWithinLimits}
use Rattle.unimodular_cone.proofs.Fields.{gram_read}
use Rattle.unimodular_cone.proofs.PartSlack.{read_back}
use Rattle.unimodular_cone.proofs.ShownLaws.{gram_within}
use Rattle.unimodular_cone.proofs.cone.Cone.entry.Goals as goal

pub returns : goal.returns
returns c =
    read_back _ _ (gram_read c.self.inside _ _ _ _ c.self.view_is c.place_of.ensures.place c.requires.row_in_range c.requires.column_in_range)
    (gram_within c.args.self.now c.args.row c.args.column (subst IsWithinLimits c.self.view_is c.self.invariant.within) c.requires.row_in_range
    c.requires.column_in_range)
