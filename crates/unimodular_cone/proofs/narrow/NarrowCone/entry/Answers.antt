use Rattle.std.specs.Prelude.{◌≤◌, ◌^◌, ℤ, nat_abs}
use Rattle.std.proofs.Common.{sym, subst}
use Rattle.unimodular_cone.specs.Narrow.{HasNarrowGram}
use Rattle.unimodular_cone.specs.NarrowFields.{as_wide}
use Rattle.unimodular_cone.specs.Shown.{shown_gram}
use Rattle.unimodular_cone.proofs.Fields.{gram_read}
use Rattle.unimodular_cone.proofs.NarrowSums.{read_64}
use Rattle.unimodular_cone.proofs.narrow.NarrowCone.entry.Goals as goal

pub returns : goal.returns
returns c =
    let small : nat_abs (shown_gram c.args.self.now c.args.row c.args.column) ≤ 2 ^ 59 =
    subst HasNarrowGram c.self.view_is c.self.invariant.narrow c.args.row c.args.column c.requires.row_in_range c.requires.column_in_range in
    let is = gram_read (as_wide c.self.inside) _ _ _ _ c.self.view_is c.place_of.ensures.place c.requires.row_in_range c.requires.column_in_range in
    let value = read_64 _ _ is small in
    record { value = value; narrow = subst (λ (z : ℤ). nat_abs z ≤ 2 ^ 59) (sym value) small }
