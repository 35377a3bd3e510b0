use Rattle.std.proofs.Common.{◌∙◌, ap₂, ℕ, List}
use Rattle.symmetric_matrix.proofs.Lists.{Orders, slice_cmp_orders}
use Rattle.std.specs.Ordering.{nat_cmp}
use Rattle.std.specs.Cmp.Lexicographic.{slice_cmp}
use Rattle.symmetric_matrix.proofs.vector.IntVector.cmp.Goals as goal

orders : (c : goal.After-cmp) → Orders c.args.self.now c.args.other.now c.cmp.result
orders c =
    slice_cmp_orders c.args.self.now c.args.other.now c.cmp.result c.requires
    (c.cmp.ensures ∙ ap₂ (λ (x : List ℕ) (y : List ℕ). slice_cmp nat_cmp x y) (c.as_slice.ensures ∙ c.self.view_is) (c.as_slice-2.ensures ∙ c.other.view_is))

pub returns-clause-less : goal.returns-clause-less
returns-clause-less c = (orders c).less

pub returns-clause-equal : goal.returns-clause-equal
returns-clause-equal c = (orders c).equal

pub returns-clause-greater : goal.returns-clause-greater
returns-clause-greater c = (orders c).greater
