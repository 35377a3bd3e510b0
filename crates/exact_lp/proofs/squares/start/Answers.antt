use Rattle.std.proofs.Common.{◌≡◌, ◌∙◌, sym, subst, length, ℕ, List, ◌<◌}
use Rattle.std.specs.Prelude.{slice_index_or}
use Rattle.symmetric_matrix.specs.Symmetric.{Symmetric}
use Rattle.exact_linear.proofs.SquareLists.{sizes}
use Rattle.exact_linear.specs.Columns.{no_matrix}
use Rattle.exact_lp.proofs.squares.start.Goals as goal

pub over_units-requires-clause-sizes : goal.over_units-requires-clause-sizes
over_units-requires-clause-sizes c =
    subst (λ (xs : List Symmetric). (k : ℕ) → k < length xs
    → (slice_index_or xs k no_matrix).size ≡ c.n.result) (sym (c.deref.ensures.value ∙ c.in_ok-columns.ensures))
    (λ k l. sizes c.args.vectors.now c.args.s.now c.requires k l ∙ sym c.n.ensures.value)
