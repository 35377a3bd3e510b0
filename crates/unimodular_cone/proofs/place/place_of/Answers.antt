use Rattle.std.specs.Prelude.{ℕ, [], slice_index_or}
use Rattle.std.proofs.Common.{◌∙◌, ap₂}
use Rattle.unimodular_cone.proofs.Places.{places, place_read}
use Rattle.unimodular_cone.proofs.place.place_of.Goals as goal

pub returns-clause-place : goal.returns-clause-place
returns-clause-place c =
    c.from-3.ensures
    ∙ ap₂ (λ (row : ℕ) (column : ℕ). slice_index_or (slice_index_or places row []) column 0) c.from.ensures c.from-2.ensures
    ∙ place_read c.args.row c.args.column c.requires.row c.requires.column
