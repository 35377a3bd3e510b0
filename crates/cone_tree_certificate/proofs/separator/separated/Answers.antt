use Rattle.std.proofs.Common.{ℕ, pos, sym, ap, ◌∙◌, ℤ, List}
use Rattle.std.specs.Ordering.{int_eq}
use Rattle.symmetric_matrix.specs.Symmetric.{Symmetric}
use Rattle.text_lines.specs.Square.{first_unlike}
use Rattle.cone_tree_certificate.specs.Rows.{w_entries}
use Rattle.cone_tree_certificate.proofs.Symmetries.{separated-table, lower-table}
use Rattle.cone_tree_certificate.proofs.separator.separated.Goals as goal

pub from_lower-requires-clause-lower : goal.from_lower-requires-clause-lower
from_lower-requires-clause-lower c = lower-table c.args.table.now c.deref.result.now c.requires (c.deref.ensures.value ∙ c.in_ok-lower.ensures)

abbrev sized : ℕ → List ℤ → Symmetric
sized size lower = record { size = size; lower = lower }

pub returns : goal.returns
returns c = separated-table c.args.table.now c.args.value c.args.tree (first_unlike int_eq (pos 0) (w_entries c.args.table.now)) c.in_ok-w.w
    (sym c.in_default.ensures.first)
    (c.in_ok-w.ensures ∙ ap (λ (lower : List ℤ). sized c.args.table.now.size lower) (c.deref.ensures.value ∙ c.in_ok-lower.ensures))
