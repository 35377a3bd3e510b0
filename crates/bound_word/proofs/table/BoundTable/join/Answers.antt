use Rattle.std.proofs.Common.{ap, sym, ◌∙◌, arith}
use Rattle.bound_word.proofs.Falls.{joins, looks}
use Rattle.bound_word.proofs.table.BoundTable.join.Goals as goal

pub join_seat-requires : goal.join_seat-requires
join_seat-requires c = let id = sym (ap (λ v. v.id) c.self.view_is) in (
  ap (λ v. v.table) c.seat.view_is ∙ c.requires.tables.0 ∙ id,
  ap (λ v. v.table) c.other.view_is ∙ c.requires.tables.1 ∙ id,
  c.other.invariant.0,
  omega (arith, c.self.invariant.0),
  joins _ _ _ _ _ (ap (λ v. v.first) c.seat.view_is ∙ c.requires.first) c.seat.invariant.3 (ap (λ v. v.first) c.other.view_is
      ∙ c.requires.another) c.other.invariant.3,
)

pub load-seat-inside-requires : goal.load-seat-inside-requires
load-seat-inside-requires c = (
  c.join_seat.ensures.0 ∙ ap (λ v. v.table) c.seat.view_is ∙ c.requires.tables.0 ∙ sym (ap (λ v. v.id) c.self.view_is),
  omega (arith, c.self.invariant.0),
  looks _ _ _ _ _,
)
