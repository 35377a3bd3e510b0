use Rattle.std.proofs.Common.{arith, refl, sym, ◌∙◌}
use Rattle.symmetric_matrix.specs.Symmetric.{entry}
use Rattle.cone_pool.proofs.Gatherings.{gathers, last_in, rest_in, no_members}
use Rattle.cone_pool.proofs.Newcomers.{alike_less}
use Rattle.cone_pool.proofs.gathering.gather.Goals as goal

pub loop-member-init : goal.loop-member-init
loop-member-init c = record { returned = c.requires.returned; alike = c.requires.alike; whole = refl; gathered = c.requires.gathered }

pub merge-requires-clause-tables : goal.merge-requires-clause-tables
merge-requires-clause-tables c = (
  c.loop-member.invariant.gathered.table_is,
  (c.loop-member.invariant.returned c.in-Some.member (last_in _ c.pop.new.self.items _ c.in-Some.ensures.items)).table_is,
)

pub merge-requires-clause-first : goal.merge-requires-clause-first
merge-requires-clause-first c = c.loop-member.invariant.gathered.first

pub merge-requires-clause-second : goal.merge-requires-clause-second
merge-requires-clause-second c = (c.loop-member.invariant.returned c.in-Some.member (last_in _ c.pop.new.self.items _ c.in-Some.ensures.items)).second

pub merge-requires-clause-whole : goal.merge-requires-clause-whole
merge-requires-clause-whole c =
    (alike_less _ _ c.pop.new.self.items _ c.in-Some.ensures.items c.loop-member.invariant.alike).0 ∙ sym c.loop-member.invariant.whole

pub merge-requires-clause-out : goal.merge-requires-clause-out
merge-requires-clause-out c = (c.loop-member.invariant.returned c.in-Some.member (last_in _ c.pop.new.self.items _ c.in-Some.ensures.items)).out

pub merge-requires-clause-tokens : goal.merge-requires-clause-tokens
merge-requires-clause-tokens c = (c.loop-member.invariant.returned c.in-Some.member (last_in _ c.pop.new.self.items _ c.in-Some.ensures.items)).tokens

pub loop-member-preserved : goal.loop-member-preserved
loop-member-preserved c = record {
  returned = λ v there. c.loop-member.invariant.returned v (rest_in _ c.pop.new.self.items _ c.in-Some.ensures.items v there);
  alike = (alike_less _ _ c.pop.new.self.items _ c.in-Some.ensures.items c.loop-member.invariant.alike).1;
  whole = c.in_ok-merge.ensures.judged.whole ∙ c.loop-member.invariant.whole;
  gathered = gathers c.args.mode c.args.q.now.size (entry c.args.q.now) c.args.limit _ _ _ c.in-Some.member _ _ c.in-Some.ensures.items
      (c.loop-member.invariant.returned c.in-Some.member
      (last_in _ c.pop.new.self.items _ c.in-Some.ensures.items))
      ((alike_less _ _ c.pop.new.self.items _ c.in-Some.ensures.items c.loop-member.invariant.alike).0 ∙ sym c.loop-member.invariant.whole)
      c.loop-member.invariant.gathered c.in_ok-merge.ensures;
}

pub returns-clause-gathered : goal.returns-clause-gathered
returns-clause-gathered c =
    let none = c.in_default.ensures.cases.0 in
    rw (no_members c.loop-member.rest.items (omega (arith, none))) at c.loop-member.invariant.gathered
