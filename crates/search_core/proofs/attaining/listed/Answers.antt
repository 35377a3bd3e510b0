use Rattle.std.specs.Prelude.{◌≡◌, ◌<◌, ◌↔◌, ℕ, Bool, true, false, List, [], ◌∷◌, length}
use Rattle.std.proofs.Common.{arith, refl, sym, ◌∙◌}
use Rattle.search_core.proofs.Keys.{IsNextKey, next_key, listing_end}
use Rattle.search_core.proofs.attaining.listed.Goals.{In-Some}
use Rattle.search_core.proofs.attaining.listed.Goals as goal

next : (c : In-Some) → IsNextKey c.args.n c.args.keys.keys c.loop-key.list c.pop_first.new.self.keys c.in-Some.key
next c =
    next_key c.args.n c.args.keys.keys c.loop-key.list c.loop-key.rest.keys c.pop_first.new.self.keys c.in-Some.key c.requires.few c.requires.keys
    c.loop-key.invariant c.in-Some.ensures.removal

pub vector_of-requires-clause-small : goal.vector_of-requires-clause-small
vector_of-requires-clause-small c = (next (goal.at.vector_of-requires-clause-small c).In-Some).key.small

pub push-requires : goal.push-requires
push-requires c = rw c.vector_of.ensures (next (goal.at.push-requires c).In-Some).follows

pub loop-key-preserved-in_ok-push : goal.loop-key-preserved-in_ok-push
loop-key-preserved-in_ok-push c =
    rw (c.in_ok-push.ensures.ok, c.vector_of.ensures) ((next (goal.at.loop-key-preserved-in_ok-push c).In-Some).more c.in-Some.ensures.all_above)

pub loop-key-preserved : goal.loop-key-preserved
loop-key-preserved c = rw (c.in_ok-push.ensures.ok, c.vector_of.ensures) ((next (goal.at.loop-key-preserved c).In-Some).more c.in-Some.ensures.all_above)

none_left : (rest new : List (List ℕ)) (b : Bool) → (b ≡ true ↔ 0 < length rest) → b ≡ false → rest ≡ []
none_left [] new b h e = refl
none_left (x ∷ rest) new b h e = let f : b ≡ true = h.1 (omega arith) in let g : true ≡ false = sym f ∙ e in absurd (cc)

pub returns : goal.returns
returns c = listing_end c.args.n c.args.keys.keys c.loop-key.list c.loop-key.rest.keys c.loop-key.invariant
    (none_left c.loop-key.rest.keys c.pop_first.new.self.keys false c.in_default.ensures.variant refl)
