use Rattle.std.specs.Prelude.{[]}
use Rattle.std.proofs.Common.{arith, refl}
use Rattle.serial_search.proofs.Loops.{loop_starts}
use Rattle.serial_search.proofs.Stacks.{search_ends}
use Rattle.serial_search.proofs.narrow_search.search_from.Goals as goal

pub search_above-requires-clause-stands : goal.search_above-requires-clause-stands
search_above-requires-clause-stands c = (
  [],
  rw (c.none-found.ensures.word, c.start_word.ensures, c.none-found.ensures.judged, c.none-found.ensures.attaining)
      (loop_starts c.args.mode c.args.q.now c.args.limit c.put_alone.new.self
      (record { root = c.args.root; is_root = c.requires.root; alone = c.put_alone.ensures.alone })
      (omega (arith, c.put_alone.ensures.depth, c.requires.room))).searching,
)

pub returns-in-Some : goal.returns-in-Some
returns-in-Some c = search_ends _ _ _ _ _ _ _ _ _ refl (rw c.in-Some.is at (c.in_ok-search_above.ensures.searched []
    (rw (c.none-found.ensures.word, c.start_word.ensures, c.none-found.ensures.judged, c.none-found.ensures.attaining)
    (loop_starts c.args.mode c.args.q.now c.args.limit c.put_alone.new.self
    (record { root = c.args.root; is_root = c.requires.root; alone = c.put_alone.ensures.alone })
    (omega (arith, c.put_alone.ensures.depth, c.requires.room))).searching)))
