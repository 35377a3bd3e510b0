use Rattle.std.proofs.Common.{subst}
use Rattle.serial_search.specs.OpenTurns.{MayOpen}
use Rattle.serial_search.proofs.Opens.{mediant_is_key}
use Rattle.serial_search.proofs.narrow_search.turn.Goals as goal

pub split_open-requires-clause-can : goal.split_open-requires-clause-can
split_open-requires-clause-can c = (subst (MayOpen c.args.arena.now) c.in-Split.is c.requires.may).0

pub split_open-requires-clause-fits : goal.split_open-requires-clause-fits
split_open-requires-clause-fits c = (subst (MayOpen c.args.arena.now) c.in-Split.is c.requires.may).1

pub note_mediant-requires : goal.note_mediant-requires
note_mediant-requires c =
    let may = subst (MayOpen c.args.arena.now) c.in-Split.is c.requires.may in
    mediant_is_key c.args.arena.now c.split_open.new.self c.in-Split.i c.in-Split.j _ c.in-Some.opened c.split_open.new.mediant may.0 may.1
    c.in-Some.ensures.opened
