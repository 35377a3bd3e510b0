use Rattle.cone_arena.proofs.OpenTops.{rows_opened}
use Rattle.cone_arena.proofs.narrow_arena.open_rows.Goals as goal

pub returns-clause-opened : goal.returns-clause-opened
returns-clause-opened c = rows_opened _ _ _ c.args.top c.args.i c.args.j _ _ _ _ _ _ c.split_at_mut-below.ensures.value c.split_at_mut-below.ensures.front
    c.split_at_mut-below.ensures.front_len c.requires.inside c.index-below-top.is c.split_open.ensures.opening c.split_open.ensures.made
