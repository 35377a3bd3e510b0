use Rattle.cone_arena.proofs.Tops.{rows_split}
use Rattle.cone_arena.proofs.rows.split_rows.Goals as goal

pub returns : goal.returns
returns c = rows_split _ _ _ c.args.top c.args.i c.args.j _ _ _ c.split_at_mut-below.ensures.value c.split_at_mut-below.ensures.front
    c.split_at_mut-below.ensures.front_len c.index-below-top.is c.split_into.ensures.one c.split_into.ensures.zero
