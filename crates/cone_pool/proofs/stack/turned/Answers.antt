use Rattle.symmetric_matrix.specs.Symmetric.{entry}
use Rattle.cone_pool.proofs.Turning.{top_splits, turned_cones}
use Rattle.cone_pool.proofs.stack.turned.Goals as goal

pub turn-requires-clause-splits : goal.turn-requires-clause-splits
turn-requires-clause-splits c = top_splits c.args.mode c.args.q.now.size
    (entry c.args.q.now) c.args.limit c.args.fate.now c.args.stack.now c.requires.limited c.requires.cones c.requires.fate

pub returns-in-Ok : goal.returns-in-Ok
returns-in-Ok c = turned_cones c.args.mode c.args.q.now.size
    (entry c.args.q.now) c.args.limit c.args.path.now c.args.fate.now c.args.stack.now c.turn.new.stack c.requires.cones c.requires.fate
    c.requires.top c.in-Ok.ensures
