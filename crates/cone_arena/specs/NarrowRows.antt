-- The fields of a list of narrow cones, and what they show.
--
--     narrow_arena_of f   the generators of its cones, the depth, and the cones
--     IsNarrowBlock f     what is shown is an arena, its rows are at least so many, and there is room for depth + 2
use Rattle.std.specs.Prelude.{◌≤◌, ◌+◌, length, take}
use Rattle.std.specs.Vec.{vec_capacity}
use Rattle.cone_arena.specs.declared.narrow_arena.NarrowArena.TheInside.{Inside}
use Rattle.cone_arena.specs.Arena.{ShownArena, IsArena}

abbrev pub narrow_arena_of : Inside → ShownArena
narrow_arena_of f = record { size = f.n; depth = f.depth; cones = take f.len f.rows.items }

pub record IsNarrowBlock (f : Inside) : Type 0 where
  pub arena : IsArena (narrow_arena_of f)
  pub counted : f.len ≤ length f.rows.items
  pub block : f.depth + 2 ≤ vec_capacity f.rows
