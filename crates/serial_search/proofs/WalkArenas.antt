-- The arena of a walk: it stays the arena that it was, and it has room for the two children of each cone.
use Rattle.std.specs.Prelude.{◌≡◌, ℕ, ◌≤◌, List, [], ◌∷◌}
use Rattle.std.proofs.Common.{arith, sym, ◌∙◌, refl, subst}
use Rattle.unimodular_cone.specs.Shown.{ShownCone}
use Rattle.cone_arena.specs.Arena.{ShownArena}
use Rattle.search_core.specs.declared.Fate.{Fate}
use Rattle.serial_search.specs.Turns.{IsOnTop, IsTurnOf}
use Rattle.serial_search.specs.Turns.{IsArenaEmptied}
use Rattle.serial_search.proofs.Tops.{AreDeep, deep_turned}

pub record IsWalkArena (limit : ℕ) (before now : ShownArena) : Type 0 where
  pub size : now.size ≡ before.size
  pub depth : now.depth ≡ before.depth
  pub room : limit ≤ now.depth
  pub deep : AreDeep 0 now.cones

pub walk_arena_starts : (limit : ℕ) (a : ShownArena) (root : ShownCone) → a.cones ≡ root ∷ [] → limit ≤ a.depth → IsWalkArena limit a a
walk_arena_starts limit a root alone room = record { size = refl; depth = refl; room = room; deep = subst (AreDeep 0) (sym alone) (omega arith, tt) }

pub walk_arena_turns : {limit : ℕ} {before a b : ShownArena} {f : Fate} (c : ShownCone) (rest : List ShownCone) → IsWalkArena limit before a
    → IsOnTop c rest a.cones → IsTurnOf a f b → IsWalkArena limit before b
walk_arena_turns {limit} {before} {a} {b} {f} c rest h top turn = record {
  size = turn.size ∙ h.size;
  depth = turn.depth ∙ h.depth;
  room = (let e : b.depth ≡ a.depth = turn.depth in let l : limit ≤ a.depth = h.room in omega arith);
  deep = deep_turned a.cones rest b.cones c f h.deep top (turn.turned c rest top);
}

pub walk_arena_empties : {limit : ℕ} {before now : ShownArena} → IsWalkArena limit before now → now.cones ≡ [] → IsArenaEmptied before now
walk_arena_empties h empty = record { size = h.size; depth = h.depth; empty = empty }
