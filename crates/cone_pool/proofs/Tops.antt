-- The cone on top of a stack.
use Rattle.std.specs.Prelude.{◌≡◌, ℕ, ◌<◌, ◌+◌, ◌-◌, List, [], ◌∷◌, ◌++◌, length, take, slice_index_or}
use Rattle.std.proofs.Common.{arith, ◌∙◌, ap, ap₂, length-append}
use Rattle.std.proofs.Math.Seq.{get_or-append_seam}
use Rattle.unimodular_cone.specs.Shown.{ShownCone}
use Rattle.unimodular_cone.proofs.Tops.{on_top}
use Rattle.cone_pool.specs.Turns.{IsOnTop}

-- the last cone of a stack is on top
pub shown_top : (stack : List ShownCone) (c : ShownCone) → 0 < length stack → c ≡ slice_index_or stack (length stack - 1) c
    → IsOnTop c (take (length stack - 1) stack) stack
shown_top stack c some is = on_top stack c (length stack - 1) (omega arith) is

top_at : (stack rest : List ShownCone) (c : ShownCone) (at : ℕ) → IsOnTop c rest stack → at + 1 ≡ length stack → at ≡ length rest
top_at stack rest c at top here = let l : length stack ≡ length rest + 1 = ap length top ∙ length-append rest (c ∷ []) in omega arith

-- what is read at the top is the cone on top
pub top_read : (stack rest : List ShownCone) (c d : ShownCone) (at : ℕ) → IsOnTop c rest stack → at + 1 ≡ length stack → d ≡ slice_index_or stack at d → d ≡ c
top_read stack rest c d at top here is =
    is ∙ ap₂ (λ (s : List ShownCone) (k : ℕ). slice_index_or s k d) top (top_at stack rest c at top here) ∙ get_or-append_seam rest c [] d
