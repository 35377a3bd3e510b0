-- The last cone on a way.
use Rattle.std.specs.Prelude.{◌≡◌, ℕ, ◌+◌, ◌<◌, List, [], ◌∷◌, ◌++◌, length, slice_index_or}
use Rattle.std.proofs.Common.{arith, ◌∙◌, ap, ap₂, length-append}
use Rattle.std.proofs.Math.Seq.{get_or-append_seam}
use Rattle.unimodular_cone.specs.Shown.{ShownCone}

pub last_read : (cones rest : List ShownCone) (last c : ShownCone) (at : ℕ) → cones ≡ rest ++ last ∷ [] → at + 1 ≡ length cones → c ≡ slice_index_or cones at c
    → c ≡ last
last_read cones rest last c at is here e =
    let l : length cones ≡ length rest + 1 = ap length is ∙ length-append rest (last ∷ []) in
    let same : at ≡ length rest = omega (arith, l, here) in
    e ∙ ap₂ (λ (s : List ShownCone) (k : ℕ). slice_index_or s k c) is same ∙ get_or-append_seam rest last [] c

pub some_last : (cones rest : List ShownCone) (last : ShownCone) → cones ≡ rest ++ last ∷ [] → 0 < length cones
some_last cones rest last is = let l : length cones ≡ length rest + 1 = ap length is ∙ length-append rest (last ∷ []) in omega (arith, l)
