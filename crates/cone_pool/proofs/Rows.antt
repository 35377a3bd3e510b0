-- The rows of a stack, of which the first ones count.
use Rattle.std.specs.Prelude.{◌≡◌, ℕ, ◌<◌, ◌+◌, ◌-◌, List, [], ◌∷◌, ◌++◌, length, take}
use Rattle.std.proofs.Common.{arith, sym, ◌∙◌, ap, length-append, length-take, take-take, take_at}
use Rattle.std.proofs.lemmas.List.{take_all}
use Rattle.unimodular_cone.specs.Shown.{ShownCone}

pub some_rows : (rows stack : List ShownCone) (len : ℕ) → take len rows ≡ stack → 0 < length stack → len - 1 + 1 ≡ len
some_rows rows stack len e some = omega (arith, ap length e, length-take len rows)

-- the rows that count are the stack, also once others stand above them
pub rows_stand : (rows more stack : List ShownCone) (len : ℕ) → take len rows ≡ stack → 0 < length stack
    → take (len - 1 + 1) more ≡ take (len - 1 + 1) rows → take (len - 1 + 1) more ≡ stack
rows_stand rows more stack len e some same = same ∙ ap (λ (k : ℕ). take k rows) (some_rows rows stack len e some) ∙ e

pub pushed_row : (rows new : List ShownCone) (len : ℕ) (c : ShownCone) → new ≡ rows ++ c ∷ [] → len ≡ length rows
    → take (len + 1) new ≡ take len rows ++ c ∷ []
pushed_row rows new len c e l =
    ap (take (len + 1)) e
    ∙ take_all (len + 1) (rows ++ c ∷ []) (omega (arith, l, length-append rows (c ∷ [])))
    ∙ ap (λ (s : List ShownCone). s ++ c ∷ []) (sym (take_all len rows (omega (arith, l))))

pub kept_below : (rows new : List ShownCone) (len : ℕ) (c : ShownCone) → new ≡ rows ++ c ∷ [] → len ≡ length rows → take len new ≡ take len rows
kept_below rows new len c e l = ap (take len) e ∙ take_at rows (c ∷ []) len (sym l) ∙ sym (take_all len rows (omega (arith, l)))

-- the rows below the top of a stack
pub rest_below : (rows rest : List ShownCone) (c : ShownCone) (top : ℕ) → top < length rows → take (top + 1) rows ≡ rest ++ c ∷ [] → take top rows ≡ rest
rest_below rows rest c top inside e =
    let many : length rest ≡ top = omega (arith, ap length e, length-take (top + 1) rows, length-append rest (c ∷ [])) in
    sym (take-take top (top + 1) rows (omega arith)) ∙ ap (take top) e ∙ take_at rest (c ∷ []) top many
