-- The first visit is held.
use Rattle.std.specs.Prelude.{◌≡◌, ℕ, zero, suc, ◌+◌, ◌≤◌, ◌<◌, ℤ, pos, nat_abs, List, map, length}
use Rattle.std.proofs.Common.{arith, sym, ◌∙◌, ap, ap₂, refl, subst}
use Rattle.std.proofs.lemmas.List.{length-map}
use native.Mathlib.Nat.{eq-one_of_dvd-one}
use Prim.Native.Nat.{◌∣◌}
use Rattle.exact_forms.specs.Triangles.{triangle}
use Rattle.exact_forms.proofs.Triangles.{entry_before}
use Rattle.symmetric_matrix.specs.Combining.{divisor_of}
use Rattle.symmetric_matrix.specs.FirstMatrix.{first_entry, first_matrix, first_minimum}
use Rattle.symmetric_matrix.specs.Recipes.{Place, triangle_places}
use Rattle.symmetric_matrix.specs.StartVectors.{start_list}
use Rattle.symmetric_matrix.specs.Symmetric.{Symmetric}
use Rattle.symmetric_matrix.proofs.Divisors.{divisor_is_greatest}
use Rattle.symmetric_matrix.proofs.FirstMatrix.{first_is_minimum, start_list_is_perfect}
use Rattle.symmetric_matrix.proofs.Places.{entry_lower}
use Rattle.symmetric_matrix.proofs.TrianglePlaces.{length-triangle_places, placed_entry}
use Rattle.perfect_walk.specs.declared.journal.Visit.{Visit}
use Rattle.perfect_walk.specs.Chains.{start_visit}
use Rattle.perfect_walk.specs.Parts.{IsHeld}

-- the divisor of all entries divides one of magnitude 1
by_entry : (n i j : ℕ) → j ≤ i → i < n → nat_abs (first_entry n (record { row = i; column = j })) ≡ 1 → divisor_of (first_matrix n) ≡ 1
unfolding first_matrix
by_entry n i j h l one =
    let q : Symmetric = record { size = n; lower = map (first_entry n) (triangle_places n) } in
    let within : triangle i + j < length q.lower = omega
    (arith, length-map (triangle_places n) (first_entry n), length-triangle_places n, entry_before i j n h l) in
    eq-one_of_dvd-one (subst (λ (m : ℕ). divisor_of q ∣ m) (ap nat_abs (sym (entry_lower q i j h) ∙ placed_entry n (first_entry n) i j h l) ∙ one)
    ((divisor_is_greatest q.lower).divides (triangle i + j) (pos 0) within))

lowest : (n : ℕ) → 1 ≤ n → divisor_of (first_matrix n) ≡ 1
lowest zero some = absurd (omega arith)
lowest (suc zero) some = by_entry 1 0 0 (omega arith) (omega arith) refl
lowest (suc (suc n)) some = by_entry (suc (suc n)) 1 0 (omega arith) (omega arith) refl

pub start_is_held : (n : ℕ) → 1 ≤ n → IsHeld n (start_visit n)
unfolding first_matrix
start_is_held n some = record { size = refl; minimum = first_is_minimum n some; perfect = start_list_is_perfect n; primitive = lowest n some }

pub is_start : (n : ℕ) (q : Symmetric) (m : ℤ) (vs : List (List ℕ)) → q ≡ first_matrix n → m ≡ first_minimum n → vs ≡ start_list n
    → record { matrix = q; mu = m; vectors = vs } ≡ start_visit n
is_start n q m vs e f g =
    ap₂ (λ (q : Symmetric) (m : ℤ). (let v : Visit = record { matrix = q; mu = m; vectors = vs } in v)) e f
    ∙ ap (λ (vs : List (List ℕ)). (let v : Visit = record { matrix = first_matrix n; mu = first_minimum n; vectors = vs } in v)) g

pub is_held : (n : ℕ) (v : Visit) → 1 ≤ n → v ≡ start_visit n → IsHeld n v
is_held n v some e = subst (λ (v : Visit). IsHeld n v) (sym e) (start_is_held n some)
