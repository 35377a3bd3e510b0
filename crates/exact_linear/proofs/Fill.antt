-- Lists of entries, row by row.
use Rattle.std.specs.Prelude.{◌≡◌, ◌≢◌, ℕ, ◌+◌, ◌*◌, ◌/◌, ◌%◌, ◌<◌, ◌≤◌, ◌⊎◌, pos, true, false, nat_eq, List, length, set, if◌then◌else◌}
use Rattle.std.proofs.Common.{arith, sym, ◌∙◌, ap, ap₂, refl, subst, inl, inr, mod-lt}
use Rattle.std.proofs.lemmas.List.{get_or-set_same, get_or-set_other}
use Rattle.std.proofs.lemmas.List.FromFn.{length-map-range_with_len, get_or-map-range_with_len, fill_by_all}
use native.Mathlib.Nat.{div-add-mod'}
use Rattle.commutative_ring.proofs.SmallCases.{here_or_before}
use Rattle.exact_forms.specs.Rational.{Rational, whole}
use Rattle.exact_linear.specs.Tables.{entry_of, cells}
use Rattle.exact_linear.proofs.Cells.{same_place, below_row}

pub length-cells : (rows width : ℕ) (f : ℕ → ℕ → Rational) → length (cells rows width f) ≡ rows * width
unfolding cells
length-cells rows width f = length-map-range_with_len (λ k. f (k / width) (k % width)) 0 (rows * width)

pub place_parts : (i j width : ℕ) → j < width → ((i * width + j) / width ≡ i) × ((i * width + j) % width ≡ j)
place_parts i j width l =
    same_place ((i * width + j) / width) ((i * width + j) % width) i j width (div-add-mod' (i * width + j) width)
    (mod-lt (i * width + j) (let p : 0 < width = omega arith in p)) l

pub cells_at : (rows width : ℕ) (f : ℕ → ℕ → Rational) (i j : ℕ) → i < rows → j < width → entry_of (cells rows width f) (i * width + j) ≡ f i j
unfolding cells
cells_at rows width f i j li lj =
    let b : i * width + width ≤ rows * width = below_row i rows width li in
    let p = place_parts i j width lj in
    get_or-map-range_with_len (λ k. f (k / width) (k % width)) 0 (rows * width) (i * width + j) (i * width + j) (whole (pos 0)) (omega arith) (omega arith)
    ∙ ap₂ (λ (a : ℕ) (b : ℕ). f a b) p.0 p.1

-- ---- 1 in the last column
pub last_cell : ℕ → List Rational → ℕ → ℕ → Rational
last_cell width old i j = if nat_eq (j + 1) width then whole (pos 1) else entry_of old (i * width + j)

pub record Filled (width : ℕ) (old now : List Rational) (k : ℕ) : Type 0 where
  pub done : (m : ℕ) → m < k → entry_of now m ≡ last_cell width old (m / width) (m % width)
  pub rest : (m : ℕ) → k ≤ m → entry_of now m ≡ entry_of old m

pub fill_set : (width k : ℕ) (old now : List Rational) → k < length now → k % width + 1 ≡ width → Filled width old now k
    → Filled width old (set now k (whole (pos 1))) (k + 1)
unfolding last_cell
fill_set width k old now l e F = record {
  done = λ m h. by m (here_or_before m k h);
  rest = λ m h. get_or-set_other now k m (whole (pos 1)) (whole (pos 0)) (omega arith) ∙ F.rest m (omega arith);
}
  where
    here : entry_of (set now k (whole (pos 1))) k ≡ last_cell width old (k / width) (k % width)
    here = get_or-set_same now k (whole (pos 1)) (whole (pos 0)) l ∙ (let t : nat_eq (k % width + 1) width ≡ true = grind arith in rw t refl)

    by : (m : ℕ) → ((m ≡ k) ⊎ (m < k)) → entry_of (set now k (whole (pos 1))) m ≡ last_cell width old (m / width) (m % width)
    by m (inl s) = subst (λ (m : ℕ). entry_of (set now k (whole (pos 1))) m ≡ last_cell width old (m / width) (m % width)) (sym s) here
    by m (inr b) = get_or-set_other now k m (whole (pos 1)) (whole (pos 0)) (omega arith) ∙ F.done m b

pub fill_keep : (width k : ℕ) (old now : List Rational) → k % width + 1 ≢ width → Filled width old now k → Filled width old now (k + 1)
unfolding last_cell
fill_keep width k old now n F = record {
  done = λ m h. by m (here_or_before m k h);
  rest = λ m h. F.rest m (omega arith);
}
  where
    here : entry_of now k ≡ last_cell width old (k / width) (k % width)
    here = F.rest k (omega arith) ∙ ap (λ (m : ℕ). entry_of old m) (sym (div-add-mod' k width))
        ∙ (let t : nat_eq (k % width + 1) width ≡ false = grind arith in rw t refl)

    by : (m : ℕ) → ((m ≡ k) ⊎ (m < k)) → entry_of now m ≡ last_cell width old (m / width) (m % width)
    by m (inl s) = subst (λ (m : ℕ). entry_of now m ≡ last_cell width old (m / width) (m % width)) (sym s) here
    by m (inr b) = F.done m b

pub fill_all : (rows width k : ℕ) (old now : List Rational) → length now ≡ rows * width → rows * width ≤ k → Filled width old now k
    → now ≡ cells rows width (λ i j. if nat_eq (j + 1) width then whole (pos 1) else entry_of old (i * width + j))
unfolding cells last_cell
fill_all rows width k old now s l F =
    fill_by_all (λ m. if nat_eq (m % width + 1) width then whole (pos 1) else entry_of old (m / width * width + m % width)) now (rows * width) (whole (pos 0)) s
    (λ m h. F.done m (omega arith))
