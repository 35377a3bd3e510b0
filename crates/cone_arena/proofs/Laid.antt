-- Places that hold rows up to some one, and are empty from there on.
use Rattle.std.specs.Prelude.{◌≡◌, ℕ, zero, suc, ◌<◌, ◌+◌, ◌-◌, List, [], ◌∷◌, ◌++◌, length, map, take, drop, replicate, get_or, slice_set, Option, Some, None}
use Rattle.std.specs.List.{refill}
use Rattle.std.proofs.Common.{arith, sym, ◌∙◌, ap, refl, subst, length-append, take_at, drop_at}
use Rattle.std.proofs.lemmas.List.{length-map, length-replicate}
use Rattle.circular_buffer.specs.Places.{somes, IsRun, IsFilled}
use Rattle.circular_buffer.proofs.Places.{same_values}
use Rattle.unimodular_cone.specs.Shown.{ShownCone}
use Rattle.cone_arena.specs.ShownRows.{ShownRows}
use Rattle.cone_arena.specs.RowFields.{IsLaid}
use Rattle.cone_arena.specs.Lends.{spliced}

abbrev pub Places : Type 0
Places = List (Option ShownCone)

abbrev empty : ℕ → Places
empty m = replicate m None

abbrev laid_out : List ShownCone → ℕ → Places
laid_out rows m = map Some rows ++ empty m

somes_empty : (m : ℕ) → somes (empty m) ≡ []
somes_empty zero = refl
somes_empty (suc m) = somes_empty m

somes_laid : (rows : List ShownCone) (m : ℕ) → somes (laid_out rows m) ≡ rows
somes_laid [] m = somes_empty m
somes_laid (c ∷ rows) m = ap (λ (l : List ShownCone). c ∷ l) (somes_laid rows m)

length_laid : (rows : List ShownCone) (m : ℕ) → length (laid_out rows m) ≡ length rows + m
length_laid rows m = let none : Option ShownCone = None in omega (arith, length-append (map Some rows) (empty m), length-map rows Some, length-replicate m none)

abbrev record_of : Places → ℕ → ShownRows
record_of slots room = record { items = somes slots; room = room }

-- whatever is laid out so is laid
formed : (slots : Places) (rows : List ShownCone) (m : ℕ) → slots ≡ laid_out rows m → IsLaid slots (length rows) × (somes slots ≡ rows)
formed slots rows m e =
    let is : somes slots ≡ rows = ap somes e ∙ somes_laid rows m in
    let long : length slots ≡ length rows + m = ap length e ∙ length_laid rows m in
    let left : length slots - length rows ≡ m = omega (arith, long) in (
      record {
        laid = e ∙ ap (λ (l : List ShownCone). laid_out l m) (sym is) ∙ ap (laid_out (somes slots)) (sym left);
        count = ap length is;
        within = omega (arith, long);
      },
      is,
    )

pub none_laid : (slots : Places) (n : ℕ) → slots ≡ replicate n None → IsLaid slots 0 × (somes slots ≡ [])
none_laid slots n e = formed slots [] n e

get_laid : (rows : List ShownCone) (rest : Places) (k : ℕ) (d : ShownCone) → k < length rows → get_or (map Some rows ++ rest) k None ≡ Some (get_or rows k d)
get_laid [] rest k d l = absurd (omega (arith, l))
get_laid (c ∷ rows) rest zero d l = refl
get_laid (c ∷ rows) rest (suc k) d l = get_laid rows rest k d (omega (arith, l))

is_there : (rows : List ShownCone) (rest : Places) (k : ℕ) → k < length rows → IsFilled (map Some rows ++ rest) k
is_there [] rest k l = absurd (omega (arith, l))
is_there (c ∷ rows) rest zero l = (c, refl)
is_there (c ∷ rows) rest (suc k) l = is_there rows rest k (omega (arith, l))

pub row_there : (slots : Places) (w k : ℕ) → IsLaid slots w → k < length (somes slots) → IsFilled slots k
row_there slots w k h l = subst (λ (s : Places). IsFilled s k) (sym h.laid) (is_there (somes slots) (empty (length slots - w)) k l)

pub row_read : (slots : Places) (w k : ℕ) (d : ShownCone) → IsLaid slots w → k < w → get_or slots k None ≡ Some (get_or (somes slots) k d)
row_read slots w k d h l = ap (λ (s : Places). get_or s k None) h.laid ∙ get_laid (somes slots) (empty (length slots - w)) k d (omega (arith, l, h.count))

-- rows that are fewer than the places
pub counted_below : (slots : Places) (w : ℕ) → IsLaid slots w → (room : ℕ) → length slots ≡ room → (seen : ShownRows) → record_of slots room ≡ seen
    → length seen.items < seen.room → w < length slots
counted_below slots w h room places seen e l =
    let count : length (somes slots) ≡ length seen.items = ap (λ (r : ShownRows). length r.items) e in
    let same : room ≡ seen.room = ap (λ (r : ShownRows). r.room) e in
    omega (arith, l, count, same, places, h.count)

get_past : (rows : List ShownCone) (m : ℕ) → get_or (laid_out rows m) (length rows) None ≡ None
get_past [] zero = refl
get_past [] (suc m) = refl
get_past (c ∷ rows) m = get_past rows m

set_past : (rows : List ShownCone) (m : ℕ) (c : ShownCone) → slice_set (laid_out rows (suc m)) (length rows) (Some c) ≡ laid_out (rows ++ c ∷ []) m
set_past [] m c = refl
set_past (x ∷ rows) m c = ap (λ (s : Places). Some x ∷ s) (set_past rows m c)

pub place_empty : (slots : Places) (w : ℕ) → IsLaid slots w → get_or slots w None ≡ None
place_empty slots w h =
    ap (λ (s : Places). get_or s w None) h.laid ∙ ap (λ (k : ℕ). get_or (laid_out (somes slots) (length slots - w)) k None) (sym h.count)
    ∙ get_past (somes slots) (length slots - w)

row_added : (slots : Places) (w : ℕ) (c : ShownCone) → IsLaid slots w → w < length slots
    → IsLaid (slice_set slots w (Some c)) (w + 1) × (somes (slice_set slots w (Some c)) ≡ somes slots ++ c ∷ [])
row_added slots w c h room =
    let one : length slots - w ≡ suc (length slots - w - 1) = omega (arith, room) in
    let is : slice_set slots w (Some c) ≡ laid_out (somes slots ++ c ∷ []) (length slots - w - 1) =
    ap (λ (s : Places). slice_set s w (Some c)) h.laid
    ∙ ap (λ (k : ℕ). slice_set (laid_out (somes slots) (length slots - w)) k (Some c)) (sym h.count)
    ∙ ap (λ (m : ℕ). slice_set (laid_out (somes slots) m) (length (somes slots)) (Some c)) one
    ∙ set_past (somes slots) (length slots - w - 1) c in
    let more : length (somes slots ++ c ∷ []) ≡ w + 1 = omega (arith, length-append (somes slots) (c ∷ []), h.count) in
    let f = formed (slice_set slots w (Some c)) (somes slots ++ c ∷ []) (length slots - w - 1) is in
    (subst (IsLaid (slice_set slots w (Some c))) more f.0, f.1)

-- a row is put on top where there is room
pub row_pushed : (slots : Places) (w room : ℕ) (seen : ShownRows) (c : ShownCone) → IsLaid slots w → length slots ≡ room → record_of slots room ≡ seen
    → length seen.items < seen.room
    → IsLaid (slice_set slots w (Some c)) (w + 1) × (somes (slice_set slots w (Some c)) ≡ somes slots ++ c ∷ [])
row_pushed slots w room seen c h places e l = row_added slots w c h (counted_below slots w h room places seen e l)

-- the rows, and what is above them
mapped : (slots : Places) (w : ℕ) → IsLaid slots w → w ≡ length (map Some (somes slots))
mapped slots w h = sym (length-map (somes slots) Some ∙ h.count)

pub rows_are : (slots : Places) (w : ℕ) → IsLaid slots w → take w slots ≡ map Some (somes slots)
rows_are slots w h = ap (take w) h.laid ∙ take_at (map Some (somes slots)) (empty (length slots - w)) w (sym (mapped slots w h))

rest_is : (slots : Places) (w : ℕ) → IsLaid slots w → drop w slots ≡ empty (length slots - w)
rest_is slots w h = ap (drop w) h.laid ∙ drop_at (map Some (somes slots)) (empty (length slots - w)) w (sym (mapped slots w h))

pub rows_run : (slots : Places) (w : ℕ) → IsLaid slots w → IsRun slots 0 w
rows_run slots w h = (omega (arith, h.within), (somes slots, rows_are slots w h))

-- the rows as a borrow of them sees them, and what the places end as with it
pub rows_seen : (slots : Places) (w : ℕ) (xs : List ShownCone) → IsLaid slots w → take w slots ≡ map Some xs → xs ≡ somes slots
rows_seen slots w xs h e = same_values xs (somes slots) (sym e ∙ rows_are slots w h)

abbrev AreWritten : Places → ℕ → List ShownCone → Places → Type 0
AreWritten slots w ws after = IsLaid after w × (somes after ≡ ws) × (length after ≡ length slots)

rows_written : (slots : Places) (w : ℕ) (ws : List ShownCone) → IsLaid slots w → length ws ≡ w → AreWritten slots w ws (spliced slots 0 w ws)
rows_written slots w ws h l =
    let same : 0 + w ≡ w = omega arith in
    let is : spliced slots 0 w ws ≡ laid_out ws (length slots - w) =
    ap (λ (s : Places). map Some ws ++ s) (ap (λ (k : ℕ). drop k slots) same ∙ rest_is slots w h) in
    let f = formed (spliced slots 0 w ws) ws (length slots - w) is in
    let long : length (spliced slots 0 w ws) ≡ length ws + (length slots - w) = ap length is ∙ length_laid ws (length slots - w) in
    (subst (IsLaid (spliced slots 0 w ws)) l f.0, f.1, omega (arith, long, l, h.within))

pub rows_lent : (slots : Places) (w : ℕ) (xs ws : List ShownCone) → IsLaid slots w → take w slots ≡ map Some xs → length ws ≡ length xs
    → AreWritten slots w ws (spliced slots 0 w (refill w (somes (take w slots)) ws))
rows_lent slots w xs ws h seen same =
    let l : length ws ≡ w = same ∙ ap length (rows_seen slots w xs h seen) ∙ h.count in
    let e : refill w (somes (take w slots)) ws ≡ ws = take_at ws (drop (length ws) (somes (take w slots))) w l in
    subst (λ (r : List ShownCone). AreWritten slots w ws (spliced slots 0 w r)) (sym e) (rows_written slots w ws h l)

pub first_set : (rows : List ShownCone) (c : ShownCone) → 0 < length rows → take 1 (slice_set rows 0 c) ≡ c ∷ []
first_set [] c l = absurd (omega (arith, l))
first_set (x ∷ []) c l = refl
first_set (x ∷ y ∷ rows) c l = refl
