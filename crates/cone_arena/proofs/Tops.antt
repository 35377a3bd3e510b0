-- The top of a list of cones, and the list after a split.
use Rattle.std.specs.Prelude.{◌≡◌, ℕ, ◌<◌, ◌≤◌, ◌+◌, ◌-◌, true, false, List, [], ◌∷◌, ◌++◌, All, length, take, slice_index_or, slice_set}
use Rattle.std.proofs.Common.{arith, sym, ◌∙◌, ap, refl, subst, length-append, length-take, take-take}
use Rattle.std.proofs.Math.Seq.{get_or-append_seam}
use Rattle.std.proofs.lemmas.List.{take_more, get_or-take, length-take-le}
use Rattle.std.proofs.lemmas.List.Elements.{All-append, All-nil, All-push, All-take}
use Rattle.unimodular_cone.specs.Shown.{ShownCone, IsChild}
use Rattle.unimodular_cone.proofs.Tops.{set_parts, take_pair}
use Rattle.cone_arena.specs.Arena.{ShownArena, IsArena, IsOnTop, IsTopOf, MaySplit, TopFits}
use Rattle.cone_arena.specs.SplitRows.{IsSplittableAt, AreRowsSplit, IsTopRowSplit}

-- lists that agree up to a row
pub same_row : (a b : List ShownCone) (top : ℕ) (d : ShownCone) → take (top + 1) a ≡ take (top + 1) b → slice_index_or a top d ≡ slice_index_or b top d
same_row a b top d e =
    sym (get_or-take (top + 1) a top d (omega arith)) ∙ ap (λ (s : List ShownCone). slice_index_or s top d) e ∙ get_or-take (top + 1) b top d (omega arith)

pub same_below : (a b : List ShownCone) (top : ℕ) → take (top + 1) a ≡ take (top + 1) b → take top a ≡ take top b
same_below a b top e = sym (take-take top (top + 1) a (omega arith)) ∙ ap (take top) e ∙ take-take top (top + 1) b (omega arith)

-- what was taken is there
pub counted_after : (old new made : List ShownCone) (top m : ℕ) → top ≤ length old → length made ≡ m → take (top + m) new ≡ take top old ++ made
    → top + m ≤ length new
counted_after old new made top m inside l e =
    omega (arith, l, ap length e, length-take (top + m) new, length-append (take top old) made, length-take top old)

pub top_of_rows : (rows : List ShownCone) (len : ℕ) (c : ShownCone) → 0 < len → len ≤ length rows → c ≡ slice_index_or rows (len - 1) c
    → take len rows ≡ take (len - 1) rows ++ c ∷ []
top_of_rows rows len c some counted is =
    let e : len ≡ len - 1 + 1 = omega arith in
    ap (λ (k : ℕ). take k rows) e ∙ take_more rows (len - 1) c (omega arith) ∙ ap (λ (x : ShownCone). take (len - 1) rows ++ x ∷ []) (sym is)

pub top_size : (n : ℕ) (cones rest : List ShownCone) (c : ShownCone) → All (λ (d : ShownCone). d.size ≡ n) cones → cones ≡ rest ++ c ∷ [] → c.size ≡ n
top_size n cones rest c all e =
    let l : length cones ≡ length rest + 1 = ap length e ∙ length-append rest (c ∷ []) in
    ap (λ (d : ShownCone). d.size) (sym (get_or-append_seam rest c [] c) ∙ ap (λ (s : List ShownCone). slice_index_or s (length rest) c) (sym e))
    ∙ all (length rest) c (omega arith)

pub all_two : (P : ShownCone → Type 0) (a b : ShownCone) → P a → P b → All P (a ∷ b ∷ [])
all_two P a b p q = All-push P (a ∷ []) b (All-push P [] a (All-nil P) p) q

-- ---- a row and the next one, split
pub rows_split : (old below above : List ShownCone) (top i j : ℕ) (was second first : ShownCone) → old ≡ below ++ above → below ≡ take (top + 1) old
    → length below ≡ top + 1 → was ≡ slice_index_or below top was → IsChild (slice_index_or below top was) (i - 1) (j - 1) true second
    → IsChild (slice_index_or below top was) (i - 1) (j - 1) false first
    → AreRowsSplit old top i j (slice_set below top second ++ slice_set above 0 first)
rows_split old below above top i j was second first e front l is one zero = record {
  was = was;
  second = second;
  first = first;
  stood = is ∙ ap (λ (s : List ShownCone). slice_index_or s top was) front ∙ get_or-take (top + 1) old top was (omega arith);
  is_second = subst (λ (d : ShownCone). IsChild d (i - 1) (j - 1) true second) (sym is) one;
  is_first = subst (λ (d : ShownCone). IsChild d (i - 1) (j - 1) false first) (sym is) zero;
  rows = set_parts old below above top second first e l;
}

-- where the rows up to that one are those of another list
pub top_split : (old xs split new : List ShownCone) (top i j : ℕ) → take (top + 1) xs ≡ take (top + 1) old → top + 1 < length xs → AreRowsSplit xs top i j split
    → new ≡ split → IsTopRowSplit old top i j new
top_split old xs split new top i j agree inside h e = record {
  was = h.was;
  second = h.second;
  first = h.first;
  stood = h.stood ∙ same_row xs old top h.was agree;
  is_second = h.is_second;
  is_first = h.is_first;
  cones = ap (take (top + 2)) (e ∙ h.rows) ∙ take_pair xs top h.second h.first inside
      ∙ ap (λ (s : List ShownCone). s ++ h.second ∷ h.first ∷ []) (same_below xs old top agree);
}

-- ---- an arena whose cones are the first of its rows, and which shows so many of such a size
abbrev pub shows : ℕ → ℕ → ℕ → List ShownCone → ShownArena
shows n depth len rows = record { size = n; depth = depth; cones = take len rows }

module _ (n depth len : ℕ) (rows : List ShownCone) (seen : ShownArena) (i j : ℕ) (view : shows n depth len rows ≡ seen)
    (arena : IsArena (shows n depth len rows)) (counted : len ≤ length rows) (can : MaySplit seen i j) where
  size_is : n ≡ seen.size
  size_is = ap (λ (a : ShownArena). a.size) view

  depth_is : depth ≡ seen.depth
  depth_is = ap (λ (a : ShownArena). a.depth) view

  cones_are : take len rows ≡ seen.cones
  cones_are = ap (λ (a : ShownArena). a.cones) view

  pub count : length seen.cones ≡ len
  count = ap length (sym cones_are) ∙ length-take-le len rows counted

  top_is : (d : ShownCone) → d ≡ slice_index_or rows (len - 1) d → take len rows ≡ take (len - 1) rows ++ d ∷ []
  top_is d is = top_of_rows rows len d (omega (arith, can.some, count)) counted is

  pub top_shown : (d : ShownCone) → d ≡ slice_index_or rows (len - 1) d → IsOnTop d (take (len - 1) rows) seen.cones
  top_shown d is = sym cones_are ∙ top_is d is

  pub top_sized : (d : ShownCone) → d ≡ slice_index_or rows (len - 1) d → d.size ≡ n
  top_sized d is = top_size n _ _ d arena.sizes (top_is d is)

  pub top_splittable : TopFits seen i j → IsSplittableAt rows (len - 1) i j
  top_splittable fits d is =
      let top : IsTopOf seen d = (take (len - 1) rows, top_shown d is) in
      record {
        first = can.first;
        order = can.order;
        last = omega (arith, can.last, size_is, top_sized d is);
        short = let s : length d.path < seen.depth = can.short d top in omega (arith, s, depth_is, arena.shallow);
        fits = fits d top;
      }

  -- at most two cones of the size in the place of the top
  pub arena_after : (new made : List ShownCone) (m : ℕ) → length made ≡ m → m ≤ 2 → All (λ (d : ShownCone). d.size ≡ n) made
      → take (len - 1 + m) new ≡ take (len - 1) rows ++ made
      → IsArena (shows n depth (len - 1 + m) new) × (len - 1 + m ≤ length new)
  arena_after new made m l few all cones =
      let sized = λ (d : ShownCone). d.size ≡ n in
      let long : len - 1 + m ≤ length new = counted_after rows new made (len - 1) m (omega (arith, counted)) l cones in
      let below : All sized (take (len - 1) rows) =
      subst (All sized) (take-take (len - 1) len rows (omega arith)) (All-take sized (len - 1) (take len rows) arena.sizes) in (
        record {
          some = arena.some;
          few = arena.few;
          shallow = arena.shallow;
          room = omega (arith, length-take-le (len - 1 + m) new long, can.some, can.room, few, count, depth_is);
          sizes = subst (All sized) (sym cones) (All-append sized (take (len - 1) rows) made below all);
        },
        long,
      )

  pub arena_split : (new : List ShownCone) → IsTopRowSplit rows (len - 1) i j new → IsArena (shows n depth (len + 1) new) × (len + 1 ≤ length new)
  arena_split new h =
      let more : len - 1 + 2 ≡ len + 1 = omega (arith, can.some, count) in
      let size = top_sized h.was h.stood in
      subst (λ (k : ℕ). IsArena (shows n depth k new) × (k ≤ length new)) more
      (arena_after new (h.second ∷ h.first ∷ []) 2 refl (omega arith)
      (all_two (λ (d : ShownCone). d.size ≡ n) h.second h.first (h.is_second.size ∙ size) (h.is_first.size ∙ size)) h.cones)
