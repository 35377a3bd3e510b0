-- The rows and the arena after a split of the top of which only the open children are made.
use Rattle.std.specs.Prelude.{ℕ, ℤ, ◌≡◌, ◌<◌, ◌≤◌, ◌+◌, ◌-◌, ◌⊎◌, Bool, true, false, Option, Some, None, IfSome}
use Rattle.std.specs.Prelude.{List, [], ◌∷◌, ◌++◌, All, length, take, slice_index_or, slice_set}
use Rattle.std.proofs.Common.{arith, sym, ◌∙◌, ap, refl, inl, inr, subst, length-append, take-take, take_at}
use Rattle.std.proofs.lemmas.List.{append_assoc, append-nil, get_or-take, length-take-le}
use Rattle.std.proofs.lemmas.List.Elements.{All-nil, All-push}
use Rattle.unimodular_cone.specs.declared.OpenChildren.{OpenChildren}
use Rattle.unimodular_cone.specs.declared.OpenChildren.TheVariants.{Below, Both, First, Second, Neither}
use Rattle.unimodular_cone.specs.declared.Opened.{Opened}
use Rattle.unimodular_cone.specs.OpenChildren.{IsOpening, AreOpenMade}
use Rattle.unimodular_cone.specs.Shown.{ShownCone}
use Rattle.unimodular_cone.proofs.Tops.{set_parts, take_pair}
use Rattle.cone_arena.specs.Arena.{ShownArena, IsArena, MaySplit}
use Rattle.cone_arena.specs.OpenTops.{AreBothOn, IsChildOn, AreOpenOn, AreRowsOpened, IsTopOpened, made_count}
use Rattle.cone_arena.proofs.Tops.{shows, same_row, same_below, all_two, count, top_shown, top_sized, arena_after}

-- ---- a row and the next one
-- one of two rows that are known, and none of them
one_of : (below new : List ShownCone) (row next : ShownCone) → take (length below + 2) new ≡ below ++ row ∷ next ∷ []
    → take (length below + 1) new ≡ below ++ row ∷ []
one_of below new row next e =
    sym (take-take (length below + 1) (length below + 2) new (omega arith)) ∙ ap (take (length below + 1)) (e ∙ sym (append_assoc below (row ∷ []) (next ∷ [])))
    ∙ take_at (below ++ row ∷ []) (next ∷ []) (length below + 1) (length-append below (row ∷ []))

none_of : (below new : List ShownCone) (row next : ShownCone) → take (length below + 2) new ≡ below ++ row ∷ next ∷ [] → take (length below + 0) new ≡ below
none_of below new row next e =
    sym (take-take (length below + 0) (length below + 2) new (omega arith)) ∙ ap (take (length below + 0)) e
    ∙ take_at below (row ∷ next ∷ []) (length below + 0) (omega arith)

-- the two rows hold the children that are made
open_on : (c : ShownCone) (i j : ℕ) (made : OpenChildren) (below new : List ShownCone) (row next : ShownCone)
    → take (length below + 2) new ≡ below ++ row ∷ next ∷ [] → AreOpenMade c i j made row next
    → AreOpenOn c i j made below (take (length below + made_count made) new)
open_on c i j Below below new row next e h = record { second = row; first = next; is_second = h.0; is_first = h.1; cones = e }
open_on c i j Both below new row next e h = record { second = row; first = next; is_second = h.0; is_first = h.1; cones = e }
open_on c i j First below new row next e h = record { child = row; is_child = h; cones = one_of below new row next e }
open_on c i j Second below new row next e h = record { child = row; is_child = h; cones = one_of below new row next e }
open_on c i j Neither below new row next e h = none_of below new row next e

row_opened : (old below above : List ShownCone) (top i j : ℕ) (bound : ℤ) (was row next : ShownCone) (o : Opened) (xs : List ℕ)
    → old ≡ below ++ above → below ≡ take (top + 1) old → length below ≡ top + 1 → top + 1 < length old → was ≡ slice_index_or below top was
    → IsOpening (slice_index_or below top was) (i - 1) (j - 1) bound o xs
    → AreOpenMade (slice_index_or below top was) (i - 1) (j - 1) o.made row next
    → AreRowsOpened old top i j bound o xs (slice_set below top row ++ slice_set above 0 next)
row_opened old below above top i j bound was row next o xs e front l inside is opening children =
    let new = slice_set below top row ++ slice_set above 0 next in
    let two : take (top + 2) new ≡ take top old ++ row ∷ next ∷ [] =
    ap (take (top + 2)) (set_parts old below above top row next e l) ∙ take_pair old top row next inside in
    let count : length (take top old) ≡ top = length-take-le top old (omega (arith, inside)) in
    record {
      was = was;
      stood = is ∙ ap (λ (s : List ShownCone). slice_index_or s top was) front ∙ get_or-take (top + 1) old top was (omega arith);
      opening = subst (λ (d : ShownCone). IsOpening d (i - 1) (j - 1) bound o xs) (sym is) opening;
      opened = subst (λ (k : ℕ). AreOpenOn was (i - 1) (j - 1) o.made (take top old) (take (k + made_count o.made) new)) count
          (open_on was (i - 1) (j - 1) o.made (take top old) new row next
          (ap (λ (k : ℕ). take (k + 2) new) count ∙ two)
          (subst (λ (d : ShownCone). AreOpenMade d (i - 1) (j - 1) o.made row next) (sym is) children));
    }

pub rows_opened : (old below above : List ShownCone) (top i j : ℕ) (bound : ℤ) (was row next : ShownCone) (o : Option Opened) (xs : List ℕ)
    → old ≡ below ++ above → below ≡ take (top + 1) old → length below ≡ top + 1 → top + 1 < length old → was ≡ slice_index_or below top was
    → IfSome o (λ it. IsOpening (slice_index_or below top was) (i - 1) (j - 1) bound it xs)
    → IfSome o (λ it. AreOpenMade (slice_index_or below top was) (i - 1) (j - 1) it.made row next)
    → IfSome o (λ it. AreRowsOpened old top i j bound it xs (slice_set below top row ++ slice_set above 0 next))
rows_opened old below above top i j bound was row next None xs e front l inside is opening children = opening
rows_opened old below above top i j bound was row next (Some o) xs e front l inside is opening children =
    row_opened old below above top i j bound was row next o xs e front l inside is opening children

-- where the rows up to that one are those of another list
pub rows_opened_as : (old rows opened new : List ShownCone) (top i j : ℕ) (bound : ℤ) (o : Opened) (xs : List ℕ)
    → take (top + 1) rows ≡ take (top + 1) old → new ≡ opened
    → AreRowsOpened rows top i j bound o xs opened → AreRowsOpened old top i j bound o xs new
rows_opened_as old rows opened new top i j bound o xs agree e h = record {
  was = h.was;
  stood = h.stood ∙ same_row rows old top h.was agree;
  opening = h.opening;
  opened = subst (λ (s : List ShownCone). AreOpenOn h.was (i - 1) (j - 1) o.made s (take (top + made_count o.made) new)) (same_below rows old top agree)
      (subst (λ (s : List ShownCone). AreOpenOn h.was (i - 1) (j - 1) o.made (take top rows) (take (top + made_count o.made) s)) (sym e) h.opened);
}

-- ---- an arena
pub counted_as : (made a b : OpenChildren) (m : ℕ) → (made ≡ a) ⊎ (made ≡ b) → made_count a ≡ m → made_count b ≡ m → made_count made ≡ m
counted_as made a b m (inl e) one other = ap made_count e ∙ one
counted_as made a b m (inr e) one other = ap made_count e ∙ other

-- the cones that are made
record AreMade (n : ℕ) (below new : List ShownCone) (m : ℕ) : Type 0 where
  pub made : List ShownCone
  pub count : length made ≡ m
  pub few : m ≤ 2
  pub sizes : All (λ (d : ShownCone). d.size ≡ n) made
  pub cones : new ≡ below ++ made

two_made : (c : ShownCone) (i j : ℕ) (below new : List ShownCone) → AreBothOn c i j below new → AreMade c.size below new 2
two_made c i j below new h = record {
  made = h.second ∷ h.first ∷ [];
  count = refl;
  few = omega arith;
  sizes = all_two (λ (d : ShownCone). d.size ≡ c.size) h.second h.first h.is_second.size h.is_first.size;
  cones = h.cones;
}

one_made : (c : ShownCone) (i j : ℕ) (side : Bool) (below new : List ShownCone) → IsChildOn c i j side below new → AreMade c.size below new 1
one_made c i j side below new h = record {
  made = h.child ∷ [];
  count = refl;
  few = omega arith;
  sizes = let sized = λ (d : ShownCone). d.size ≡ c.size in All-push sized [] h.child (All-nil sized) h.is_child.size;
  cones = h.cones;
}

made_of : (c : ShownCone) (i j : ℕ) (made : OpenChildren) (below new : List ShownCone) → AreOpenOn c i j made below new
    → AreMade c.size below new (made_count made)
made_of c i j Below below new h = two_made c i j below new h
made_of c i j Both below new h = two_made c i j below new h
made_of c i j First below new h = one_made c i j false below new h
made_of c i j Second below new h = one_made c i j true below new h
made_of c i j Neither below new h = record {
  made = [];
  count = refl;
  few = omega arith;
  sizes = All-nil (λ (d : ShownCone). d.size ≡ c.size);
  cones = h ∙ sym (append-nil below);
}

module _ (n depth len : ℕ) (rows : List ShownCone) (seen : ShownArena) (i j : ℕ) (view : shows n depth len rows ≡ seen)
    (arena : IsArena (shows n depth len rows)) (counted : len ≤ length rows) (can : MaySplit seen i j)
    (new : List ShownCone) (bound : ℤ) (o : Opened) (xs : List ℕ) (h : AreRowsOpened rows (len - 1) i j bound o xs new)
    (k : ℕ) (is : len + made_count o.made - 1 ≡ k) where
  held : len - 1 + made_count o.made ≡ k
  held = omega (arith, is, can.some, count n depth len rows seen i j view arena counted can)

  pub arena_opened : IsArena (shows n depth k new) × (k ≤ length new)
  arena_opened =
      let sized : h.was.size ≡ n = top_sized n depth len rows seen i j view arena counted can h.was h.stood in
      let of = made_of h.was (i - 1) (j - 1) o.made _ _ h.opened in
      subst (λ (m : ℕ). IsArena (shows n depth m new) × (m ≤ length new)) held
      (arena_after n depth len rows seen i j view arena counted can new of.made (made_count o.made) of.count of.few
      (subst (λ (m : ℕ). All (λ (d : ShownCone). d.size ≡ m) of.made) sized of.sizes) of.cones)

  pub top_opened : IsTopOpened seen i j bound o xs (shows n depth k new)
  top_opened = record {
    size = ap (λ (a : ShownArena). a.size) view;
    depth = ap (λ (a : ShownArena). a.depth) view;
    top = h.was;
    rest = take (len - 1) rows;
    was = top_shown n depth len rows seen i j view arena counted can h.was h.stood;
    sized = top_sized n depth len rows seen i j view arena counted can h.was h.stood ∙ ap (λ (a : ShownArena). a.size) view;
    opening = h.opening;
    opened = subst (λ (m : ℕ). AreOpenOn h.was (i - 1) (j - 1) o.made (take (len - 1) rows) (take m new)) held h.opened;
  }
