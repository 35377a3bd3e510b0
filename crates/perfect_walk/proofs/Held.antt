-- Visits that are moved to.
use Rattle.std.specs.Prelude.{◌≡◌, ◌≢◌, ◌⊎◌, ℕ, ℤ, pos, ◌*ℤ◌, ◌<ℤ◌, List, [], ◌∷◌, ◌++◌, Option}
use Rattle.std.proofs.Common.{sym, refl, ◌∙◌, subst, inl, inr, length}
use Rattle.exact_forms.specs.Forms.{inner}
use Rattle.exact_forms.specs.Copositive.{IsMinimum, IsPerfect, IsExtremeRay}
use Rattle.exact_forms.proofs.Neighbours.{value_falls}
use Rattle.symmetric_matrix.specs.Symmetric.{Symmetric, entry}
use Rattle.contiguous.specs.declared.neighbour.Tighten.{Tighten}
use Rattle.contiguous.specs.Tightenings.{line_along, IsNeighbour}
use Rattle.perfect_walk.specs.declared.journal.Visit.{Visit}
use Rattle.perfect_walk.specs.declared.journal.Step.{Step}
use Rattle.perfect_walk.specs.declared.journal.End.{End}
use Rattle.perfect_walk.specs.declared.journal.End.TheVariants as end
use Rattle.perfect_walk.specs.declared.walking.Trail.{Trail}
use Rattle.perfect_walk.specs.declared.walking.Turned.{Turned}
use Rattle.perfect_walk.specs.declared.walking.Turned.TheVariants as turned
use Rattle.perfect_walk.specs.Parts.{IsHeld, IsLess, IsNextHeld, IsEndedAfter, IsTurnedTo}

pub ended_next : (s : Symmetric) (v : Visit) (e : End) (left : Turned) → left ≡ turned.Ended e → IsNextHeld s v left
ended_next s v e left is = subst (λ (left : Turned). IsNextHeld s v left) (sym is) tt

pub after_next : (s : Symmetric) (v : Visit) (old new : Trail) (steps : List Step) (x : Option Symmetric) (e : End) (left : Turned)
    → IsEndedAfter old new steps x e left → IsNextHeld s v left
after_next s v old new steps x e left (inl h) = ended_next s v e left h.2
after_next s v old new steps x e left (inr h) = ended_next s v end.OutOfMemory left h.2

module _ (s : Symmetric) (v : Visit) (ray : Symmetric) (mu : ℤ) (same : mu ≡ v.mu) (H : IsHeld s.size v) (E : IsExtremeRay s.size (entry ray) v.vectors)
    (L : inner s.size (entry ray) (entry s) <ℤ pos 0) where
  -- at the size n, the inner product falls
  abbrev IsLessAt : Symmetric → ℤ → ℕ → Type 0
  IsLessAt c level n =
      IsExtremeRay n (entry ray) v.vectors → inner n (entry ray) (entry s) <ℤ pos 0 → IsMinimum n (entry v.matrix) v.mu v.vectors
      → (v.mu *ℤ inner n (entry c) (entry s)) <ℤ (level *ℤ inner n (entry v.matrix) (entry s))

  found_less : (c : Symmetric) (level : ℤ) (found : List (List ℕ)) (ts : List Tighten) → IsNeighbour (line_along v.matrix mu ray) v.vectors c level found ts
      → (v.mu *ℤ inner s.size (entry c) (entry s)) <ℤ (level *ℤ inner s.size (entry v.matrix) (entry s))
  found_less c level found ts N = by s.size H.size E L H.minimum
    where
      by : (n : ℕ) → v.matrix.size ≡ n → IsLessAt c level n
      by n e = subst (λ (n : ℕ). IsLessAt c level n) e (λ E L M.
          subst (λ (m : ℤ). (m *ℤ inner v.matrix.size (entry c) (entry s)) <ℤ (level *ℤ inner v.matrix.size (entry v.matrix) (entry s))) same
          (value_falls v.matrix.size (entry v.matrix) (entry ray) mu v.vectors
          (subst (λ (m : ℤ). IsMinimum v.matrix.size (entry v.matrix) m v.vectors) (sym same) M) E
          N.last.vector N.last.p N.last.q N.divisor level (entry c) N.tightening N.on_the_line (entry s) L))

  pub found_next : (c : Symmetric) (level : ℤ) (found : List (List ℕ)) (ts : List Tighten) (V : Visit) (old new : Trail) (limit : ℕ) (steps : List Step)
      (left : Turned)
      → V ≡ record { matrix = c; mu = level; vectors = found } → IsNeighbour (line_along v.matrix mu ray) v.vectors c level found ts
      → IsTurnedTo old new limit steps V left → IsNextHeld s v left
  found_next c level found ts V old new limit steps left is N (inr h) = ended_next s v end.OutOfMemory left h.2
  found_next c level found ts V old new limit steps left is N (inl h) = by h.2
    where
      held : IsHeld s.size V × IsLess s v V
      held = subst (λ (V : Visit). IsHeld s.size V × IsLess s v V) (sym is) (
        record {
          size = N.size ∙ H.size;
          minimum = subst (λ (n : ℕ). IsMinimum n (entry c) level found) H.size N.minimum;
          perfect = subst
              (λ (n : ℕ). IsPerfect n found) H.size N.perfect;
          primitive = N.primitive;
        },
        record { crosswise = found_less c level found ts N },
      )

      by : (((left ≡ turned.Moved V) × (length new.steps ≢ limit)) ⊎ ((left ≡ turned.Ended end.Pivots) × (length new.steps ≡ limit))) → IsNextHeld s v left
      by (inl k) = subst (λ (left : Turned). IsNextHeld s v left) (sym k.0) held
      by (inr k) = ended_next s v end.Pivots left k.0

-- the same end in other words
pub ended_as : (old new : Trail) (steps : List Step) (x y : Option Symmetric) (e f : End) (left : Turned) → x ≡ y → e ≡ f → IsEndedAfter old new steps x e left
    → IsEndedAfter old new steps y f left
ended_as old new steps x y e f left h k E = subst (λ (y : Option Symmetric). IsEndedAfter old new steps y f left) h
    (subst (λ (f : End). IsEndedAfter old new steps x f left) k E)
