use Rattle.std.specs.Prelude.{◌≡◌, ◌≢◌, ◌<◌, ◌⊎◌, ℕ, List, [], length, slice_index_or, slice_set}
use Rattle.std.specs.List.{Contains}
use Rattle.std.proofs.Common.{sym, ◌∙◌, subst, inl, inr, get_or-set_same, get_or-set_other, length-set}
use Rattle.commutative_ring.proofs.SmallCases.{same_or_not}
use Rattle.search_core.specs.Attaining.{IsWithKey}
use Rattle.search_core.specs.KeySets.{IsBlank}
use Rattle.search_core.proofs.Keys.{inserts}
use Rattle.search_core.proofs.key_set.KeySet.insert_at.Goals as goal

-- a table with one more key of the set
still_there : (table : List (List ℕ)) (old new : List (List ℕ)) (place : ℕ) (key : List ℕ) → place < length table → IsWithKey old key new
    → ((k : ℕ) → k < 64 → Contains old (slice_index_or table k []) ⊎ IsBlank (slice_index_or table k []))
    → (k : ℕ) → k < 64 → Contains new (slice_index_or (slice_set table place key) k []) ⊎ IsBlank (slice_index_or (slice_set table place key) k [])
still_there table old new place key inside with there k l = by (same_or_not k place)
  where
    more : (x : List ℕ) → (Contains old x ⊎ IsBlank x) → Contains new x ⊎ IsBlank x
    more x (inl c) = inl (with.kept x c)
    more x (inr b) = inr b

    by : ((k ≡ place) ⊎ (k ≢ place))
        → Contains new (slice_index_or (slice_set table place key) k []) ⊎ IsBlank (slice_index_or (slice_set table place key) k [])
    by (inl e) = inl (subst (Contains new) (sym (subst (λ (i : ℕ). slice_index_or (slice_set table place key) i [] ≡ key) (sym e)
        (get_or-set_same table place key [] inside))) with.added)
    by (inr ne) = subst (λ (x : List ℕ). Contains new x ⊎ IsBlank x) (sym (get_or-set_other table place k key [] ne))
        (more (slice_index_or table k []) (there k l))

pub invariant_of-self-2 : goal.invariant_of-self-2
invariant_of-self-2 c = record {
  rows = length-set c.self.inside.table c.args.place c.args.key.now ∙ c.self.invariant.rows;
  there = still_there c.self.inside.table c.self.inside.set.keys c.insert.new.self.keys c.args.place c.args.key.now
      (rw c.self.invariant.rows c.requires) (inserts _ _ c.args.key.now c.in_ok-insert.ensures.keys) c.self.invariant.there;
}

pub returns : goal.returns
returns c = rw (← c.self.view_is) (inserts _ _ c.args.key.now c.in_ok-insert.ensures.keys)
