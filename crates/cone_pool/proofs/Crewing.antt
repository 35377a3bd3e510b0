-- What lists keep under functions.
use Rattle.std.proofs.Common.{◌≡◌, ℕ, zero, suc, ◌+◌, ◌<◌, List, [], ◌∷◌, length, map, slice_set, slice_index_or, refl, ap, ◌∙◌, arith}
use Rattle.std.proofs.lemmas.List.{length-map}
use Rattle.cone_pool.specs.Crews.{lot_of}
use Rattle.cone_pool.specs.Parts.{Member}

pub add_one : (k : ℕ) → suc k ≡ k + 1
add_one k = omega arith

-- one element changes
module _ {A B : Type 0} (f : A → B) where
  pub map_keep : (xs : List A) (k : ℕ) (x y : A) → k < length xs → x ≡ slice_index_or xs k x → f y ≡ f x → map f (slice_set xs k y) ≡ map f xs
  map_keep [] k x y l is e = refl
  map_keep (z ∷ xs) zero x y l is e = ap (λ (b : B). b ∷ map f xs) (e ∙ ap f is)
  map_keep (z ∷ xs) (suc k) x y l is e = ap (λ (zs : List B). f z ∷ zs) (map_keep xs k x y (omega arith) is e)

  pub map_at : (xs : List A) (k : ℕ) (x : A) → k < length xs → x ≡ slice_index_or xs k x → f x ≡ slice_index_or (map f xs) k (f x)
  map_at [] k x l is = absurd (omega arith)
  map_at (z ∷ xs) zero x l is = ap f is
  map_at (z ∷ xs) (suc k) x l is = map_at xs k x (omega arith) is

-- two lists are the same under two functions
module _ {A B C : Type 0} (f : A → C) (g : B → C) where
  pub map_head : (x : A) (xs : List A) (y : B) (ys : List B) → map f (x ∷ xs) ≡ map g (y ∷ ys) → f x ≡ g y
  map_head x xs y ys e = let h : f x ∷ map f xs ≡ g y ∷ map g ys = e in (cc)

  pub map_tail : (x : A) (xs : List A) (y : B) (ys : List B) → map f (x ∷ xs) ≡ map g (y ∷ ys) → map f xs ≡ map g ys
  map_tail x xs y ys e = let h : f x ∷ map f xs ≡ g y ∷ map g ys = e in (cc)

  pub map_shorter : (y : B) (ys : List B) → map f [] ≡ map g (y ∷ ys) → ⊥
  map_shorter y ys e = let h : [] ≡ g y ∷ map g ys = e in (cc)

  pub map_longer : (x : A) (xs : List A) → map f (x ∷ xs) ≡ map g [] → ⊥
  map_longer x xs e = let h : f x ∷ map f xs ≡ [] = e in (cc)

  pub map_many : (xs : List A) (ys : List B) → map f xs ≡ map g ys → length xs ≡ length ys
  map_many [] [] e = refl
  map_many [] (y ∷ ys) e = absurd (map_shorter y ys e)
  map_many (x ∷ xs) [] e = absurd (map_longer x xs e)
  map_many (x ∷ xs) (y ∷ ys) e = ap suc (map_many xs ys (map_tail x xs y ys e))

-- ---- a member that was read at a place
pub record IsMemberAt (ms : List Member) (k : ℕ) (there : Member) : Type 0 where
  pub is : there ≡ slice_index_or ms k there
  pub within : k < length ms
  pub lots_within : k < length (map lot_of ms)
  pub lot : there.lot ≡ slice_index_or (map lot_of ms) k there.lot

pub member_at : (ms : List Member) (k : ℕ) (x : Member) → x ≡ slice_index_or ms k x → k < length ms → IsMemberAt ms k (slice_index_or ms k x)
member_at ms k x is l =
    let there : Member = slice_index_or ms k x in
    let same : there ≡ slice_index_or ms k there = ap (λ (x : Member). slice_index_or ms k x) is in
    record { is = same; within = l; lots_within = omega (arith, length-map ms lot_of); lot = map_at lot_of ms k there l same }
