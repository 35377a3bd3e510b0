-- Cones by their generators, for a matrix Q of size n. Generators and places count from 0.
--
--     unit_vectors               the root's generators
--     gram n q v i j             g_ij = v_iᵗ Q v_j
--     value n q v k              Q[v_k]
--     IsPair n g i j             (i, j) is the least negative entry of g with i < j, the first one among equals
--     pair_of n g                that pair, None where no entry beside the diagonal is negative
--     lesser_pair g b i j        (i, j), if its entry is less than that of b, or negative where b is None; else b
--     best_in_row, best_in_rows  the pair so far, after the places of a row, and of the first rows
--     child v i j                v_i becomes v_i + v_j
--     child_on v i j side        child 0 of the pair, child v i j, or child 1, child v j i
--     child_gram g i j           g after row j is added to row i, and then column j to column i: the child's Gram matrix
--     child_gram_on g i j side   the same for child 0 or child 1 of the pair
--     child_at pair v side       child 0 or child 1 of the pair, v where it is None
--     next_cone n q v side       child 0 or child 1 at the cone's pair
--     cone_from n q v path       the cone that the path's digits reach from v
--     cone_at n q path           the cone that the path reaches from the root
--     IsOverLimit n v g entry    that coordinate of v or entry of g is over its limit
--     FitsLimits n v g           no entry is
--     StandsBefore e f           the order of entries: coordinates by generator and place, then Gram entries row by row
--     IsFirstOverLimit           the first entry that is over its limit, in this order
--     Fits, IsFirstOver          the same of generators v and their Gram matrix for Q
--     LiesIn n v x               x is a combination of the generators with nonnegative integer coefficients
use Rattle.std.specs.Prelude.{Option, Some, None, ℕ, zero, suc, ℤ, pos, ◌+ℤ◌, ◌≤ℤ◌, ◌<ℤ◌, ◌<◌, ◌≤◌, ◌≡◌, ◌⊎◌, Bool, true, false, cond, eqb, ltb, [], ◌∷◌, nat_abs, ◌^◌, int_lt}
use Rattle.exact_forms.specs.Forms.{bilinear, combination}
pub use Rattle.exact_forms.specs.Copositive.{Matrix}
use Rattle.exact_forms.specs.Slacks.{replaced, AreNonnegative}
use Rattle.unimodular_cone.specs.Paths.{Path}
pub use Rattle.unimodular_cone.specs.declared.refusal.WideEntry.{WideEntry}
pub use Rattle.unimodular_cone.specs.declared.refusal.WideEntry.TheVariants.{Coordinate, Gram}

abbrev pub Generators : Type 0
Generators = ℕ → ℕ → ℤ

abbrev pub unit_vectors : Generators
unit_vectors i p = cond (eqb i p) (pos 1) (pos 0)

abbrev pub gram : ℕ → Matrix → Generators → Matrix
gram n q v i j = bilinear n q (v i) (v j)

abbrev pub value : ℕ → Matrix → Generators → ℕ → ℤ
value n q v k = gram n q v k k

pub record IsPair (n : ℕ) (g : Matrix) (i j : ℕ) : Type 0 where
  pub order : i < j
  pub range : j < n
  pub negative : g i j <ℤ pos 0
  pub least : (k l : ℕ) → k < l → l < n → g i j ≤ℤ g k l
  pub first : (k l : ℕ) → k < l → l < n → g k l ≡ g i j → (i < k) ⊎ ((i ≡ k) × (j ≤ l))

abbrev pub lesser_pair : Matrix → Option (ℕ × ℕ) → ℕ → ℕ → Option (ℕ × ℕ)
lesser_pair g None i j = cond (int_lt (g i j) (pos 0)) (Some (i, j)) None
lesser_pair g (Some (k, l)) i j = cond (int_lt (g i j) (g k l)) (Some (i, j)) (Some (k, l))

-- the best of b and of the places (i, j) of row i with i < j < m
abbrev pub best_in_row : Matrix → ℕ → ℕ → Option (ℕ × ℕ) → Option (ℕ × ℕ)
best_in_row g i zero b = b
best_in_row g i (suc j) b = let r = best_in_row g i j b in cond (ltb i j) (lesser_pair g r i j) r

abbrev pub best_in_rows : Matrix → ℕ → ℕ → Option (ℕ × ℕ)
best_in_rows g n zero = None
best_in_rows g n (suc i) = best_in_row g i n (best_in_rows g n i)

unfoldable pub pair_of : ℕ → Matrix → Option (ℕ × ℕ)
pair_of n g = best_in_rows g n n

abbrev pub child : Generators → ℕ → ℕ → Generators
child v i j = replaced v i (λ p. v i p +ℤ v j p)

abbrev pub child_on : Generators → ℕ → ℕ → Bool → Generators
child_on v i j false = child v i j
child_on v i j true = child v j i

abbrev pub child_gram : Matrix → ℕ → ℕ → Matrix
child_gram g i j k l = child (λ b a. child g i j a b) i j l k

-- the same for a side of a pair
abbrev pub child_gram_on : Matrix → ℕ → ℕ → Bool → Matrix
child_gram_on g i j false = child_gram g i j
child_gram_on g i j true = child_gram g j i

abbrev pub child_at : Option (ℕ × ℕ) → Generators → Bool → Generators
child_at None v side = v
child_at (Some (i, j)) v side = child_on v i j side

abbrev pub next_cone : ℕ → Matrix → Generators → Bool → Generators
next_cone n q v side = child_at (pair_of n (gram n q v)) v side

-- the cone that the digits reach from v
unfoldable pub cone_from : ℕ → Matrix → Generators → Path → Generators
cone_from n q v [] = v
cone_from n q v (side ∷ path) = cone_from n q (next_cone n q v side) path

abbrev pub cone_at : ℕ → Matrix → Path → Generators
cone_at n q path = cone_from n q unit_vectors path

-- ---- limits
-- an entry names its generator, place, row and column from 1
abbrev pub IsOverLimit : ℕ → Generators → Matrix → WideEntry → Type 0
IsOverLimit n v g (Coordinate (suc k) (suc p)) = (k < n) × (p < n) × (pos (2 ^ 62) <ℤ v k p)
IsOverLimit n v g (Gram (suc i) (suc j)) = (i < n) × (j ≤ i) × (2 ^ 100 < nat_abs (g i j))
IsOverLimit n v g (Coordinate zero p) = ⊥
IsOverLimit n v g (Coordinate (suc k) zero) = ⊥
IsOverLimit n v g (Gram zero j) = ⊥
IsOverLimit n v g (Gram (suc i) zero) = ⊥

abbrev pub StandsBefore : WideEntry → WideEntry → Type 0
StandsBefore (Coordinate k p) (Coordinate l r) = (k < l) ⊎ ((k ≡ l) × (p < r))
StandsBefore (Coordinate k p) (Gram i j) = Unit {0}
StandsBefore (Gram i j) (Coordinate k p) = ⊥
StandsBefore (Gram i j) (Gram k l) = (i < k) ⊎ ((i ≡ k) × (j < l))

abbrev pub FitsLimits : ℕ → Generators → Matrix → Type 0
FitsLimits n v g = (entry : WideEntry) → ¬ IsOverLimit n v g entry

pub record IsFirstOverLimit (n : ℕ) (v : Generators) (g : Matrix) (entry : WideEntry) : Type 0 where
  pub over : IsOverLimit n v g entry
  pub first : (other : WideEntry) → StandsBefore other entry → ¬ IsOverLimit n v g other

abbrev pub Fits : ℕ → Matrix → Generators → Type 0
Fits n q v = FitsLimits n v (gram n q v)

abbrev pub IsFirstOver : ℕ → Matrix → Generators → WideEntry → Type 0
IsFirstOver n q v entry = IsFirstOverLimit n v (gram n q v) entry

-- x is a combination of v's generators with nonnegative integer coefficients
pub record LiesIn (n : ℕ) (v : Generators) (x : ℕ → ℤ) : Type 0 where
  pub coefficients : ℕ → ℤ
  pub nonnegative : AreNonnegative n coefficients
  pub same : (p : ℕ) → p < n → combination n coefficients v p ≡ x p
