-- The tree that is split at the pairs.
use Rattle.std.specs.Prelude.{◌≡◌, ℕ, zero, suc, ◌+◌, ◌-◌, ◌≤◌, [], ◌∷◌, ◌++◌}
use Rattle.std.proofs.Common.{arith, sym, ◌∙◌, ap, ap₂, subst, append_assoc}
use Rattle.exact_forms.specs.Copositive.{Matrix}
use Rattle.unimodular_cone.specs.Cones.{Generators, child, unit_vectors}
use Rattle.unimodular_cone.proofs.Pairs.{some_pair}
use Rattle.cone_tree_certificate.specs.declared.tree.TreeLine.{TreeLine}
use Rattle.cone_tree_certificate.specs.declared.tree.TreeLine.TheVariants.{Leaf, Split}
use Rattle.cone_tree_certificate.specs.Trees.{Lines, IsSplitLine, ReadsTree, TreeProves}
use Rattle.cone_tree_certificate.specs.PairTrees.{ReadsPairTree, IsPairTree}

reads_tree : (n : ℕ) (w : Matrix) (d m : ℕ) (v : Generators) (lines rest : Lines) → ReadsPairTree n w d v lines rest → ReadsTree n w (m + d) v lines rest
reads_tree n w d m v [] rest h = absurd h
reads_tree n w d m v (Leaf ∷ more) rest h = h
reads_tree n w zero m v (Split i j ∷ more) rest h = absurd h
reads_tree n w (suc d) m v (Split i j ∷ more) rest (open_leaf, (split, (pair, (between, one, two)))) =
    let e : m + suc d ≡ suc (m + d) = omega arith in
    subst (λ (k : ℕ). ReadsTree n w k v (Split i j ∷ more) rest) (sym e)
    (split, (between, reads_tree n w d m (child v (i - 1) (j - 1)) more between one, reads_tree n w d m (child v (j - 1) (i - 1)) between rest two))

pub pair_trees_prove : (n : ℕ) (w : Matrix) (d : ℕ) (lines : Lines) → d ≤ 200 → IsPairTree n w d lines → TreeProves n w lines
unfolding IsPairTree TreeProves
pair_trees_prove n w d lines few h =
    let e : (200 - d) + d ≡ 200 = omega arith in
    subst (λ (k : ℕ). ReadsTree n w k unit_vectors lines []) e (reads_tree n w d (200 - d) unit_vectors lines [] h)

same_split : (i j k l n : ℕ) → IsSplitLine n i j → IsSplitLine n k l → i - 1 ≡ k - 1 → j - 1 ≡ l - 1 → Split i j ≡ Split k l
same_split i j k l n s t e f =
    let a = s.first in let b = t.first in let c = s.order in let d = t.order in
    let g : i ≡ k = omega (arith, a, b, e) in
    let h : j ≡ l = omega (arith, a, b, c, d, f) in
    ap₂ (λ (x : ℕ) (y : ℕ). Split x y) g h

-- the same lines in front, and with the same rest the same rest
record SameLines (n : ℕ) (w : Matrix) (xs ys rest other : Lines) : Type 0 where
  front : Lines
  first : xs ≡ front ++ rest
  second : ys ≡ front ++ other

one_tree : (n : ℕ) (w : Matrix) (d e : ℕ) (v : Generators) (xs ys rest other : Lines) → ReadsPairTree n w d v xs rest → ReadsPairTree n w e v ys other
    → SameLines n w xs ys rest other
one_tree n w d e v [] ys rest other h k = absurd h
one_tree n w d e v (Leaf ∷ xs) [] rest other h k = absurd k
one_tree n w d e v (Leaf ∷ xs) (Leaf ∷ ys) rest other h k =
    record { front = Leaf ∷ []; first = ap (λ (zs : Lines). Leaf ∷ zs) h.1; second = ap (λ (zs : Lines). Leaf ∷ zs) k.1 }
one_tree n w d zero v (Leaf ∷ xs) (Split k l ∷ ys) rest other h r = absurd r
one_tree n w d (suc e) v (Leaf ∷ xs) (Split k l ∷ ys) rest other h r = absurd (r.0 h.0)
one_tree n w zero e v (Split i j ∷ xs) ys rest other h k = absurd h
one_tree n w (suc d) e v (Split i j ∷ xs) [] rest other h k = absurd k
one_tree n w (suc d) e v (Split i j ∷ xs) (Leaf ∷ ys) rest other h k = absurd (h.0 k.0)
one_tree n w (suc d) zero v (Split i j ∷ xs) (Split k l ∷ ys) rest other h r = absurd r
one_tree n w (suc d) (suc e) v (Split i j ∷ xs) (Split k l ∷ ys) rest other (o, (s, (p, (b, x, y)))) (u, (t, (q, (c, z, m)))) =
    let pairs = some_pair (sym p ∙ q) in
    let z' : ReadsPairTree n w e (child v (i - 1) (j - 1)) ys c =
    subst (λ (f : ℕ × ℕ). ReadsPairTree n w e (child v f.0 f.1) ys c) (sym (ap₂ (λ (f : ℕ) (g : ℕ). (f, g)) pairs.0 pairs.1)) z in
    let m' : ReadsPairTree n w e (child v (j - 1) (i - 1)) c other =
    subst (λ (f : ℕ × ℕ). ReadsPairTree n w e (child v f.1 f.0) c other) (sym (ap₂ (λ (f : ℕ) (g : ℕ). (f, g)) pairs.0 pairs.1)) m in
    joined (one_tree n w d e (child v (i - 1) (j - 1)) xs ys b c x z') (one_tree n w d e (child v (j - 1) (i - 1)) b c rest other y m')
    (same_split i j k l n s t pairs.0 pairs.1)
  where
    joined : SameLines n w xs ys b c → SameLines n w b c rest other → Split i j ≡ Split k l → SameLines n w (Split i j ∷ xs) (Split k l ∷ ys) rest other
    joined f g same = record {
      front = Split i j ∷ (f.front ++ g.front);
      first = ap (λ (zs : Lines). Split i j ∷ zs) (f.first ∙ ap (λ (zs : Lines). f.front ++ zs) g.first ∙ sym (append_assoc f.front g.front rest));
      second = ap₂ (λ (a : TreeLine) (zs : Lines). a ∷ zs) (sym same) (f.second ∙ ap (λ (zs : Lines). f.front ++ zs) g.second
          ∙ sym (append_assoc f.front g.front other));
    }

pub one_pair_tree : (n : ℕ) (w : Matrix) (d e : ℕ) (xs ys : Lines) → IsPairTree n w d xs → IsPairTree n w e ys → xs ≡ ys
unfolding IsPairTree
one_pair_tree n w d e xs ys h k = let s = one_tree n w d e unit_vectors xs ys [] [] h k in s.first ∙ sym s.second
