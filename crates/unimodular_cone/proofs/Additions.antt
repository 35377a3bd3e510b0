-- A child's Gram matrix by additions.
use Rattle.std.specs.Prelude.{◌⊎◌, ◌≡◌, ◌≢◌, ℕ, ℤ, ◌+ℤ◌}
use Rattle.std.proofs.Common.{arith, sym, ◌∙◌, ap, ap₂, refl, inl, inr}
use Rattle.std.proofs.lemmas.Int.{ints}
use Rattle.commutative_ring.proofs.SmallCases.{same_or_not}
use Rattle.exact_forms.specs.Forms.{bilinear}
use Rattle.exact_forms.proofs.Slacks.{replaced_here, replaced_other}
use Rattle.exact_forms.proofs.Forms.{bilinear-add_left, bilinear-add_right}
use Rattle.unimodular_cone.specs.Cones.{Matrix, Generators, gram, child, child_gram}

-- ---- a child's Gram entries by additions
-- ---- the child's Gram matrix from the parent's: row j added to row i, then column j to column i
pub child_row : (g : Matrix) (i j k l : ℕ) → k ≡ i → child g i j k l ≡ g i l +ℤ g j l
child_row g i j k l e = ap (λ (f : ℕ → ℤ). f l) (replaced_here g i (λ p. g i p +ℤ g j p) k e)

pub child_row_other : (g : Matrix) (i j k l : ℕ) → k ≢ i → child g i j k l ≡ g k l
child_row_other g i j k l ne = ap (λ (f : ℕ → ℤ). f l) (replaced_other g i (λ p. g i p +ℤ g j p) k ne)

child_column : (g : Matrix) (i j k l : ℕ) → l ≡ i → child_gram g i j k l ≡ child g i j k i +ℤ child g i j k j
child_column g i j k l e = child_row (λ b a. child g i j a b) i j l k e

child_column_other : (g : Matrix) (i j k l : ℕ) → l ≢ i → child_gram g i j k l ≡ child g i j k l
child_column_other g i j k l ne = child_row_other (λ b a. child g i j a b) i j l k ne

pub child_gram_other : (g : Matrix) (i j k l : ℕ) → k ≢ i → l ≢ i → child_gram g i j k l ≡ g k l
child_gram_other g i j k l nk nl = child_column_other g i j k l nl ∙ child_row_other g i j k l nk

pub child_gram_row : (g : Matrix) (i j l : ℕ) → l ≢ i → child_gram g i j i l ≡ g i l +ℤ g j l
child_gram_row g i j l nl = child_column_other g i j i l nl ∙ child_row g i j i l refl

pub child_gram_column : (g : Matrix) (i j k : ℕ) → k ≢ i → child_gram g i j k i ≡ g k i +ℤ g k j
child_gram_column g i j k nk = child_column g i j k i refl ∙ ap₂ (λ (a : ℤ) (b : ℤ). a +ℤ b) (child_row_other g i j k i nk) (child_row_other g i j k j nk)

pub child_gram_square : (g : Matrix) (i j : ℕ) → child_gram g i j i i ≡ (g i i +ℤ g j i) +ℤ (g i j +ℤ g j j)
child_gram_square g i j = child_column g i j i i refl ∙ ap₂ (λ (a : ℤ) (b : ℤ). a +ℤ b) (child_row g i j i i refl) (child_row g i j i j refl)

-- it is the Gram matrix of the child's generators
pub gram-child : (n : ℕ) (q : Matrix) (v : Generators) (i j k l : ℕ) → gram n q (child v i j) k l ≡ child_gram (gram n q v) i j k l
gram-child n q v i j k l = columns (same_or_not l i)
  where
    rows : (l : ℕ) → ((k ≡ i) ⊎ (k ≢ i)) → bilinear n q (child v i j k) (v l) ≡ child (gram n q v) i j k l
    rows l (inl e) = ap (λ (f : ℕ → ℤ). bilinear n q f (v l)) (replaced_here v i (λ p. v i p +ℤ v j p) k e) ∙ bilinear-add_left n q (v i) (v j) (v l)
        ∙ sym (child_row (gram n q v) i j k l e)
    rows l (inr ne) = ap (λ (f : ℕ → ℤ). bilinear n q f (v l)) (replaced_other v i (λ p. v i p +ℤ v j p) k ne) ∙ sym (child_row_other (gram n q v) i j k l ne)

    columns : ((l ≡ i) ⊎ (l ≢ i)) → gram n q (child v i j) k l ≡ child_gram (gram n q v) i j k l
    columns (inl e) =
        ap (λ (f : ℕ → ℤ). bilinear n q (child v i j k) f) (replaced_here v i (λ p. v i p +ℤ v j p) l e)
        ∙ bilinear-add_right n q (child v i j k) (v i) (v j)
        ∙ ap₂ (λ (a : ℤ) (b : ℤ). a +ℤ b) (rows i (same_or_not k i)) (rows j (same_or_not k i))
        ∙ sym (child_column (gram n q v) i j k l e)
    columns (inr ne) =
        ap (λ (f : ℕ → ℤ). bilinear n q (child v i j k) f) (replaced_other v i (λ p. v i p +ℤ v j p) l ne)
        ∙ rows l (same_or_not k i)
        ∙ sym (child_column_other (gram n q v) i j k l ne)

-- it is symmetric where the parent's is
pub child_gram_mirror : (g : Matrix) (i j k l : ℕ) → ((a b : ℕ) → g a b ≡ g b a) → child_gram g i j k l ≡ child_gram g i j l k
child_gram_mirror g i j k l s = by (same_or_not k i) (same_or_not l i)
  where
    swap : (a b c d : ℤ) → (a +ℤ b) +ℤ (c +ℤ d) ≡ (a +ℤ c) +ℤ (b +ℤ d)
    swap a b c d = omega (arith, ints)

    by : ((k ≡ i) ⊎ (k ≢ i)) → ((l ≡ i) ⊎ (l ≢ i)) → child_gram g i j k l ≡ child_gram g i j l k
    by (inl e) (inl f) = ap₂ (λ (a : ℕ) (b : ℕ). child_gram g i j a b) (e ∙ sym f) (f ∙ sym e)
    by (inl e) (inr nl) = ap (λ (a : ℕ). child_gram g i j a l) e ∙ child_gram_row g i j l nl ∙ ap₂ (λ (a : ℤ) (b : ℤ). a +ℤ b) (s i l) (s j l)
        ∙ sym (child_gram_column g i j l nl) ∙ ap (λ (a : ℕ). child_gram g i j l a) (sym e)
    by (inr nk) (inl f) = ap (λ (a : ℕ). child_gram g i j k a) f ∙ child_gram_column g i j k nk ∙ ap₂ (λ (a : ℤ) (b : ℤ). a +ℤ b) (s k i) (s k j)
        ∙ sym (child_gram_row g i j k nk) ∙ ap (λ (a : ℕ). child_gram g i j a k) (sym f)
    by (inr nk) (inr nl) = child_gram_other g i j k l nk nl ∙ s k l ∙ sym (child_gram_other g i j l k nl nk)
