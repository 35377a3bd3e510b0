-- A cone whose numbers that count were copied shows the same.
use Rattle.std.specs.Prelude.{◌≡◌, ℕ, zero, suc, ◌<◌, ◌≤◌, ℤ, pos, Bool, List, [], ◌∷◌, length, map, take, slice_index_or}
use Rattle.std.proofs.Common.{arith, sym, ◌∙◌, ap, ap₂, refl, subst}
use Rattle.exact_forms.specs.Triangles.{triangle}
use Rattle.exact_forms.proofs.Triangles.{triangle_grows}
use Rattle.unimodular_cone.specs.declared.cone.Cone.TheInside.{Inside}
use Rattle.unimodular_cone.specs.ConeFields.{shown_of, IsCone}
use Rattle.unimodular_cone.specs.Copies.{IsCopiedTo, AreRowsCopied}
use Rattle.unimodular_cone.specs.Shown.{ShownCone, IsWithinLimits}
use Rattle.unimodular_cone.proofs.Fields.{triangle_8}

pub triangle_3 : triangle 3 ≡ 6
unfolding triangle
triangle_3 = refl

pub triangle_4 : triangle 4 ≡ 10
unfolding triangle
triangle_4 = refl

pub triangle_5 : triangle 5 ≡ 15
unfolding triangle
triangle_5 = refl

pub triangle_6 : triangle 6 ≡ 21
unfolding triangle
triangle_6 = refl

pub copied_at : (n m count : ℕ) (from into : List ℤ) → n ≡ m → triangle m ≡ count → IsCopiedTo count from into → IsCopiedTo (triangle n) from into
copied_at n m count from into e t h = subst (λ (k : ℕ). IsCopiedTo k from into) (sym t ∙ ap triangle (sym e)) h

pub take_same : {A : Type 0} (count : ℕ) (xs ys : List A) (none : A) → count ≤ length xs → count ≤ length ys
    → ((k : ℕ) → k < count → slice_index_or xs k none ≡ slice_index_or ys k none) → take count xs ≡ take count ys
take_same zero [] [] none a b h = refl
take_same zero [] (y ∷ ys) none a b h = refl
take_same zero (x ∷ xs) [] none a b h = refl
take_same zero (x ∷ xs) (y ∷ ys) none a b h = refl
take_same (suc count) [] ys none a b h = absurd (omega (arith, a))
take_same (suc count) (x ∷ xs) [] none a b h = absurd (omega (arith, b))
take_same (suc count) (x ∷ xs) (y ∷ ys) none a b h =
    ap₂ (λ (z : _) (zs : _). z ∷ zs) (h 0 (omega arith)) (take_same count xs ys none (omega (arith, a)) (omega (arith, b)) (λ k l. h (suc k) (omega arith)))

abbrev cone_with : ℕ → List Bool → List ℤ → List (List ℕ) → ShownCone
cone_with n path l g = record { size = n; path = path; lower = l; generators = g }

-- the numbers of c, copied to others
pub same_shown : (c : Inside) (gram : List ℤ) (generators : List (List ℕ)) → c.n ≤ 8 → length c.gram ≡ 36 → length c.generators ≡ 8
    → IsCopiedTo (triangle c.n) c.gram gram → AreRowsCopied c.n c.generators generators
    → shown_of (record { n = c.n; path = c.path; gram = gram; generators = generators }) ≡ shown_of c
same_shown c gram generators few lg lr copied rows =
    let top : triangle c.n ≤ triangle 8 = triangle_grows c.n 8 few in
    let e : triangle 8 ≡ 36 = triangle_8 in
    let a : take (triangle c.n) gram ≡ take (triangle c.n) c.gram =
    take_same (triangle c.n) gram c.gram (pos 0) (omega (arith, top, e, copied.room)) (omega (arith, top, e, lg)) copied.same in
    let b : take c.n generators ≡ take c.n c.generators =
    take_same c.n generators c.generators [] (omega (arith, rows.room, few)) (omega (arith, lr, few)) rows.same in
    ap₂ (λ (l : List ℤ) (g : List (List ℕ)). cone_with c.n c.path l (map (take c.n) g)) a b

pub copied_is_cone : (c : Inside) (gram : List ℤ) (generators : List (List ℕ)) → length c.gram ≡ 36 → IsCone c
    → IsCopiedTo (triangle c.n) c.gram gram → AreRowsCopied c.n c.generators generators
    → IsCone (record { n = c.n; path = c.path; gram = gram; generators = generators })
copied_is_cone c gram generators lg is copied rows = record {
  within = subst IsWithinLimits (sym (same_shown c gram generators is.within.few lg is.room copied rows)) is.within;
  room = rows.room;
}
