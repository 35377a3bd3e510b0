-- A normal form for polynomials over a commutative ring, by computation.
use Rattle.std.specs.Prelude.{◌≡◌, ℕ, zero, suc, ℤ, pos, negsuc, ◌+ℤ◌, ◌*ℤ◌, neg_ℤ, List, [], ◌∷◌, Bool, true, false, leb, eqb}
use Rattle.std.proofs.Common.{arith, sym, ◌∙◌, ap, ap₂, refl, eqb→eq, T}
use Rattle.std.proofs.lemmas.Int.{ints}
use lib.IntN.{*ℤ_comm, +ℤ_comm, +ℤ_assoc}
use Rattle.commutative_ring.proofs.Laws.{mul_assoc_ℤ, add_mul_ℤ, one_mul_ℤ, zero_mul_ℤ, neg_is_mul}

-- a commutative ring, with the whole numbers in it
pub record CommutativeRing (A : Type 0) : Type 0 where
  pub of_int : ℤ → A
  pub add : A → A → A
  pub mul : A → A → A
  pub neg : A → A
  pub add_assoc : (x y z : A) → add (add x y) z ≡ add x (add y z)
  pub add_comm : (x y : A) → add x y ≡ add y x
  pub zero_add : (x : A) → add (of_int (pos 0)) x ≡ x
  pub mul_assoc : (x y z : A) → mul (mul x y) z ≡ mul x (mul y z)
  pub mul_comm : (x y : A) → mul x y ≡ mul y x
  pub one_mul : (x : A) → mul (of_int (pos 1)) x ≡ x
  pub zero_mul : (x : A) → mul (of_int (pos 0)) x ≡ of_int (pos 0)
  pub add_mul : (x y z : A) → mul (add x y) z ≡ add (mul x z) (mul y z)
  pub neg_is_mul : (x : A) → neg x ≡ mul (of_int (negsuc 0)) x
  pub of_int_add : (a b : ℤ) → of_int (a +ℤ b) ≡ add (of_int a) (of_int b)
  pub of_int_mul : (a b : ℤ) → of_int (a *ℤ b) ≡ mul (of_int a) (of_int b)

abbrev pub int_ring : CommutativeRing ℤ
int_ring = record {
  of_int = λ z. z;
  add = λ x y. x +ℤ y;
  mul = λ x y. x *ℤ y;
  neg = neg_ℤ;
  add_assoc = +ℤ_assoc;
  add_comm = +ℤ_comm;
  zero_add = λ x. omega (arith, ints);
  mul_assoc = mul_assoc_ℤ;
  mul_comm = *ℤ_comm;
  one_mul = one_mul_ℤ;
  zero_mul = zero_mul_ℤ;
  add_mul = add_mul_ℤ;
  neg_is_mul = λ x. sym (neg_is_mul x);
  of_int_add = λ a b. refl;
  of_int_mul = λ a b. refl;
}

infixl 6 ◌⊕◌ ◌⊖◌
infixl 7 ◌⊗◌
-- an expression in numbered variables
pub data Expr : Type 0 where
  var : ℕ → Expr
  num : ℤ → Expr
  ◌⊕◌ : Expr → Expr → Expr
  ◌⊗◌ : Expr → Expr → Expr
  neg : Expr → Expr

abbrev pub ◌⊖◌ : Expr → Expr → Expr
e ⊖ f = e ⊕ neg f

-- a sum of coefficients times monomials, a monomial being a sorted list of variables
pub data Poly : Type 0 where
  none : Poly
  term : ℤ → List ℕ → Poly → Poly

abbrev pub insert_var : ℕ → List ℕ → List ℕ
insert_var i [] = i ∷ []
insert_var i (j ∷ m) = elim (leb i j) [ true ↦ i ∷ j ∷ m | false ↦ j ∷ insert_var i m ]

abbrev pub mono_mul : List ℕ → List ℕ → List ℕ
mono_mul [] l = l
mono_mul (i ∷ m) l = insert_var i (mono_mul m l)

pub data Order : Type 0 where
  less : Order
  same : Order
  more : Order

abbrev pub mono_order : List ℕ → List ℕ → Order
mono_order [] [] = same
mono_order [] (j ∷ l) = less
mono_order (i ∷ m) [] = more
mono_order (i ∷ m) (j ∷ l) = elim (eqb i j) [ true ↦ mono_order m l | false ↦ elim (leb i j) [ true ↦ less | false ↦ more ] ]

abbrev pub term_unless_zero : ℤ → List ℕ → Poly → Poly
term_unless_zero (pos zero) m p = p
term_unless_zero (pos (suc n)) m p = term (pos (suc n)) m p
term_unless_zero (negsuc n) m p = term (negsuc n) m p

abbrev pub add_term : ℤ → List ℕ → Poly → Poly
add_term c m none = term_unless_zero c m none
add_term c m (term d l p) =
    elim (mono_order m l) [ less ↦ term_unless_zero c m (term d l p) | same ↦ term_unless_zero (c +ℤ d) l p | more ↦ term d l (add_term c m p) ]

abbrev pub poly_add : Poly → Poly → Poly
poly_add none q = q
poly_add (term c m p) q = add_term c m (poly_add p q)

-- c times the monomial m times p, added to q
abbrev pub add_multiple : ℤ → List ℕ → Poly → Poly → Poly
add_multiple c m none q = q
add_multiple c m (term d l p) q = add_term (c *ℤ d) (mono_mul m l) (add_multiple c m p q)

abbrev pub poly_mul : Poly → Poly → Poly
poly_mul none q = none
poly_mul (term c m p) q = add_multiple c m q (poly_mul p q)

abbrev pub normal : Expr → Poly
normal (var i) = term (pos 1) (i ∷ []) none
normal (num c) = term_unless_zero c [] none
normal (e ⊕ f) = poly_add (normal e) (normal f)
normal (e ⊗ f) = poly_mul (normal e) (normal f)
normal (neg e) = add_multiple (negsuc 0) [] (normal e) none

-- what a comparison says: where the monomials are the same, they are equal
abbrev SaysSame : Order → List ℕ → List ℕ → Type 0
SaysSame less m l = Unit {0}
SaysSame same m l = m ≡ l
SaysSame more m l = Unit {0}

says_same : (m l : List ℕ) → SaysSame (mono_order m l) m l
says_same [] [] = refl
says_same [] (j ∷ l) = tt
says_same (i ∷ m) [] = tt
says_same (i ∷ m) (j ∷ l) = by_test (eqb i j) (λ t. eqb→eq i j t) (says_same m l)
  where
    lift : (o : Order) → i ≡ j → SaysSame o m l → SaysSame o (i ∷ m) (j ∷ l)
    lift less e h = tt
    lift same e h = ap₂ (λ (a : ℕ) (b : List ℕ). a ∷ b) e h
    lift more e h = tt

    unlike : (b : Bool) → SaysSame (elim b [ true ↦ less | false ↦ more ]) (i ∷ m) (j ∷ l)
    unlike true = tt
    unlike false = tt

    by_test : (b : Bool) → (T b → i ≡ j) → SaysSame (mono_order m l) m l
        → SaysSame (elim b [ true ↦ mono_order m l | false ↦ elim (leb i j) [ true ↦ less | false ↦ more ] ]) (i ∷ m) (j ∷ l)
    by_test true e h = lift (mono_order m l) (e tt) h
    by_test false e h = unlike (leb i j)

abbrev pub expr_value : {A : Type 0} → CommutativeRing A → (ℕ → A) → Expr → A
expr_value R ρ (var i) = ρ i
expr_value R ρ (num c) = R.of_int c
expr_value R ρ (e ⊕ f) = R.add (expr_value R ρ e) (expr_value R ρ f)
expr_value R ρ (e ⊗ f) = R.mul (expr_value R ρ e) (expr_value R ρ f)
expr_value R ρ (neg e) = R.neg (expr_value R ρ e)

-- the value at a list, by place
abbrev pub at : {A : Type 0} → CommutativeRing A → List A → ℕ → A
at R [] i = R.of_int (pos 0)
at R (x ∷ xs) zero = x
at R (x ∷ xs) (suc i) = at R xs i

module _ {A : Type 0} (R : CommutativeRing A) where
  abbrev mono_value : (ℕ → A) → List ℕ → A
  mono_value ρ [] = R.of_int (pos 1)
  mono_value ρ (i ∷ m) = R.mul (ρ i) (mono_value ρ m)

  abbrev poly_value : (ℕ → A) → Poly → A
  poly_value ρ none = R.of_int (pos 0)
  poly_value ρ (term c m p) = R.add (R.mul (R.of_int c) (mono_value ρ m)) (poly_value ρ p)

  add_zero : (x : A) → R.add x (R.of_int (pos 0)) ≡ x
  add_zero x = R.add_comm x (R.of_int (pos 0)) ∙ R.zero_add x

  mul_one : (x : A) → R.mul x (R.of_int (pos 1)) ≡ x
  mul_one x = R.mul_comm x (R.of_int (pos 1)) ∙ R.one_mul x

  mul_zero : (x : A) → R.mul x (R.of_int (pos 0)) ≡ R.of_int (pos 0)
  mul_zero x = R.mul_comm x (R.of_int (pos 0)) ∙ R.zero_mul x

  mul_add : (x y z : A) → R.mul x (R.add y z) ≡ R.add (R.mul x y) (R.mul x z)
  mul_add x y z = R.mul_comm x (R.add y z) ∙ R.add_mul y z x ∙ ap₂ R.add (R.mul_comm y x) (R.mul_comm z x)

  mul_left_comm : (x y z : A) → R.mul x (R.mul y z) ≡ R.mul y (R.mul x z)
  mul_left_comm x y z = sym (R.mul_assoc x y z) ∙ ap (λ w. R.mul w z) (R.mul_comm x y) ∙ R.mul_assoc y x z

  add_left_comm : (x y z : A) → R.add x (R.add y z) ≡ R.add y (R.add x z)
  add_left_comm x y z = sym (R.add_assoc x y z) ∙ ap (λ w. R.add w z) (R.add_comm x y) ∙ R.add_assoc y x z

  insert_var-value : (ρ : ℕ → A) (i : ℕ) (m : List ℕ) → mono_value ρ (insert_var i m) ≡ R.mul (ρ i) (mono_value ρ m)
  insert_var-value ρ i [] = refl
  insert_var-value ρ i (j ∷ m) =
      elim (leb i j) as (λ b. mono_value ρ (elim b [ true ↦ i ∷ j ∷ m | false ↦ j ∷ insert_var i m ]) ≡ R.mul (ρ i) (R.mul (ρ j) (mono_value ρ m))) [
        | true ↦ refl
        | false ↦ ap (λ w. R.mul (ρ j) w) (insert_var-value ρ i m) ∙ mul_left_comm (ρ j) (ρ i) (mono_value ρ m)
      ]

  mono_mul-value : (ρ : ℕ → A) (m l : List ℕ) → mono_value ρ (mono_mul m l) ≡ R.mul (mono_value ρ m) (mono_value ρ l)
  mono_mul-value ρ [] l = sym (R.one_mul (mono_value ρ l))
  mono_mul-value ρ (i ∷ m) l =
      insert_var-value ρ i (mono_mul m l)
      ∙ ap (λ w. R.mul (ρ i) w) (mono_mul-value ρ m l)
      ∙ sym (R.mul_assoc (ρ i) (mono_value ρ m) (mono_value ρ l))

  term_unless_zero-value : (ρ : ℕ → A) (c : ℤ) (m : List ℕ) (p : Poly)
      → poly_value ρ (term_unless_zero c m p) ≡ R.add (R.mul (R.of_int c) (mono_value ρ m)) (poly_value ρ p)
  term_unless_zero-value ρ (pos zero) m p = sym (ap (λ w. R.add w (poly_value ρ p)) (R.zero_mul (mono_value ρ m)) ∙ R.zero_add (poly_value ρ p))
  term_unless_zero-value ρ (pos (suc n)) m p = refl
  term_unless_zero-value ρ (negsuc n) m p = refl

  add_term-value : (ρ : ℕ → A) (c : ℤ) (m : List ℕ) (p : Poly) → poly_value ρ (add_term c m p) ≡ R.add (R.mul (R.of_int c) (mono_value ρ m)) (poly_value ρ p)
  add_term-value ρ c m none = term_unless_zero-value ρ c m none
  add_term-value ρ c m (term d l p) = by_order (mono_order m l) (says_same m l) (add_term-value ρ c m p)
    where
      by_order : (o : Order) → SaysSame o m l → poly_value ρ (add_term c m p) ≡ R.add (R.mul (R.of_int c) (mono_value ρ m)) (poly_value ρ p)
          → poly_value ρ (elim o [ less ↦ term_unless_zero c m (term d l p) | same ↦ term_unless_zero (c +ℤ d) l p | more ↦ term d l (add_term c m p) ])
          ≡ R.add (R.mul (R.of_int c) (mono_value ρ m)) (R.add (R.mul (R.of_int d) (mono_value ρ l)) (poly_value ρ p))
      by_order less s h = term_unless_zero-value ρ c m (term d l p)
      by_order same s h =
          term_unless_zero-value ρ (c +ℤ d) l p
          ∙ ap (λ w. R.add (R.mul w (mono_value ρ l)) (poly_value ρ p)) (R.of_int_add c d)
          ∙ ap (λ w. R.add w (poly_value ρ p)) (R.add_mul (R.of_int c) (R.of_int d) (mono_value ρ l))
          ∙ R.add_assoc (R.mul (R.of_int c) (mono_value ρ l)) (R.mul (R.of_int d) (mono_value ρ l)) (poly_value ρ p)
          ∙ ap (λ (w : List ℕ). R.add (R.mul (R.of_int c) (mono_value ρ w)) (R.add (R.mul (R.of_int d) (mono_value ρ l)) (poly_value ρ p))) (sym s)
      by_order more s h =
          ap (λ w. R.add (R.mul (R.of_int d) (mono_value ρ l)) w) h
          ∙ add_left_comm (R.mul (R.of_int d) (mono_value ρ l)) (R.mul (R.of_int c) (mono_value ρ m)) (poly_value ρ p)

  poly_add-value : (ρ : ℕ → A) (p q : Poly) → poly_value ρ (poly_add p q) ≡ R.add (poly_value ρ p) (poly_value ρ q)
  poly_add-value ρ none q = sym (R.zero_add (poly_value ρ q))
  poly_add-value ρ (term c m p) q =
      add_term-value ρ c m (poly_add p q)
      ∙ ap (λ w. R.add (R.mul (R.of_int c) (mono_value ρ m)) w) (poly_add-value ρ p q)
      ∙ sym (R.add_assoc (R.mul (R.of_int c) (mono_value ρ m)) (poly_value ρ p) (poly_value ρ q))

  regroup_four : (a b x y : A) → R.mul (R.mul a b) (R.mul x y) ≡ R.mul (R.mul a x) (R.mul b y)
  regroup_four a b x y =
      R.mul_assoc a b (R.mul x y) ∙ ap (λ w. R.mul a w) (mul_left_comm b x y) ∙ sym (R.mul_assoc a x (R.mul b y))

  add_multiple-value : (ρ : ℕ → A) (c : ℤ) (m : List ℕ) (p q : Poly)
      → poly_value ρ (add_multiple c m p q) ≡ R.add (R.mul (R.mul (R.of_int c) (mono_value ρ m)) (poly_value ρ p)) (poly_value ρ q)
  add_multiple-value ρ c m none q =
      sym (ap (λ w. R.add w (poly_value ρ q)) (mul_zero (R.mul (R.of_int c) (mono_value ρ m))) ∙ R.zero_add (poly_value ρ q))
  add_multiple-value ρ c m (term d l p) q =
      add_term-value ρ (c *ℤ d) (mono_mul m l) (add_multiple c m p q)
      ∙ join (R.of_int (c *ℤ d)) (mono_value ρ (mono_mul m l)) (poly_value ρ (add_multiple c m p q)) (R.of_int_mul c d) (mono_mul-value ρ m l)
      (add_multiple-value ρ c m p q)
    where
      join : (s u v : A) → s ≡ R.mul (R.of_int c) (R.of_int d) → u ≡ R.mul (mono_value ρ m) (mono_value ρ l)
          → v ≡ R.add (R.mul (R.mul (R.of_int c) (mono_value ρ m)) (poly_value ρ p)) (poly_value ρ q)
          → R.add (R.mul s u) v
          ≡ R.add (R.mul (R.mul (R.of_int c) (mono_value ρ m)) (R.add (R.mul (R.of_int d) (mono_value ρ l)) (poly_value ρ p))) (poly_value ρ q)
      join s u v h e f =
          ap₂ R.add (ap₂ R.mul h e) f
          ∙ ap (λ w. R.add w (R.add (R.mul (R.mul (R.of_int c) (mono_value ρ m)) (poly_value ρ p)) (poly_value ρ q)))
          (regroup_four (R.of_int c) (R.of_int d) (mono_value ρ m) (mono_value ρ l))
          ∙ sym (R.add_assoc (R.mul (R.mul (R.of_int c) (mono_value ρ m)) (R.mul (R.of_int d) (mono_value ρ l)))
          (R.mul (R.mul (R.of_int c) (mono_value ρ m)) (poly_value ρ p)) (poly_value ρ q))
          ∙ ap (λ w. R.add w (poly_value ρ q)) (sym (mul_add (R.mul (R.of_int c) (mono_value ρ m)) (R.mul (R.of_int d) (mono_value ρ l)) (poly_value ρ p)))

  poly_mul-value : (ρ : ℕ → A) (p q : Poly) → poly_value ρ (poly_mul p q) ≡ R.mul (poly_value ρ p) (poly_value ρ q)
  poly_mul-value ρ none q = sym (R.zero_mul (poly_value ρ q))
  poly_mul-value ρ (term c m p) q =
      add_multiple-value ρ c m q (poly_mul p q)
      ∙ ap (λ w. R.add (R.mul (R.mul (R.of_int c) (mono_value ρ m)) (poly_value ρ q)) w) (poly_mul-value ρ p q)
      ∙ sym (R.add_mul (R.mul (R.of_int c) (mono_value ρ m)) (poly_value ρ p) (poly_value ρ q))

  normal-value : (ρ : ℕ → A) (e : Expr) → poly_value ρ (normal e) ≡ expr_value R ρ e
  normal-value ρ (var i) = add_zero _ ∙ R.one_mul _ ∙ mul_one (ρ i)
  normal-value ρ (num c) = term_unless_zero-value ρ c [] none ∙ add_zero _ ∙ mul_one (R.of_int c)
  normal-value ρ (e ⊕ f) = poly_add-value ρ (normal e) (normal f) ∙ ap₂ R.add (normal-value ρ e) (normal-value ρ f)
  normal-value ρ (e ⊗ f) = poly_mul-value ρ (normal e) (normal f) ∙ ap₂ R.mul (normal-value ρ e) (normal-value ρ f)
  normal-value ρ (neg e) =
      add_multiple-value ρ (negsuc 0) [] (normal e) none ∙ add_zero _ ∙ ap (λ w. R.mul w (poly_value ρ (normal e))) (mul_one (R.of_int (negsuc 0)))
      ∙ sym (R.neg_is_mul (poly_value ρ (normal e))) ∙ ap R.neg (normal-value ρ e)

  -- two expressions with one normal form are equal at every values of their variables
  pub ring_in : (xs : List A) (e f : Expr) → normal e ≡ normal f → expr_value R (at R xs) e ≡ expr_value R (at R xs) f
  ring_in xs e f same_form = sym (normal-value (at R xs) e) ∙ ap (poly_value (at R xs)) same_form ∙ normal-value (at R xs) f

-- the same over ℤ
pub ring : (xs : List ℤ) (e f : Expr) → normal e ≡ normal f → expr_value int_ring (at int_ring xs) e ≡ expr_value int_ring (at int_ring xs) f
ring xs e f same_form = ring_in int_ring xs e f same_form

abbrev pub v0 : Expr
v0 = var 0

abbrev pub v1 : Expr
v1 = var 1

abbrev pub v2 : Expr
v2 = var 2

abbrev pub v3 : Expr
v3 = var 3

abbrev pub v4 : Expr
v4 = var 4

abbrev pub v5 : Expr
v5 = var 5

abbrev pub v6 : Expr
v6 = var 6

abbrev pub v7 : Expr
v7 = var 7

abbrev pub v8 : Expr
v8 = var 8

abbrev pub v9 : Expr
v9 = var 9

abbrev pub v10 : Expr
v10 = var 10

abbrev pub v11 : Expr
v11 = var 11

abbrev pub v12 : Expr
v12 = var 12

abbrev pub v13 : Expr
v13 = var 13

abbrev pub v14 : Expr
v14 = var 14

abbrev pub v15 : Expr
v15 = var 15

abbrev pub v16 : Expr
v16 = var 16

abbrev pub v17 : Expr
v17 = var 17

abbrev pub v18 : Expr
v18 = var 18

abbrev pub v19 : Expr
v19 = var 19
