-- Laws of lists of operations.
use Rattle.std.specs.Prelude.{◌≡◌, Bool, true, false, List, [], ◌∷◌, ◌++◌, map, Option, Some, None, Result, Ok, Err, if◌then◌else◌}
use Rattle.std.proofs.Common.{sym, ◌∙◌, ap, refl}
use Rattle.symmetric_matrix.specs.Owed.{first_owed, answer, tagged}

pub answer_nothing : {O V : Type 0} (owed : O → Bool) (v : V) → answer owed [] v ≡ Ok v
unfolding answer
answer_nothing owed v = refl

-- a list that refuses, refuses with whatever follows it
pub answer-append_err : {O U V : Type 0} (owed : O → Bool) (xs ys : List O) (u : U) (v : V) (err : O) → answer owed xs u ≡ Err err
    → answer owed (xs ++ ys) v ≡ Err err
unfolding answer
answer-append_err owed [] ys u v err h = absurd cc
answer-append_err {O} {U} {V} owed (op ∷ xs) ys u v err h = by (owed op) h (answer-append_err owed xs ys u v err)
  where
    by : (b : Bool) → (if b then Err op else answer owed xs u) ≡ Err err → (answer owed xs u ≡ Err err → answer owed (xs ++ ys) v ≡ Err err)
        → (if b then Err op else answer owed (xs ++ ys) v) ≡ Err err
    by true h rec = cc
    by false h rec = rec h

-- a list that does not, leaves the answer to what follows it, and gives its value
pub answer-append_ok : {O U V : Type 0} (owed : O → Bool) (xs ys : List O) (u z : U) (v : V) → answer owed xs u ≡ Ok z
    → (answer owed (xs ++ ys) v ≡ answer owed ys v) × (u ≡ z)
unfolding answer
answer-append_ok owed [] ys u z v h = (refl, cc)
answer-append_ok {O} {U} {V} owed (op ∷ xs) ys u z v h = by (owed op) h (answer-append_ok owed xs ys u z v)
  where
    by : (b : Bool) → (if b then Err op else answer owed xs u) ≡ Ok z → (answer owed xs u ≡ Ok z → (answer owed (xs ++ ys) v ≡ answer owed ys v) × (u ≡ z))
        → ((if b then Err op else answer owed (xs ++ ys) v) ≡ answer owed ys v) × (u ≡ z)
    by true h rec = absurd cc
    by false h rec = rec h

-- operations that are given a place
pub answer-map_err : {O Q U V : Type 0} (owed : O → Bool) (owed' : Q → Bool) (tag : O → Q) (xs : List O) (u : U) (v : V) (err : O)
    → ((o : O) → owed' (tag o) ≡ owed o)
    → answer owed xs u ≡ Err err → answer owed' (map tag xs) v ≡ Err (tag err)
unfolding answer
answer-map_err owed owed' tag [] u v err same h = absurd cc
answer-map_err {O} {Q} {U} {V} owed owed' tag (op ∷ xs) u v err same h =
    ap (λ (b : Bool). if b then Err (tag op) else answer owed' (map tag xs) v) (same op) ∙ by (owed op) h (answer-map_err owed owed' tag xs u v err same)
  where
    by : (b : Bool) → (if b then Err op else answer owed xs u) ≡ Err err → (answer owed xs u ≡ Err err → answer owed' (map tag xs) v ≡ Err (tag err))
        → (if b then Err (tag op) else answer owed' (map tag xs) v) ≡ Err (tag err)
    by true h rec = cc
    by false h rec = rec h

pub answer-map_ok : {O Q U V : Type 0} (owed : O → Bool) (owed' : Q → Bool) (tag : O → Q) (xs : List O) (u z : U) (v : V) → ((o : O) → owed' (tag o) ≡ owed o)
    → answer owed xs u ≡ Ok z → (answer owed' (map tag xs) v ≡ Ok v) × (u ≡ z)
unfolding answer
answer-map_ok owed owed' tag [] u z v same h = (refl, cc)
answer-map_ok {O} {Q} {U} {V} owed owed' tag (op ∷ xs) u z v same h =
    let rest = by (owed op) h (answer-map_ok owed owed' tag xs u z v same) in
    (ap (λ (b : Bool). if b then Err (tag op) else answer owed' (map tag xs) v) (same op) ∙ rest.0, rest.1)
  where
    by : (b : Bool) → (if b then Err op else answer owed xs u) ≡ Ok z → (answer owed xs u ≡ Ok z → (answer owed' (map tag xs) v ≡ Ok v) × (u ≡ z))
        → ((if b then Err (tag op) else answer owed' (map tag xs) v) ≡ Ok v) × (u ≡ z)
    by true h rec = absurd cc
    by false h rec = rec h

pub answer_tagged : {O Q V : Type 0} (owed : O → Bool) (owed' : Q → Bool) (tag : O → Q) (xs : List O) (v : V) → ((o : O) → owed' (tag o) ≡ owed o)
    → tagged tag (answer owed xs v) ≡ answer owed' (map tag xs) v
unfolding answer tagged
answer_tagged owed owed' tag [] v same = refl
answer_tagged {O} {Q} {V} owed owed' tag (op ∷ xs) v same =
    by (owed op) (answer_tagged owed owed' tag xs v same) ∙ ap (λ (b : Bool). if b then Err (tag op) else answer owed' (map tag xs) v) (sym (same op))
  where
    by : (b : Bool) → tagged tag (answer owed xs v) ≡ answer owed' (map tag xs) v
        → tagged tag (if b then Err op else answer owed xs v) ≡ (if b then Err (tag op) else answer owed' (map tag xs) v)
    by true h = refl
    by false h = h

-- ---- the first owed operation
pub answer_is_first_owed : {O V : Type 0} (owed : O → Bool) (ops : List O) (v : V)
    → answer owed ops v ≡ elim (first_owed owed ops) as (λ _. Result V O) [ None ↦ Ok v | Some op ↦ Err op ]
unfolding answer first_owed
answer_is_first_owed owed [] v = refl
answer_is_first_owed {O} {V} owed (op ∷ ops) v = by (owed op) (answer_is_first_owed owed ops v)
  where
    by : (b : Bool) → answer owed ops v ≡ elim (first_owed owed ops) as (λ _. Result V O) [ None ↦ Ok v | Some op ↦ Err op ]
        → (if b then Err op else answer owed ops v) ≡ elim (if b then Some op else first_owed owed ops) as (λ _. Result V O) [ None ↦ Ok v | Some op ↦ Err op ]
    by true h = refl
    by false h = h

pub first_owed-append_some : {O : Type 0} (owed : O → Bool) (xs ys : List O) (op : O) → first_owed owed xs ≡ Some op → first_owed owed (xs ++ ys) ≡ Some op
unfolding first_owed
first_owed-append_some owed [] ys op h = absurd cc
first_owed-append_some {O} owed (x ∷ xs) ys op h = by (owed x) h (first_owed-append_some owed xs ys op)
  where
    by : (b : Bool) → (if b then Some x else first_owed owed xs) ≡ Some op → (first_owed owed xs ≡ Some op → first_owed owed (xs ++ ys) ≡ Some op)
        → (if b then Some x else first_owed owed (xs ++ ys)) ≡ Some op
    by true h rec = h
    by false h rec = rec h

pub first_owed-append_none : {O : Type 0} (owed : O → Bool) (xs ys : List O) → first_owed owed xs ≡ None → first_owed owed (xs ++ ys) ≡ first_owed owed ys
unfolding first_owed
first_owed-append_none owed [] ys h = refl
first_owed-append_none {O} owed (x ∷ xs) ys h = by (owed x) h (first_owed-append_none owed xs ys)
  where
    by : (b : Bool) → (if b then Some x else first_owed owed xs) ≡ None → (first_owed owed xs ≡ None → first_owed owed (xs ++ ys) ≡ first_owed owed ys)
        → (if b then Some x else first_owed owed (xs ++ ys)) ≡ first_owed owed ys
    by true h rec = absurd cc
    by false h rec = rec h

pub first_owed-map : {O Q : Type 0} (owed : O → Bool) (owed' : Q → Bool) (tag : O → Q) (xs : List O) → ((o : O) → owed' (tag o) ≡ owed o)
    → first_owed owed' (map tag xs) ≡ elim (first_owed owed xs) as (λ _. Option Q) [ None ↦ None | Some op ↦ Some (tag op) ]
unfolding first_owed
first_owed-map owed owed' tag [] same = refl
first_owed-map {O} {Q} owed owed' tag (x ∷ xs) same =
    ap (λ (b : Bool). if b then Some (tag x) else first_owed owed' (map tag xs)) (same x) ∙ by (owed x) (first_owed-map owed owed' tag xs same)
  where
    by : (b : Bool) → first_owed owed' (map tag xs) ≡ elim (first_owed owed xs) as (λ _. Option Q) [ None ↦ None | Some op ↦ Some (tag op) ]
        → (if b then Some (tag x) else first_owed owed' (map tag xs))
        ≡ elim (if b then Some x else first_owed owed xs) as (λ _. Option Q) [ None ↦ None | Some op ↦ Some (tag op) ]
    by true h = refl
    by false h = h

-- ---- what an answer says of the list
pub none_of_ok : {O V : Type 0} (owed : O → Bool) (ops : List O) (v z : V) → answer owed ops v ≡ Ok z → (first_owed owed ops ≡ None) × (v ≡ z)
none_of_ok {O} {V} owed ops v z h = by (first_owed owed ops) refl
  where
    by : (o : Option O) → first_owed owed ops ≡ o → (first_owed owed ops ≡ None) × (v ≡ z)
    by None e = (
      e,
      let k : Ok v ≡ Ok z = sym (answer_is_first_owed owed ops v ∙ ap (λ f. elim f as (λ _. Result V O) [ None ↦ Ok v | Some op ↦ Err op ]) e)
          ∙ h in cc,
    )
    by (Some op) e =
        absurd (let k : Err op ≡ Ok z = sym (answer_is_first_owed owed ops v ∙ ap (λ f. elim f as (λ _. Result V O) [ None ↦ Ok v | Some op ↦ Err op ]) e)
        ∙ h in cc)

pub some_of_err : {O V : Type 0} (owed : O → Bool) (ops : List O) (v : V) (err : O) → answer owed ops v ≡ Err err → first_owed owed ops ≡ Some err
some_of_err {O} {V} owed ops v err h = by (first_owed owed ops) refl
  where
    by : (o : Option O) → first_owed owed ops ≡ o → first_owed owed ops ≡ Some err
    by None e = absurd (let k : Ok v ≡ Err err = sym (answer_is_first_owed owed ops v
        ∙ ap (λ f. elim f as (λ _. Result V O) [ None ↦ Ok v | Some op ↦ Err op ]) e) ∙ h in cc)
    by (Some op) e = e
        ∙ (let k : Err op ≡ Err err = sym (answer_is_first_owed owed ops v ∙ ap (λ f. elim f as (λ _. Result V O) [ None ↦ Ok v | Some op ↦ Err op ]) e) ∙ h in
        cc)
