-- Words, read one after the other: what was read before, and what is still read.
use Rattle.std.proofs.Common.{◌≡◌, ℕ, suc, ◌+◌, ◌-◌, ◌<◌, ◌≤◌, List, [], ◌∷◌, ◌++◌, length, take, set, Result, Ok, Err, refl, sym, ap, append_assoc, arith}
use Rattle.std.proofs.lemmas.List.{append-nil, take_more_set}
use Rattle.text_lines.specs.Readings.{◌>>=◌, numbers_of}

-- what was read before, and what is still read
unfoldable pub after_front : {X E : Type 0} → List X → Result (List X) E → Result (List X) E
after_front front read = read >>= λ xs. Ok (front ++ xs)

pub after_none : {X E : Type 0} (read : Result (List X) E) → after_front [] read ≡ read
unfolding after_front
after_none (Ok xs) = refl
after_none (Err e) = refl

pub after_more : {X E : Type 0} (front : List X) (x : X) (read : Result (List X) E)
    → after_front front (read >>= λ xs. Ok (x ∷ xs)) ≡ after_front (front ++ x ∷ []) read
unfolding after_front
after_more front x (Ok xs) = ap Ok (simp append_assoc)
after_more front x (Err e) = refl

module _ {A K : Type 0} (read : List ℕ → Result A K) (short long : K) where
  pub number_more : (row : List A) (n j : ℕ) (left : List (List ℕ)) (word : List ℕ) (more : List (List ℕ)) (x : A) → j < n → j < length row
      → left ≡ word ∷ more → read word ≡ Ok x
      → after_front (take (j + 1) (set row j x)) (numbers_of read short long (n - (j + 1)) more)
      ≡ after_front (take j row) (numbers_of read short long (n - j) left)
  unfolding numbers_of
  number_more row n j left word more x lt in_row e is =
      let k : n - j ≡ suc (n - (j + 1)) = omega arith in
      rw (take_more_set row j x in_row, e, k, is) (sym (after_more (take j row) x (numbers_of read short long (n - (j + 1)) more)))

  pub number_fault : (front : List A) (n j : ℕ) (left : List (List ℕ)) (word : List ℕ) (more : List (List ℕ)) (kind : K) → j < n → left ≡ word ∷ more
      → read word ≡ Err kind
      → after_front front (numbers_of read short long (n - j) left) ≡ Err kind
  unfolding numbers_of after_front
  number_fault front n j left word more kind lt e is =
      let k : n - j ≡ suc (n - (j + 1)) = omega arith in
      rw (e, k, is) refl

  pub number_short : (front : List A) (n j : ℕ) (left : List (List ℕ)) → j < n → left ≡ []
      → after_front front (numbers_of read short long (n - j) left) ≡ Err short
  unfolding numbers_of after_front
  number_short front n j left lt e =
      let k : n - j ≡ suc (n - (j + 1)) = omega arith in
      rw (e, k) refl

  pub number_long : (front : List A) (n j : ℕ) (left : List (List ℕ)) (word : List ℕ) (more : List (List ℕ)) → n ≤ j → left ≡ word ∷ more
      → after_front front (numbers_of read short long (n - j) left) ≡ Err long
  unfolding numbers_of after_front
  number_long front n j left word more le e =
      let k : n - j ≡ 0 = omega arith in
      rw (e, k) refl

  pub number_end : (front : List A) (n j : ℕ) (left : List (List ℕ)) → n ≤ j → left ≡ []
      → after_front front (numbers_of read short long (n - j) left) ≡ Ok front
  unfolding numbers_of after_front
  number_end front n j left le e =
      let k : n - j ≡ 0 = omega arith in
      rw (e, k) (ap Ok (append-nil front))

pub ruleset number_steps = (after_none, number_more, number_fault, number_short, number_long, number_end)
