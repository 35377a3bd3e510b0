-- Lines, read one after the other: what was read before, and what is still read.
use Rattle.std.proofs.Common.{◌≡◌, ℕ, suc, ◌+◌, ◌-◌, ◌<◌, ◌≤◌, List, [], ◌∷◌, ◌++◌, length, Result, Ok, Err, refl, sym, ap, ◌∙◌, append_assoc, arith}
use Rattle.std.proofs.lemmas.List.{append-nil}
use Rattle.text_lines.specs.Lines.{TextLine}
use Rattle.text_lines.specs.Readings.{◌>>=◌, Many, first_line, many}

-- what was read before, and what is still read
unfoldable pub after_many : {X F : Type 0} → List X → Result (Many X) F → Result (Many X) F
after_many front read = read >>= λ m. Ok (record { items = front ++ m.items; rest = m.rest })

-- a loop that has read so many of n lines, from the old ones on
pub record IsReading {X F : Type 0} (read : TextLine
    → Result X F) (missing : F) (n index : ℕ) (front : List X) (old left : List TextLine) (old_end left_end : ℕ)
    : Type 0 where
  pub so_far : after_many front (many read missing (n - index) left) ≡ many read missing n old
  pub end : left_end ≡ old_end

pub many_none : {X F : Type 0} (front : List X) (read : Result (Many X) F) → front ≡ [] → after_many front read ≡ read
unfolding after_many
many_none front (Ok m) e = rw e refl
many_none front (Err e) f = refl

many_push : {X F : Type 0} (front : List X) (x : X) (read : Result (Many X) F)
    → after_many front (read >>= λ m. Ok (record { items = x ∷ m.items; rest = m.rest })) ≡ after_many (front ++ x ∷ []) read
unfolding after_many
many_push {X} front x (Ok m) = ap (λ (items : List X). Ok (record { items = items; rest = m.rest })) (sym (append_assoc front (x ∷ []) m.items))
many_push front x (Err e) = refl

pub many_more : {X F : Type 0} (read : TextLine → Result X F) (missing : F) (front new : List X) (k i : ℕ) (left more : List TextLine) (x : X) → i < k
    → first_line read missing left ≡ Ok (x, more) → new ≡ front ++ x ∷ []
    → after_many new (many read missing (k - (i + 1)) more) ≡ after_many front (many read missing (k - i) left)
unfolding many
many_more read missing front new k i left more x lt is f =
    let n : k - i ≡ suc (k - (i + 1)) = omega arith in
    rw (n, is, f) (sym (many_push front x (many read missing (k - (i + 1)) more)))

pub many_fault : {X F : Type 0} (read : TextLine → Result X F) (missing : F) (front : List X) (k i : ℕ) (left : List TextLine) (fault : F) → i < k
    → first_line read missing left ≡ Err fault
    → after_many front (many read missing (k - i) left) ≡ Err fault
unfolding many after_many
many_fault read missing front k i left fault lt is =
    let n : k - i ≡ suc (k - (i + 1)) = omega arith in
    rw (n, is) refl

pub many_end : {X F : Type 0} (read : TextLine → Result X F) (missing : F) (front : List X) (k i : ℕ) (left : List TextLine) → k ≤ i
    → after_many front (many read missing (k - i) left) ≡ Ok (record { items = front; rest = left })
unfolding many after_many
many_end {X} read missing front k i left le =
    let n : k - i ≡ 0 = omega arith in
    rw n (ap (λ (items : List X). Ok (record { items = items; rest = left })) (append-nil front))
