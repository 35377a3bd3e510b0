-- What contracts see of a table and of its seats.
--
--     ShownTable             a table: which one it is, and the word that it was made at
--     Seat                   a seat: its table, the least code that it offered (top if none), the last word that it was
--                            told, whether it is the first seat, and how many seats were split from it and not joined yet
--     first_seat             the seat of a new table
--     another_seat seat      a seat that is split off
--     after_offer            a seat after an offer that was answered by the word
--     joined_seat            a seat after another was joined into it
--     IsSameSeat old new     the same seat, whatever it offered and was told
use Rattle.std.specs.Prelude.{◌≡◌, ℕ, ◌+◌, ◌-◌, min, Bool, true, false}
pub use Rattle.atomic_table.specs.Seated.{TableId}
pub use Rattle.bound_word.specs.Falling.{greatest_word}

pub record ShownTable : Type 0 where
  pub id : TableId
  pub start : ℕ

pub record Seat : Type 0 where
  pub table : TableId
  pub given : ℕ
  pub told : ℕ
  pub first : Bool
  pub out : ℕ

abbrev pub first_seat : ShownTable → Seat
first_seat t = record { table = t.id; given = greatest_word; told = t.start; first = true; out = 0 }

abbrev pub another_seat : Seat → Seat
another_seat s = record { table = s.table; given = greatest_word; told = s.told; first = false; out = 0 }

abbrev pub with_one_out : Seat → Seat
with_one_out s = record { table = s.table; given = s.given; told = s.told; first = s.first; out = s.out + 1 }

abbrev pub after_offer : Seat → ℕ → ℕ → Seat
after_offer s code word =
    record { table = s.table; given = min s.given code; told = word; first = s.first; out = s.out }

abbrev pub joined_seat : Seat → Seat → Seat
joined_seat s t =
    record { table = s.table; given = min s.given t.given; told = min s.told t.told; first = s.first; out = s.out - 1 }

pub record IsSameSeat (old new : Seat) : Type 0 where
  pub table : new.table ≡ old.table
  pub first : new.first ≡ old.first
  pub out : new.out ≡ old.out
