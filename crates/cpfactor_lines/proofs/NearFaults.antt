-- No command has so many words that its first fault could lie far off.
use Rattle.std.proofs.Common.{◌≡◌, ℕ, ◌+◌, ◌*◌, ◌≤◌, Bool, true, ◌&&◌, List, [], ◌∷◌, length, leb, Option, Some, None, Err, refl, arith, inl, inr}
use Rattle.std.proofs.lemmas.Bool.{and_parts, cases_Bool, leb-true}
use Rattle.std.specs.Prelude.{find}
use Rattle.std.specs.List.{list_all}
use Rattle.std.specs.Str.{bytes_eq}
use Rattle.cpfactor_lines.specs.Arguments.{is_option, plain_argument, fault_place}
use Rattle.cpfactor_lines.specs.Commands.{Request, CommandRow, commands, request_or_fault, read_as, request_in, IsUsageAt}
use Rattle.cpfactor_lines.proofs.FaultPlaces.{fault_place-le}

-- what is found has what all have
find-list_all : {X : Type 0} (p q : X → Bool) (xs : List X) (x : X) → list_all q xs ≡ true → find p xs ≡ Some x → q x ≡ true
find-list_all p q [] x all found = absurd (cc)
find-list_all p q (y ∷ ys) x all found = elim (cases_Bool (p y)) [
  | inl here ↦
      let e : Some y ≡ Some x = rw here at found in
      let same : y ≡ x = cc in
      rw (← same) (and_parts _ _ all).0
  | inr no' ↦
      let later : find p ys ≡ Some x = rw no' at found in
      find-list_all p q ys x (and_parts _ _ all).1 later
]

-- its options are named as options, and its words are few
abbrev pub is_short : CommandRow → Bool
is_short row = list_all (λ o. is_option o.name) row.options && leb (length row.plain + 2 * length row.options) 30

pub commands_are_short : list_all is_short commands ≡ true
unfolding is_option
commands_are_short = refl

near_fault : (fault : Option ℕ) (request : Request) (position : ℕ) → ((place : ℕ) → fault ≡ Some place → place ≤ 30)
    → request_or_fault fault request ≡ Err position → position ≤ 32
near_fault None request position near e = absurd (cc)
near_fault (Some place) request position near e = let same : place + 2 ≡ position = cc in omega (arith, same, near place refl)

near_row : (row : CommandRow) (arguments : List (List ℕ)) (position : ℕ) → is_short row ≡ true → read_as (Some row) arguments ≡ Err position → position ≤ 32
unfolding read_as
near_row row arguments position short e =
    let parts = and_parts (list_all (λ o. is_option o.name) row.options) (leb (length row.plain + 2 * length row.options) 30) short in
    let few = leb-true (length row.plain + 2 * length row.options) 30 parts.1 in
    near_fault (fault_place row.plain row.options arguments) (row.request (plain_argument row.options arguments) arguments) position
    (λ place fault. omega (arith, few, fault_place-le row.plain row.options arguments place parts.0 fault)) e

pub usage-le : (words : List (List ℕ)) (position : ℕ) → IsUsageAt words position → position ≤ 32
unfolding request_in read_as
usage-le [] position e = let same : 1 ≡ position = cc in omega arith
usage-le (name ∷ arguments) position e = by_row (find (λ row. bytes_eq name row.name) commands) refl e
  where
    by_row : (found : Option CommandRow) → find (λ row. bytes_eq name row.name) commands ≡ found → read_as found arguments ≡ Err position → position ≤ 32
    by_row None is fault = let same : 1 ≡ position = cc in omega arith
    by_row (Some row) is fault = near_row row arguments position (find-list_all (λ r. bytes_eq name r.name) is_short commands row commands_are_short is) fault
