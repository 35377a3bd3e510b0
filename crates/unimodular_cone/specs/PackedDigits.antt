-- How a path's digits are kept: four words of 64 digits, the first digit most significant, and 0 past the end.
--
--     binary k digits       the number that the first k digits write, with 0 past the end
--     packed m digits       the first m words of the digits
--     unpacked k word       the k digits of a word
--     unpacked_words words  the digits of all words
--     digits_of, fields_of  from the fields to the path, and back
--     IsPacked p            at most 200 digits, and the words are those of the digits
--     fields_back p         then the way from the fields to the path and back gives the fields
use Rattle.std.specs.Prelude.{ℕ, zero, suc, ◌+◌, ◌%◌, ◌^◌, ◌≤◌, ◌≡◌, nat_le, cond, List, [], ◌∷◌, ◌++◌, Bool, length, take, drop}
use Rattle.unimodular_cone.specs.declared.path.Path.TheInside.{Inside}

unfoldable pub binary : ℕ → List Bool → ℕ
binary zero digits = 0
binary (suc k) [] = 0
binary (suc k) (digit ∷ digits) = cond digit (2 ^ k) 0 + binary k digits

unfoldable pub packed : ℕ → List Bool → List ℕ
packed zero digits = []
packed (suc m) digits = binary 64 digits ∷ packed m (drop 64 digits)

unfoldable pub unpacked : ℕ → ℕ → List Bool
unpacked zero word = []
unpacked (suc k) word = nat_le (2 ^ k) word ∷ unpacked k (word % 2 ^ k)

unfoldable pub unpacked_words : List ℕ → List Bool
unpacked_words [] = []
unpacked_words (word ∷ words) = unpacked 64 word ++ unpacked_words words

abbrev pub digits_of : Inside → List Bool
digits_of p = take p.len (unpacked_words p.words)

abbrev pub fields_of : List Bool → Inside
fields_of digits = record { words = packed 4 digits; len = length digits }

-- at most 200 digits, and 0 past the end
pub record IsPacked (p : Inside) : Type 0 where
  pub room : p.len ≤ 200
  pub packs : fields_of (digits_of p) ≡ p

pub fields_back : (p : Inside) → IsPacked p → fields_of (digits_of p) ≡ p
fields_back p h = h.packs
