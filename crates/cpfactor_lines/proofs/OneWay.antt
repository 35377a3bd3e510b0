-- The reading of words is one value.
use Rattle.std.proofs.Common.{◌≡◌, ℕ, ◌⊎◌, inl, inr, List, Result, Ok, Err, refl}
use Rattle.cpfactor_lines.specs.Commands.{Request, IsReadOneWay, request_in}

-- a result is the one value or the other
some_result : (r : Result Request ℕ) → ((request : Request) × (r ≡ Ok request)) ⊎ ((position : ℕ) × (r ≡ Err position))
some_result (Ok request) = inl (request, refl)
some_result (Err position) = inr (position, refl)

pub read_one_way : (words : List (List ℕ)) → IsReadOneWay words
read_one_way words = record {
  some = some_result (request_in words);
  not_both = λ request position line usage. cc;
  one_request = λ r s line other. cc;
  one_position = λ p q usage other. cc;
}
