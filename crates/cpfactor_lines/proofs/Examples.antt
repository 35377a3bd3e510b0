-- Command lines, as the definitions read them.
use Rattle.std.proofs.Common.{◌≡◌, [], ◌∷◌, Ok, Err, refl}
use Rattle.std.specs.Prelude.{codes}
use Rattle.cpfactor_lines.specs.Arguments.{is_option, has_form, wanted, is_plain, plain_before, plain_argument, option_value, can_be_read, first_unread}
use Rattle.cpfactor_lines.specs.Arguments.{is_complete, fault_place}
use Rattle.cpfactor_lines.specs.Commands.{Minimum, Copositive, Sample, request_in, read_as}

-- the request of a good one
good : (request_in (codes "minimum" ∷ codes "a" ∷ []) ≡ Ok (Minimum (codes "a") 60 1))
    × (request_in (codes "minimum" ∷ codes "a" ∷ codes "--depth" ∷ codes "200" ∷ []) ≡ Ok (Minimum (codes "a") 200 1))
    × (request_in (codes "copositive" ∷ codes "--depth" ∷ codes "0" ∷ codes "-" ∷ []) ≡ Ok (Copositive (codes "-") 0 1))
    × (request_in (codes "copositive" ∷ codes "a" ∷ codes "--workers" ∷ codes "16" ∷ codes "--depth" ∷ codes "5" ∷ []) ≡ Ok (Copositive (codes "a") 5 16))
    × (request_in (codes "sample" ∷ codes "--workers" ∷ codes "4" ∷ codes "6" ∷ codes "100" ∷ codes "0" ∷ []) ≡ Ok (Sample 6 100 0 4))
unfolding request_in read_as fault_place first_unread is_complete can_be_read is_plain wanted plain_before plain_argument has_form option_value is_option
good = (refl, refl, refl, refl, refl)

-- the position of the first fault
faulty : (request_in (codes "minimum" ∷ codes "a" ∷ codes "--depth" ∷ codes "201" ∷ []) ≡ Err 4)
    × (request_in (codes "minimum" ∷ codes "a" ∷ codes "--depth" ∷ codes "01" ∷ []) ≡ Err 4)
    × (request_in (codes "minimum" ∷ codes "a" ∷ codes "--depth" ∷ []) ≡ Err 4)
    × (request_in (codes "minimum" ∷ codes "--depth" ∷ codes "5" ∷ []) ≡ Err 4)
    × (request_in (codes "minimum" ∷ codes "a" ∷ codes "--depth" ∷ codes "5" ∷ codes "--depth" ∷ codes "6" ∷ []) ≡ Err 5)
    × (request_in (codes "minimum" ∷ codes "a" ∷ codes "--trace" ∷ []) ≡ Err 3)
    × (request_in (codes "minimum" ∷ codes "a" ∷ codes "--depth" ∷ codes "--depth" ∷ []) ≡ Err 4)
    × (request_in (codes "copositive" ∷ codes "a" ∷ codes "b" ∷ []) ≡ Err 3)
    × (request_in (codes "copositive" ∷ []) ≡ Err 2)
    × (request_in (codes "minimum" ∷ codes "a" ∷ codes "--workers" ∷ codes "0" ∷ []) ≡ Err 4)
    × (request_in (codes "sample" ∷ codes "--workers" ∷ codes "17" ∷ codes "6" ∷ codes "100" ∷ codes "0" ∷ []) ≡ Err 3)
    × (request_in (codes "check" ∷ codes "a" ∷ codes "b" ∷ codes "--workers" ∷ codes "1" ∷ []) ≡ Err 4)
unfolding request_in read_as fault_place first_unread is_complete can_be_read is_plain wanted plain_before plain_argument has_form option_value is_option
faulty = (refl, refl, refl, refl, refl, refl, refl, refl, refl, refl, refl, refl)
