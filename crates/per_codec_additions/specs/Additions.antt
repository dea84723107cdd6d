-- Extension additions by their bits (X.691 19.7 to 19.9).
use Rattle.std.specs.Prelude.{Bool, List, map, Option, option_map}
use Rattle.asn1_model.specs.Form.{exactly}
use Rattle.asn1_model.specs.Per

-- Each addition that is present, as an open type.
abbrev pub as_open_types : Bool → List (Option (List Bool)) → List (Option Per.BitForm)
as_open_types al slots = map (λ o. option_map (λ w. Per.open_type al (exactly w)) o) slots
