-- Units as forms, each of its field-list, and units under a size constraint (X.691 11.9, 16, 17 and 30).
use Rattle.std.specs.Prelude.{Bool, List, length, map, flat_map}
use Rattle.asn1_model.specs.Form.{exactly}
use Rattle.asn1_model.specs.Numbers.{is_count_within}
use Rattle.asn1_model.specs.Schema.{Size}
use Rattle.asn1_model.specs.Per

-- Field-lists in sequence.
abbrev pub together : List (List Bool) → List Bool
together ts = flat_map (λ t. t) ts

-- Units as forms: each has exactly its field-list.
abbrev pub unit_forms : List (List Bool) → List Per.BitForm
unit_forms ts = map (λ t. exactly t) ts

-- Units under a size constraint, and whether padding precedes them if their number is encoded by the bounds of the
-- root.
abbrev pub of_size : Bool → Size → Bool → List Per.BitForm → Per.BitForm
of_size al z has_padding us = Per.with_extension_bit z.extensible (is_count_within z.counts (length us))
    (Per.sized_root al z.counts z.counts.high (λ _. has_padding) us) (Per.counted al us)
