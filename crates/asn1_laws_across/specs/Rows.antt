-- Rows: what a relay does with octets.
use Rattle.std.specs.Prelude.{[], ◌∷◌, Some, None}
use Rattle.asn1_model.specs.Schema.{boolean, null}
use Rattle.asn1_model.specs.Rules.{uper, aper, oer, coer}
use Rattle.asn1_model.specs.Types.{whole, small, one_or_two}
use Rattle.asn1_laws_across.specs.Relayed.{no_target, empty_message, none_within_limit, Relays}

abbrev pub RelayRows : Type 0
RelayRows =
    -- BOOLEAN: the third octet is no BOOLEAN, and the relay waits; at the start it stops the relay once more octets
    -- are there than a message may have
    Relays coer uper boolean 1 (0xFF ∷ 0x00 ∷ 0x05 ∷ []) 2 (0x80 ∷ 0x00 ∷ []) (0x05 ∷ []) None
    × Relays coer uper boolean 1 (0x05 ∷ []) 0 [] (0x05 ∷ []) None
    × Relays coer uper boolean 1 (0x05 ∷ 0xFF ∷ []) 0 [] (0x05 ∷ 0xFF ∷ []) (Some none_within_limit)
    -- INTEGER (-5..5)
    × Relays coer uper small 1 (0xFC ∷ 0x05 ∷ []) 2 (0x10 ∷ 0xA0 ∷ []) [] None
    -- NULL: one octet in the packed rules, none in the octet rules
    × Relays uper aper null 1 (0x00 ∷ 0x00 ∷ []) 2 (0x00 ∷ 0x00 ∷ []) [] None
    × Relays oer uper null 1 [] 0 [] [] None
    × Relays oer uper null 1 (0x00 ∷ []) 0 [] (0x00 ∷ []) (Some empty_message)
    × Relays uper oer null 1 (0x00 ∷ []) 0 [] (0x00 ∷ []) (Some empty_message)
    -- SEQUENCE (SIZE (1..2)) OF BOOLEAN, without elements
    × Relays coer uper one_or_two 4 (0x01 ∷ 0x00 ∷ []) 0 [] (0x01 ∷ 0x00 ∷ []) (Some no_target)
    -- INTEGER: a missing octet, and a redundant octet
    × Relays oer uper whole 2 (0x01 ∷ 0x07 ∷ 0x02 ∷ []) 1 (0x01 ∷ 0x07 ∷ []) (0x02 ∷ []) None
    × Relays oer uper whole 2 (0x01 ∷ 0x07 ∷ 0x03 ∷ 0x01 ∷ 0x02 ∷ 0x03 ∷ []) 1
    (0x01 ∷ 0x07 ∷ []) (0x03 ∷ 0x01 ∷ 0x02 ∷ 0x03 ∷ []) (Some none_within_limit)
