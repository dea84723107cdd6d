-- Rows: the encodings of the records of some values, worked out by hand from the rules and computed here from the
-- definitions.
use Rattle.std.specs.Prelude.{◌≡◌, ℕ, ℤ, pos, negsuc, Bool, true, false, List, [], ◌∷◌, ◌++◌, Some, None}
use Rattle.std.specs.Prelude.{option_and_then, replicate}
use Rattle.asn1_model.specs.Types.{from_to, any_number, any_count, any_size, sizes, sizes_or_more, context}
use Rattle.asn1_schema_laws.specs.Records as call
use Rattle.per_codec_packing.specs.FieldLists.{padding, as_field_list}
use Rattle.per_codec_encoder.specs.Steps.{components, members, bag_members, run, runs}
use Rattle.per_codec_encoder.specs.Ties.{octets_of}

-- what a row says: the octets of the records, starting from nothing
abbrev pub Packs : Bool → List call.Record → List ℕ → Type 0
Packs al rs w = option_and_then octets_of (runs al rs ([], [])) ≡ Some w

-- ---- records

-- INTEGER; INTEGER (0..255), and with an extension marker; INTEGER (0..65535)
abbrev pub whole : ℤ → call.Record
whole v = call.whole (from_to None None false) any_number v

abbrev pub octet : ℕ → call.Record
octet n = call.whole (from_to (Some (pos 0)) (Some (pos 255)) false) any_number (pos n)

abbrev pub extensible_octet : ℕ → call.Record
extensible_octet n = call.whole (from_to (Some (pos 0)) (Some (pos 255)) true) any_number (pos n)

abbrev pub word : ℕ → call.Record
word n = call.whole (from_to (Some (pos 0)) (Some (pos 65535)) false) any_number (pos n)

-- OCTET STRING (SIZE (3))
abbrev pub three_octets : List ℕ → call.Record
three_octets os = call.octets (sizes 3 3) any_count os

-- SEQUENCE {flag BOOLEAN, fixed SEQUENCE (SIZE (2)) OF OCTET STRING (SIZE (3)), ranged SEQUENCE (SIZE (1..2)) OF OCTET
-- STRING (SIZE (3)), trailer INTEGER (0..255)}
abbrev pub two_lists : List call.Record
two_lists =
    call.sequence_begins false 0 ∷ call.flag true
    ∷ call.list_begins (sizes 2 2) any_count 2 ∷ call.further true ∷ three_octets
    (1 ∷ 2 ∷ 3 ∷ []) ∷ call.further true ∷ three_octets (4 ∷ 5 ∷ 6 ∷ []) ∷ call.further false ∷ call.ends
    ∷ call.list_begins (sizes 1 2) any_count 1 ∷ call.further true ∷ three_octets
    (7 ∷ 8 ∷ 9 ∷ []) ∷ call.further false ∷ call.ends
    ∷ octet 0xAB ∷ call.ends ∷ []

-- SEQUENCE {a INTEGER (0..65535) OPTIONAL, b BOOLEAN OPTIONAL} with only a
abbrev pub optional_word : List call.Record
optional_word = call.sequence_begins false 2 ∷ call.presence_bit true ∷ word 0x1234 ∷ call.presence_bit false
    ∷ call.ends ∷ []

-- SEQUENCE {a BOOLEAN, ..., b INTEGER (0..255) OPTIONAL}, with b or without
abbrev pub with_addition : List call.Record
with_addition = call.sequence_begins true 0 ∷ call.flag true ∷ call.additions_begin 1 ∷ call.addition true ∷ octet 7
    ∷ call.addition_ends ∷ call.ends ∷ []

abbrev pub without_addition : List call.Record
without_addition = call.sequence_begins true 0 ∷ call.flag true ∷ call.additions_begin 1 ∷ call.addition false
    ∷ call.ends ∷ []

-- SEQUENCE {a BOOLEAN, ..., [[x INTEGER (0..255) OPTIONAL]]}
abbrev pub with_group : List call.Record
with_group = call.sequence_begins true 0 ∷ call.flag true ∷ call.additions_begin 1 ∷ call.addition true
    ∷ call.group_begins 1 ∷ call.presence_bit true ∷ octet 7 ∷ call.ends ∷ call.addition_ends ∷ call.ends ∷ []

-- SET OF INTEGER
abbrev pub bag_of_three : List call.Record
bag_of_three = call.bag_begins any_size any_count 3 ∷ call.further true ∷ whole (pos 256) ∷ call.further true ∷ whole
    (negsuc 0) ∷ call.further true ∷ whole (pos 1) ∷ call.further false ∷ call.ends ∷ []

-- SEQUENCE {a BOOLEAN, b SET (SIZE (1..2)) OF SEQUENCE {c BOOLEAN, d INTEGER (0..65535)}}: the elements change order,
-- and each is padded at its own position
abbrev pub bag_behind_bit : List call.Record
bag_behind_bit =
    call.sequence_begins false 0 ∷ call.flag true ∷ call.bag_begins (sizes 1 2) any_count 2
    ∷ call.further true ∷ call.sequence_begins false 0 ∷ call.flag true ∷ word 1 ∷ call.ends
    ∷ call.further true ∷ call.sequence_begins false 0 ∷ call.flag false ∷ word 2 ∷ call.ends
    ∷ call.further false ∷ call.ends ∷ call.ends ∷ []

-- CHOICE {a [0] INTEGER, b [1] INTEGER, ..., c [2] INTEGER}: c 333, and b 1
abbrev pub added_alternative : List call.Record
added_alternative = call.choice_begins (context 0 ∷ context 1 ∷ []) true (context 2 ∷ []) true 0 ∷ whole
    (pos 333) ∷ call.ends ∷ []

abbrev pub root_alternative : List call.Record
root_alternative = call.choice_begins (context 0 ∷ context 1 ∷ []) true (context 2 ∷ []) false 1 ∷ whole
    (pos 1) ∷ call.ends ∷ []

-- ---- rows

-- unaligned and aligned octets
abbrev pub OctetRows : Type 0
OctetRows =
    Packs false (call.nil ∷ []) (0x00 ∷ [])
    × Packs false (extensible_octet 7 ∷ []) (0x03 ∷ 0x80 ∷ [])
    × Packs false (extensible_octet 300 ∷ []) (0x81 ∷ 0x00 ∷ 0x96 ∷ 0x00 ∷ [])
    × Packs true (extensible_octet 7 ∷ []) (0x00 ∷ 0x07 ∷ [])
    × Packs true (extensible_octet 300 ∷ []) (0x80 ∷ 0x02 ∷ 0x01 ∷ 0x2C ∷ [])
    × Packs false two_lists (0x80 ∷ 0x81 ∷ 0x01 ∷ 0x82 ∷ 0x02 ∷ 0x83 ∷ 0x01 ∷ 0xC2 ∷ 0x02 ∷ 0x6A ∷ 0xC0 ∷ [])
    × Packs true two_lists (0x80 ∷ 0x01 ∷ 0x02 ∷ 0x03 ∷ 0x04 ∷ 0x05 ∷ 0x06 ∷ 0x00 ∷ 0x07 ∷ 0x08 ∷ 0x09 ∷ 0xAB ∷ [])
    × Packs false optional_word (0x84 ∷ 0x8D ∷ 0x00 ∷ [])
    × Packs true optional_word (0x80 ∷ 0x12 ∷ 0x34 ∷ [])
    × Packs false with_addition (0xC0 ∷ 0x40 ∷ 0x41 ∷ 0xC0 ∷ [])
    × Packs true with_addition (0xC0 ∷ 0x40 ∷ 0x01 ∷ 0x07 ∷ [])
    × Packs false without_addition (0x40 ∷ [])
    × Packs false with_group (0xC0 ∷ 0x40 ∷ 0xA0 ∷ 0xE0 ∷ 0x00 ∷ [])
    × Packs false bag_of_three (0x03 ∷ 0x01 ∷ 0x01 ∷ 0x01 ∷ 0xFF ∷ 0x02 ∷ 0x01 ∷ 0x00 ∷ [])
    × Packs false bag_behind_bit (0xC0 ∷ 0x00 ∷ 0x50 ∷ 0x00 ∷ 0x10 ∷ [])
    × Packs true bag_behind_bit (0xC0 ∷ 0x00 ∷ 0x02 ∷ 0x80 ∷ 0x00 ∷ 0x01 ∷ [])
    × Packs false added_alternative (0x80 ∷ 0x03 ∷ 0x02 ∷ 0x01 ∷ 0x4D ∷ [])
    × Packs false root_alternative (0x40 ∷ 0x40 ∷ 0x40 ∷ [])
    × Packs true root_alternative (0x40 ∷ 0x01 ∷ 0x01 ∷ [])

-- the bits of a length determinant, padded before it if it follows a bit
abbrev pub closing_of_one : List Bool
closing_of_one = replicate 7 false ++ true ∷ []

-- states after one record: length determinants of fragments, sizes, and refusals
abbrev pub StateRows : Type 0
StateRows =
    (run false (call.list_begins any_size any_count 3) ([], []) ≡ Some
    (as_field_list (replicate 6 false ++ replicate 2 true), members 3 None ∷ []))
    × (run false (call.list_begins any_size any_count 16385) ([], []) ≡ Some
    (as_field_list (true ∷ true ∷ replicate 5 false ++ true ∷ []), members 16384 (Some ([], 1)) ∷ []))
    × (run false (call.list_begins any_size any_count 81925) ([], []) ≡ Some (
      as_field_list (true ∷ true ∷ replicate 3 false ++ true ∷ false ∷ false ∷ []),
      members 65536
          (Some (1 ∷ [], 16389)) ∷ [],
    ))
    × (run false (call.further true) (as_field_list (true ∷ []), members 0 (Some ([], 1)) ∷ []) ≡ Some
    (as_field_list (true ∷ closing_of_one), members 0 None ∷ []))
    × (run true (call.further true) (as_field_list (true ∷ []), members 0 (Some ([], 1)) ∷ []) ≡ Some
    (as_field_list (true ∷ replicate 7 false ++ closing_of_one), members 0 None ∷ []))
    × (run true (call.further false) (as_field_list (true ∷ []), members 0 (Some ([], 0)) ∷ []) ≡ Some
    (as_field_list (true ∷ replicate 15 false), members 0 None ∷ []))
    × (run false (call.further false) ([], members 1 None ∷ []) ≡ None)
    × (run false (call.list_begins (sizes 1 2) any_count 2) ([], []) ≡ Some
    (as_field_list (true ∷ []), members 2 None ∷ []))
    × (run false (call.list_begins (sizes 1 2) any_count 3) ([], []) ≡ None)
    × (run false (call.list_begins (sizes_or_more 1 2) any_count 2) ([], []) ≡ Some
    (as_field_list (false ∷ true ∷ []), members 2 None ∷ []))
    × (run false (call.list_begins (sizes_or_more 1 2) any_count 3) ([], []) ≡ Some
    (as_field_list (true ∷ replicate 6 false ++ replicate 2 true), members 3 None ∷ []))
    × (run false (call.bag_begins (sizes 1 2) any_count 3) ([], []) ≡ None)
    × (run true (word 258) (as_field_list (true ∷ []), []) ≡ Some
    (as_field_list (true ∷ replicate 7 false ++ closing_of_one ++ replicate 6 false ++ true ∷ false ∷ []), []))
    × (run true (word 258) ([], bag_members any_size any_count 0 None [] ∷ []) ≡ Some (
      padding ∷ as_field_list (closing_of_one ++ replicate 6 false ++ true ∷ false ∷ []),
      bag_members any_size any_count 0
          None [] ∷ [],
    ))
    × (run false (call.presence_bit true) ([], components false 0 [] [] ∷ []) ≡ None)
    × (run false (call.additions_begin 0) ([], components false 0 [] [] ∷ []) ≡ None)
    × (run false (call.choice_begins (context 0 ∷ []) false (context 1 ∷ []) true 0) ([], []) ≡ None)
    × (run false call.is_default ([], []) ≡ None)
    × (run false call.is_empty ([], []) ≡ None)
    × (run false call.ends ([], []) ≡ None)
