-- Rows: octets that are an encoding of a value, many of which are not the canonical one, and octets that are not.
use Rattle.std.specs.Prelude.{◌≡◌, ℕ, ◌+◌, ◌^◌, pos, Bool, true, false, List, [], ◌∷◌, ◌++◌, map, replicate, Some, None}
use Rattle.asn1_model.specs.Value.{Value, nothing, item, text, arcs, fields, chosen, end, absent, present}
use Rattle.asn1_model.specs.Schema.{visible, ia5, numeric, utf8, Schema, boolean, null, integer, enumerated}
use Rattle.asn1_model.specs.Schema.{object_identifier, sequence_of, no_alternative}
use Rattle.asn1_model.specs.Form.{written, Reads, covered_by, arranged, exactly}
use Rattle.asn1_model.specs.Per
use Rattle.asn1_model.specs.Oer
use Rattle.asn1_model.specs.Rules.{Rules, lenient, strict_per, strict_oer, IsEncoding, uper, aper, uper_strict}
use Rattle.asn1_model.specs.Rules.{aper_strict, oer, coer}
use Rattle.asn1_model.specs.Types.{minus, from_to, any_size, sizes, whole, between, small, bit_text, string, list}
use Rattle.asn1_model.specs.Types.{bag_of, context, or_tagged, one_of, yes, no, num, below, roots, bits_of, set_bits}
use Rattle.asn1_model.specs.Types.{octet_number, extensible_number, wide_number, from_zero, colour_old, colour_new}
use Rattle.asn1_model.specs.Types.{any_bits, any_octets, extensible_octets, flagged, defaulted, one_or_two, many_nulls}
use Rattle.asn1_model.specs.Types.{only_tagged, extensible_choice, new_type, old_type, required_new, default_added}
use Rattle.asn1_model.specs.Types.{null_added, two_added, default_old, grouped, yes_and, yes_with, yes_without}
use Rattle.asn1_model.specs.Types.{yes_alone, list_of, bag_with, null_list, octets, foo}

abbrev pub IsNoEncoding : Rules → Schema → Value → List ℕ → Type 0
IsNoEncoding r s v w = IsEncoding r s v w → ⊥

abbrev pub ReadingRows : Type 0
ReadingRows =
    IsEncoding uper small (below 4) (0x17 ∷ [])
    × IsEncoding uper (flagged small) (roots (present no (present (num 5) end))) (0x57 ∷ [])
    × IsEncoding aper (flagged octet_number) (yes_and (num 9)) (0xAA ∷ 0x09 ∷ [])
    × IsEncoding oer boolean yes (0x05 ∷ [])
    × IsEncoding oer whole (num 0) (0x02 ∷ 0x00 ∷ 0x00 ∷ [])
    × IsEncoding uper whole (num 7) (0x02 ∷ 0x00 ∷ 0x07 ∷ [])
    × IsEncoding oer whole (num 7) (0xFF ∷ replicate 126 0x00 ++ 0x01 ∷ 0x07 ∷ [])
    × IsEncoding aper wide_number (num 256) (0x40 ∷ 0x00 ∷ 0x00 ∷ [])
    × IsEncoding uper extensible_number (num 7) (0x80 ∷ 0x83 ∷ 0x80 ∷ [])
    × IsEncoding uper extensible_octets (octets (1 ∷ [])) (0x80 ∷ 0x80 ∷ 0x80 ∷ [])
    × IsEncoding uper any_octets (octets (1 ∷ 2 ∷ 3 ∷ [])) (0x80 ∷ 0x03 ∷ 0x01 ∷ 0x02 ∷ 0x03 ∷ [])
    × IsEncoding uper many_nulls (null_list 32768) (0xC1 ∷ 0xC1 ∷ 0x00 ∷ [])
    × IsEncoding oer (string visible any_size) foo (0x81 ∷ 0x03 ∷ 0x66 ∷ 0x6F ∷ 0x6F ∷ [])
    × IsEncoding oer any_bits (bits_of []) (0x00 ∷ [])
    × IsEncoding coer any_bits (bits_of []) (0x01 ∷ 0x00 ∷ [])
    × IsEncoding oer any_bits (bits_of (1 ∷ 1 ∷ 1 ∷ 1 ∷ [])) (0x02 ∷ 0x04 ∷ 0xFF ∷ [])
    × IsEncoding oer (list any_size whole) (list_of (num 1 ∷ num 2 ∷ []))
    (0x02 ∷ 0x00 ∷ 0x02 ∷ 0x01 ∷ 0x01 ∷ 0x01 ∷ 0x02 ∷ [])
    × IsEncoding oer defaulted (roots (present (num 0) (absent end))) (0x80 ∷ 0x01 ∷ 0x00 ∷ [])
    × IsEncoding uper defaulted (roots (present (num 0) (absent end))) (0x80 ∷ 0x40 ∷ 0x00 ∷ [])
    × IsEncoding oer (enumerated (pos 5 ∷ []) false []) (item (pos 5)) (0x82 ∷ 0x00 ∷ 0x05 ∷ [])
    × IsEncoding oer (one_of (or_tagged 5 boolean no_alternative)) (chosen false 0 yes) (0xBF ∷ 0x05 ∷ 0xFF ∷ [])
    × IsEncoding coer new_type (yes_with (num 7)) (0x80 ∷ 0xFF ∷ 0x02 ∷ 0x06 ∷ 0xC0 ∷ 0x01 ∷ 0x07 ∷ 0x01 ∷ 0xAA ∷ [])
    × IsEncoding coer old_type yes_alone (0x80 ∷ 0xFF ∷ 0x02 ∷ 0x06 ∷ 0xC0 ∷ 0x01 ∷ 0x07 ∷ 0x01 ∷ 0xAA ∷ [])
    × IsEncoding coer new_type yes_without (0x80 ∷ 0xFF ∷ 0x02 ∷ 0x07 ∷ 0x00 ∷ [])
    × IsEncoding coer new_type yes_without (0x80 ∷ 0xFF ∷ 0x01 ∷ 0x00 ∷ [])
    × IsEncoding oer new_type (yes_with (num 7)) (0x80 ∷ 0xFF ∷ 0x02 ∷ 0x06 ∷ 0xC0 ∷ 0x01 ∷ 0x07 ∷ 0x01 ∷ 0xAA ∷ [])
    × IsEncoding oer old_type yes_alone (0x80 ∷ 0xFF ∷ 0x02 ∷ 0x06 ∷ 0xC0 ∷ 0x01 ∷ 0x07 ∷ 0x01 ∷ 0xAA ∷ [])
    × IsEncoding oer new_type yes_without (0x80 ∷ 0xFF ∷ 0x02 ∷ 0x07 ∷ 0x00 ∷ [])
    × IsEncoding oer new_type yes_without (0x80 ∷ 0xFF ∷ 0x01 ∷ 0x00 ∷ [])
    × IsEncoding coer new_type (yes_with (num 7))
    (0x80 ∷ 0xFF ∷ 0x21 ∷ 0x00 ∷ 0x80 ∷ replicate 31 0x00 ++ 0x01 ∷ 0x07 ∷ [])
    × IsEncoding coer new_type (yes_with (num 7))
    (0x80 ∷ 0xFF ∷ 0x82 ∷ 0x01 ∷ 0x01 ∷ 0x00 ∷ 0x80 ∷ replicate 255 0x00 ++ 0x01 ∷ 0x07 ∷ [])
    × IsEncoding oer new_type (yes_with (num 7)) (0x80 ∷ 0xFF ∷ 0x02 ∷ 0x07 ∷ 0xFF ∷ 0x01 ∷ 0x07 ∷ [])
    × IsEncoding oer new_type (yes_with (num 7)) (0x80 ∷ 0xFF ∷ 0x02 ∷ 0x07 ∷ 0x80 ∷ 0x02 ∷ 0x07 ∷ 0xAA ∷ [])
    × IsEncoding uper new_type (yes_with (num 7)) (0xC0 ∷ 0xE0 ∷ 0x20 ∷ 0xE0 ∷ 0x35 ∷ 0x40 ∷ [])
    × IsEncoding uper old_type yes_alone (0xC0 ∷ 0xE0 ∷ 0x20 ∷ 0xE0 ∷ 0x35 ∷ 0x40 ∷ [])
    × IsEncoding uper old_type yes_alone (0xC0 ∷ 0x40 ∷ 0x41 ∷ 0xC0 ∷ [])
    × IsEncoding uper_strict new_type (yes_with (num 7)) (0xC0 ∷ 0xE0 ∷ 0x20 ∷ 0xE0 ∷ 0x35 ∷ 0x40 ∷ [])
    × IsEncoding uper_strict old_type yes_alone (0xC0 ∷ 0xE0 ∷ 0x20 ∷ 0xE0 ∷ 0x35 ∷ 0x40 ∷ [])
    × IsEncoding uper_strict old_type yes_alone (0xC0 ∷ 0x40 ∷ 0x41 ∷ 0xC0 ∷ [])
    × IsEncoding uper new_type yes_without (0xC0 ∷ 0x00 ∷ [])
    × IsEncoding uper new_type yes_without (0xE0 ∷ 0x00 ∷ [])
    × IsEncoding uper new_type (yes_with (num 7)) (0xC0 ∷ 0x40 ∷ 0x81 ∷ 0xEA ∷ 0x80 ∷ [])
    × IsEncoding uper grouped (yes_with (roots (absent end))) (0xC0 ∷ 0x40 ∷ 0x40 ∷ 0x00 ∷ [])
    × IsEncoding oer grouped (yes_with (roots (absent end))) (0x80 ∷ 0xFF ∷ 0x02 ∷ 0x07 ∷ 0x80 ∷ 0x01 ∷ 0x00 ∷ [])
    × IsEncoding uper extensible_choice (chosen true 0 (num 333)) (0xC0 ∷ 0x40 ∷ 0x00 ∷ 0xC0 ∷ 0x80 ∷ 0x53 ∷ 0x40 ∷ [])
    × IsEncoding uper (bag_of octet_number) (bag_with (num 3 ∷ num 1 ∷ num 2 ∷ [])) (0x03 ∷ 0x01 ∷ 0x03 ∷ 0x02 ∷ [])
    × IsEncoding aper_strict (bag_of octet_number) (bag_with (num 3 ∷ num 1 ∷ num 2 ∷ []))
    (0x03 ∷ 0x01 ∷ 0x03 ∷ 0x02 ∷ [])
    × IsEncoding coer (bag_of octet_number) (bag_with (num 3 ∷ num 1 ∷ num 2 ∷ []))
    (0x01 ∷ 0x03 ∷ 0x01 ∷ 0x03 ∷ 0x02 ∷ [])
    × IsEncoding uper default_old (roots (present yes_alone end)) (0xE0 ∷ 0x20 ∷ 0x20 ∷ 0xE0 ∷ [])
    × IsEncoding uper new_type (yes_with (num 7)) (0xF0 ∷ 0x00 ∷ 0x30 ∷ 0x10 ∷ 0x70 ∷ [])
    × IsEncoding uper required_new (yes_with yes) (0xC0 ∷ 0x40 ∷ 0x7F ∷ 0xC0 ∷ [])
    × IsEncoding uper whole (num 7) (0x80 ∷ 0x01 ∷ 0x07 ∷ [])
    × IsEncoding uper colour_new (item (pos 1)) (0xC0 ∷ 0x40 ∷ 0x00 ∷ [])
    × IsEncoding aper wide_number (num 256) (0x80 ∷ 0x00 ∷ 0x00 ∷ 0x00 ∷ [])
    × IsEncoding uper null_added (yes_with nothing) (0xC0 ∷ 0x40 ∷ 0x80 ∷ 0x2A ∷ 0x80 ∷ [])
    × IsEncoding uper two_added (fields (present yes end) (present nothing (absent end)))
    (0xC0 ∷ 0x40 ∷ 0x40 ∷ 0x00 ∷ [])
    × IsEncoding uper_strict two_added (fields (present yes end) (present nothing (absent end)))
    (0xC0 ∷ 0x40 ∷ 0x40 ∷ 0x00 ∷ [])
    × IsEncoding coer two_added (fields (present yes end) (present nothing (absent end)))
    (0x80 ∷ 0xFF ∷ 0x02 ∷ 0x07 ∷ 0x80 ∷ 0x00 ∷ [])
    × IsEncoding uper old_type yes_alone (0xC0 ∷ 0x40 ∷ 0x00 ∷ [])
    × IsEncoding uper_strict old_type yes_alone (0xC0 ∷ 0x40 ∷ 0x00 ∷ [])
    × IsEncoding coer old_type yes_alone (0x80 ∷ 0xFF ∷ 0x02 ∷ 0x07 ∷ 0x80 ∷ 0x00 ∷ [])
    × IsEncoding uper default_added (yes_with (num 3)) (0xC0 ∷ 0x40 ∷ 0x80 ∷ 0x40 ∷ 0xC0 ∷ [])
    × IsEncoding oer whole (num 7) (0x82 ∷ 0x00 ∷ 0x02 ∷ 0x00 ∷ 0x07 ∷ [])
    × IsEncoding oer whole (below 1) (0x03 ∷ 0xFF ∷ 0xFF ∷ 0xFF ∷ [])
    × IsEncoding oer (only_tagged (context 62)) (chosen false 0 nothing) (0xBF ∷ 0x3E ∷ [])
    × IsEncoding oer colour_new (item (pos 0)) (0x81 ∷ 0x00 ∷ [])
    × IsEncoding oer colour_new (item (pos 1)) (0x82 ∷ 0x00 ∷ 0x01 ∷ [])
    × IsEncoding oer (bit_text (sizes 4 4)) (set_bits 4) (0xFF ∷ [])
    × IsEncoding oer any_octets (octets []) (0x81 ∷ 0x00 ∷ [])

-- not an encoding of the value that a more lenient reader would find, or that the octets seem to encode
abbrev pub RefusedRows : Type 0
RefusedRows =
    IsNoEncoding coer boolean yes (0x05 ∷ [])
    × IsNoEncoding coer whole (num 0) (0x02 ∷ 0x00 ∷ 0x00 ∷ [])
    × IsNoEncoding coer whole (num 7) (0xFF ∷ replicate 126 0x00 ++ 0x01 ∷ 0x07 ∷ [])
    × IsNoEncoding coer whole (below 1) (0x02 ∷ 0xFF ∷ 0xFF ∷ [])
    × IsNoEncoding coer (between (pos 0) (pos (2 ^ 64))) (num 255) (0x02 ∷ 0x00 ∷ 0xFF ∷ [])
    × IsNoEncoding coer (between (minus (2 ^ 63 + 1)) (pos (2 ^ 63))) (num 127) (0x02 ∷ 0x00 ∷ 0x7F ∷ [])
    × IsNoEncoding coer (between (minus (2 ^ 63 + 1)) (pos (2 ^ 63))) (below 1) (0x02 ∷ 0xFF ∷ 0xFF ∷ [])
    × IsNoEncoding coer (string visible any_size) foo (0x81 ∷ 0x03 ∷ 0x66 ∷ 0x6F ∷ 0x6F ∷ [])
    × IsNoEncoding coer any_bits (bits_of []) (0x00 ∷ [])
    × IsNoEncoding coer any_bits (set_bits 4) (0x02 ∷ 0x04 ∷ 0xFF ∷ [])
    × IsNoEncoding coer (list any_size whole) (list_of (num 1 ∷ num 2 ∷ []))
    (0x02 ∷ 0x00 ∷ 0x02 ∷ 0x01 ∷ 0x01 ∷ 0x01 ∷ 0x02 ∷ [])
    × IsNoEncoding coer defaulted (roots (present (num 0) (absent end))) (0x80 ∷ 0x01 ∷ 0x00 ∷ [])
    × IsNoEncoding coer (enumerated (pos 5 ∷ []) false []) (item (pos 5)) (0x82 ∷ 0x00 ∷ 0x05 ∷ [])
    × IsNoEncoding coer (one_of (or_tagged 5 boolean no_alternative)) (chosen false 0 yes) (0xBF ∷ 0x05 ∷ 0xFF ∷ [])
    × IsNoEncoding coer object_identifier (arcs (1 ∷ 2 ∷ 1 ∷ [])) (0x03 ∷ 0x2A ∷ 0x80 ∷ 0x01 ∷ [])
    × IsNoEncoding uper_strict object_identifier (arcs (1 ∷ 2 ∷ 1 ∷ [])) (0x03 ∷ 0x2A ∷ 0x80 ∷ 0x01 ∷ [])
    × IsNoEncoding oer defaulted (roots (absent (absent end))) (0x20 ∷ [])
    × IsNoEncoding coer defaulted (roots (absent (absent end))) (0x20 ∷ [])
    × IsNoEncoding oer null nothing (0x00 ∷ [])
    × IsNoEncoding uper null nothing (0x01 ∷ [])
    × IsNoEncoding aper null nothing (0x01 ∷ [])
    × IsNoEncoding uper small (num 6) (0xB0 ∷ [])
    × IsNoEncoding aper small (num 6) (0xB0 ∷ [])
    × IsNoEncoding oer small (num 6) (0x06 ∷ [])
    × IsNoEncoding oer from_zero (num (2 ^ 128)) (0x11 ∷ 0x01 ∷ replicate 16 0x00)
    × IsNoEncoding oer (string ia5 any_size) (text (4 ∷ 4 ∷ 0x81 ∷ 0xE9 ∷ [])) (0x04 ∷ 0x04 ∷ 0x04 ∷ 0x81 ∷ 0xE9 ∷ [])
    × IsNoEncoding oer (string visible any_size) (text (0x80 ∷ [])) (0x01 ∷ 0x80 ∷ [])
    × IsNoEncoding oer (string utf8 any_size) (text (0xFF ∷ [])) (0x01 ∷ 0xFF ∷ [])
    × IsNoEncoding oer (string numeric (sizes 3 7)) (text (0x31 ∷ 0x32 ∷ [])) (0x02 ∷ 0x31 ∷ 0x32 ∷ [])
    × IsNoEncoding oer (sequence_of any_size (record { low = 2; high = Some 2 }) boolean)
    (list_of (yes ∷ yes ∷ yes ∷ []))
    (0x01 ∷ 0x03 ∷ 0xFF ∷ 0xFF ∷ 0xFF ∷ [])
    × IsNoEncoding oer (integer (from_to (Some (pos 0)) (Some (pos 255)) true)
    (record { low = Some (pos 0); high = Some (pos 255) })) (num 300)
    (0x02 ∷ 0x01 ∷ 0x2C ∷ [])
    × IsNoEncoding uper required_new yes_without (0x40 ∷ [])
    × IsNoEncoding oer required_new yes_without (0x00 ∷ 0xFF ∷ [])
    × IsNoEncoding uper colour_old (item (pos 1)) (0x80 ∷ [])
    × IsNoEncoding uper one_or_two (list_of []) (0x00 ∷ [])
    × IsNoEncoding uper_strict small (below 4) (0x17 ∷ [])
    × IsNoEncoding uper_strict (flagged small) (roots (present no (present (num 5) end))) (0x57 ∷ [])
    × IsNoEncoding aper_strict (flagged octet_number) (yes_and (num 9)) (0xAA ∷ 0x09 ∷ [])
    × IsNoEncoding uper_strict whole (num 7) (0x02 ∷ 0x00 ∷ 0x07 ∷ [])
    × IsNoEncoding uper_strict whole (num 7) (0x80 ∷ 0x01 ∷ 0x07 ∷ [])
    × IsNoEncoding uper_strict extensible_number (num 7) (0x80 ∷ 0x83 ∷ 0x80 ∷ [])
    × IsNoEncoding uper_strict extensible_octets (octets (1 ∷ [])) (0x80 ∷ 0x80 ∷ 0x80 ∷ [])
    × IsNoEncoding aper_strict wide_number (num 256) (0x40 ∷ 0x00 ∷ 0x00 ∷ [])
    × IsNoEncoding uper_strict defaulted (roots (present (num 0) (absent end))) (0x80 ∷ 0x40 ∷ 0x00 ∷ [])
    × IsNoEncoding uper_strict colour_new (item (pos 1)) (0xC0 ∷ 0x40 ∷ 0x00 ∷ [])
    × IsNoEncoding uper_strict many_nulls (null_list 32768) (0xC1 ∷ 0xC1 ∷ 0x00 ∷ [])

-- the freedoms of the strict readers: three of thirteen in OER, two of twelve in PER
abbrev pub FreedomRows : Type 0
FreedomRows =
    (map strict_oer (Oer.longer_length ∷ Oer.longer_number ∷ Oer.any_truth ∷ Oer.longer_item ∷ Oer.empty_bit_string
    ∷ []) ≡ replicate 5 false)
    × (map strict_oer (Oer.any_unused_bits ∷ Oer.long_tag ∷ Oer.default_spelled_out ∷ Oer.empty_group
    ∷ Oer.octets_behind ∷ []) ≡ replicate 5 false)
    × (map strict_oer (Oer.other_bitmap ∷ Oer.empty_bitmap ∷ Oer.other_order ∷ []) ≡ replicate 3 true)
    × (map strict_per (Per.any_padding ∷ Per.two_octet_length ∷ Per.other_fragments ∷ Per.longer_number
    ∷ Per.root_told_outside ∷ []) ≡ replicate 5 false)
    × (map strict_per (Per.long_small_number ∷ Per.default_spelled_out ∷ Per.empty_group ∷ Per.empty_bitmap
    ∷ Per.octets_behind ∷ []) ≡ replicate 5 false)
    × (map strict_per (Per.other_bitmap ∷ Per.other_order ∷ []) ≡ replicate 2 true)

-- details that no freedom permits: no such encoding exists
abbrev pub FormRows : Type 0
FormRows =
    -- a PER fragment of 0 units, of 5 times 16384, and of more than there are
    (written (Per.fragments false (0 ∷ []) []) 0 ≡ None)
    × (written (Per.fragments false (5 ∷ []) (replicate 81920 (exactly []))) 0 ≡ None)
    × (written (Per.fragments false (1 ∷ []) (replicate 16383 (exactly []))) 0 ≡ None)
    -- a number of the aligned variant in no octets, in more than its range has, and in fewer than it needs
    × (written (Per.in_octets_of (Per.constrained true) true 1234311 0 0) 0 ≡ None)
    × (written (Per.in_octets_of (Per.constrained true) true 1234311 0 4) 0 ≡ None)
    × (written (Per.in_octets_of (Per.constrained true) true 1234311 256 1) 0 ≡ None)
    -- a number or a size outside the root, encoded as inside it
    × (written (Per.with_extension_bit true false (exactly []) (exactly [])) 0 ≡ Some (true ∷ []))
    × (written (Per.with_extension_bit false false (exactly []) (exactly [])) 0 ≡ None)
    -- an OER length determinant of no octets, of 128, and of fewer than needed; a length over 64 bits
    × (written (Oer.long_length 5 0) 0 ≡ None)
    × (written (Oer.long_length 5 128) 0 ≡ None)
    × (written (Oer.long_length 256 1) 0 ≡ None)
    × (written (Oer.length_form (2 ^ 64)) 0 ≡ None)
    -- an enumeration value in no octets, in fewer than needed, and a negative one in one octet; a tag number 0 in the
    -- long form
    × (written (Oer.long_item 0 (pos 5)) 0 ≡ None)
    × (written (Oer.long_item 1 (pos 128)) 0 ≡ None)
    × (written (Oer.short_item (minus 1)) 0 ≡ None)
    × (written (Oer.long_tag_octets (context 0)) 0 ≡ None)
    -- a bitmap too narrow for what is present, and unknown additions before ones that the type has
    × (covered_by (λ os. os) (record { covered = 0; further = [] }) (Some [] ∷ []) ≡ None)
    × (covered_by (λ os. os) (record { covered = 0; further = None ∷ [] }) (None ∷ []) ≡ None)
    × (covered_by (λ os. os) (record { covered = 1; further = None ∷ [] }) (None ∷ []) ≡ Some (None ∷ None ∷ []))
    -- an order with an index past the elements left, and one that leaves out an element
    × (arranged {X = ℕ} (0 ∷ 1 ∷ []) (7 ∷ 8 ∷ []) ≡ None)
    × (arranged {X = ℕ} (0 ∷ []) (7 ∷ 8 ∷ []) ≡ None)
    × (arranged {X = ℕ} (1 ∷ 0 ∷ []) (7 ∷ 8 ∷ []) ≡ Some (8 ∷ 7 ∷ []))

-- no PER reader accepts a value outside the root after an extension bit of 0, whatever follows
abbrev pub OutsideIsTold : Type 0
OutsideIsTold =
    (root outside : Per.BitForm) (p : ℕ) (w : List Bool)
    → Reads lenient (Per.with_extension_bit true false root outside) p (false ∷ w) → ⊥

-- octets that are not an encoding of any value
abbrev pub NoValueRows : Type 0
NoValueRows =
    ((v : Value) → IsNoEncoding coer boolean v (0x05 ∷ []))
    × ((v : Value) → IsNoEncoding coer boolean v (0xFF ∷ 0xFF ∷ []))
    × ((v : Value) → IsNoEncoding oer null v (0x00 ∷ []))
    × ((v : Value) → IsNoEncoding uper null v (0x01 ∷ []))
    × ((v : Value) → IsNoEncoding aper null v [])
