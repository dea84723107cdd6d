use Rattle.std.specs.Prelude.{⊤}
use Rattle.std.specs.Str.{is_utf8, chars}
use Rattle.std.specs.Char.{encode_utf8}
use Rattle.asn1_model.specs.Rules.{canonical, encoding, per, octet_encoding}
use Rattle.asn1_model.specs.Form.{written}
use Rattle.asn1_model.proofs.Forms.{written_by}
use Rattle.asn1_model.specs.Normal.{normal, normal_parts, normal_alternative}
use Rattle.asn1_model.specs.Tidy.{is_normal, are_normal, is_normal_alternative}
use Rattle.asn1_model.specs.Value.{same, same_members, same_bag, same_parts, depth, depth_of_members, depth_of_parts}
use Rattle.asn1_model.specs.Numbers.{places_up_to}
use Rattle.asn1_model.specs.Per
use Rattle.asn1_model.specs.Oer

-- what a proof unfolds to compute the canonical octets of a value, or an encoding that a reader may meet
unfoldable pub on_values : ⊤
unfolding canonical encoding per octet_encoding written normal normal_parts normal_alternative same same_members same_bag same_parts places_up_to Per.padding
    Per.at_octet Per.in_octets_of Per.constrained_in Per.constrained Per.short_length Per.fragments Per.counted Per.counted_octets Per.semi_constrained Per.unconstrained
    Per.normally_small Per.normally_few Per.whole_number Per.with_extension_bit Per.integer_form Per.sized_root Per.sized Per.character Per.characters Per.string_form
    Per.item_form Per.padded Per.complete Per.open_type Per.spelled Per.additions Per.with_additions Per.bitmapped Per.sequence_form
    Per.in_any_order Per.form Per.component_forms Per.addition_forms Per.alternative_form Per.message Oer.length_form Oer.counted Oer.signed Oer.unsigned
    Oer.bounded Oer.integer_form Oer.item_form Oer.bits_form Oer.counted_bits Oer.bit_string_form Oer.octets_form Oer.tag_form Oer.open_type
    Oer.additions Oer.with_additions Oer.bitmapped Oer.sequence_form Oer.members_form Oer.in_any_order Oer.form Oer.component_forms Oer.addition_forms
    Oer.alternative_form written_by is_utf8 chars encode_utf8 is_normal are_normal is_normal_alternative depth depth_of_members depth_of_parts
on_values = tt
