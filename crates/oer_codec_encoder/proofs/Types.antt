-- The bridge of every type.
use Rattle.std.proofs.Common.{refl}
use Rattle.asn1_model.specs.Schema.{Schema, cut, boolean, null, integer, enumerated, bit_string, octet_string}
use Rattle.asn1_model.specs.Schema.{character_string, object_identifier, sequence_of, set_of, sequence, set, group}
use Rattle.asn1_model.specs.Schema.{choice, Components, no_component, component, Alternatives, no_alternative}
use Rattle.asn1_model.specs.Schema.{alternative}
use Rattle.asn1_model.specs.Form.{written}
use Rattle.asn1_model.specs.Oer
use Rattle.asn1_schema_laws.specs.Presents.{presents}
use Rattle.oer_codec_encoder.specs.Ties.{Bridges}
use Rattle.oer_codec_encoder.proofs.Bridge.{boolean_bridges, null_bridges, integer_bridges, enumerated_bridges}
use Rattle.oer_codec_encoder.proofs.Bridge.{bit_string_bridges, octet_string_bridges, string_bridges}
use Rattle.oer_codec_encoder.proofs.Bridge.{identifier_bridges, EachBridges, groups}
use Rattle.oer_codec_encoder.proofs.StepAdditions.{sequences, sets}
use Rattle.oer_codec_encoder.proofs.Lists.{lists}
use Rattle.oer_codec_encoder.proofs.StepBags.{bags}
use Rattle.oer_codec_encoder.proofs.Choices.{EachAlternative, choices}

-- below the levels of a recursive type there is no value
cut_bridges : Bridges cut
unfolding presents Oer.form written
cut_bridges v p os k rest = refl

mutual
  pub every_type : (s : Schema) → Bridges s
  every_type cut = cut_bridges
  every_type boolean = boolean_bridges
  every_type null = null_bridges
  every_type (integer b h) = integer_bridges b h
  every_type (enumerated roots e adds) = enumerated_bridges roots e adds
  every_type (bit_string z h) = bit_string_bridges z h
  every_type (octet_string z h) = octet_string_bridges z h
  every_type (character_string c z a h) = string_bridges c z a h
  every_type object_identifier = identifier_bridges
  every_type (sequence_of z h s) = lists z h s (every_type s)
  every_type (set_of z h s) = bags z h s (every_type s)
  every_type (sequence cs e adds) = sequences cs e adds (every_component cs) (every_component adds)
  every_type (set cs e adds) = sets cs e adds (every_component cs) (every_component adds)
  every_type (group cs) = groups cs (every_component cs)
  every_type (choice roots e adds) = choices roots e adds (every_alternative roots) (every_alternative adds)

  every_component : (cs : Components) → EachBridges cs
  every_component no_component = tt
  every_component (component t o s cs) = (every_type s, every_component cs)

  every_alternative : (others : Alternatives) → EachAlternative others
  every_alternative no_alternative = tt
  every_alternative (alternative t s others) = (every_type s, every_alternative others)
