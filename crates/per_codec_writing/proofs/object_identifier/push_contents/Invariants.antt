use Rattle.std.proofs.Common.{◌≡◌, take}
use Rattle.asn1_model.specs.Numbers.{octet_bits}
use Rattle.asn1_values_identifiers.specs.Groups.{contents}
use Rattle.per_codec_packing.specs.FieldLists.{as_field_list}
use Rattle.per_codec_writing.specs.Writing.{plus}
use Rattle.per_codec_writing.proofs.object_identifier.push_contents.Given as goal

abbrev pub invariant-loop-arc : goal.invariant-loop-arc
invariant-loop-arc l = l.output ≡ plus l.fn.output (as_field_list (octet_bits (contents l.first (take l.arc-index l.others))))
