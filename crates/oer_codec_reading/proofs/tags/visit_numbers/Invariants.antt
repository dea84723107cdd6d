use Rattle.std.proofs.Common.{◌≡◌, true, map, take}
use Rattle.std.specs.List.{list_all}
use Rattle.asn1_schema_tags.specs.Tags.{tag_of}
use Rattle.oer_codec_reading.specs.Tags.{is_in_32_bits}
use Rattle.oer_codec_reading.proofs.tags.visit_numbers.Given as goal

abbrev pub invariant-loop-entry : goal.invariant-loop-entry
invariant-loop-entry l = list_all is_in_32_bits (map tag_of (take l.entry-index l.table)) ≡ true
