use Rattle.std.proofs.Common.{◌≡◌, ◌++◌, map, take}
use Rattle.asn1_schema_order.specs.Entries.{octets_of}
use Rattle.oer_codec_encoder.specs.Joined.{texts_joined}
use Rattle.oer_codec_encoder.proofs.bags.push_each.Given as goal

abbrev pub invariant-loop-entry : goal.invariant-loop-entry
invariant-loop-entry l = l.octets.items ≡ l.initial.octets.items ++ texts_joined (map octets_of (take l.entry-index l.entries))
