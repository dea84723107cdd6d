use Rattle.std.proofs.Common.{◌≡◌, rules}
use Rattle.asn1_schema_records.proofs.Numbers.{only_memory}
use Rattle.asn1_values_natives.proofs.TwosComplement.{signed-back}
use Rattle.asn1_values_natives.specs.Octets.{signed_octets_of}
use Rattle.asn1_schema_records.proofs.encoder.number_of.Goals as goal

pub returns-clause-value : goal.returns-clause-value
returns-clause-value g c = search (signed-back, rules)

pub returns-clause-memory : goal.returns-clause-memory
returns-clause-memory g c =
    let s : c.as_slice.result.now ≡ signed_octets_of (g.I.IntegerType.value c.args.value.now) = search rules in
    only_memory c.from_signed_octets.result _ _ s c.from_signed_octets.ensures.empty.0 c.from_signed_octets.ensures.overflow c.from_signed_octets.ensures.memory
