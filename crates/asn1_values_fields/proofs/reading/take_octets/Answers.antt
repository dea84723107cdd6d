use Rattle.std.proofs.Common.{refl}
use Rattle.asn1_values_fields.proofs.Shortest.{octets_taken}
use Rattle.asn1_values_fields.proofs.reading.take_octets.Goals as goal

pub returns-in-Ok-clause-count : goal.returns-in-Ok-clause-count
returns-in-Ok-clause-count c = octets_taken c.args.count c.args.reader.now.bits c.in_ok-front.front.bits _ _ c.in_ok-front.ensures.front c.in_ok-front.ensures.enough c.in-Ok.ensures.octets refl
