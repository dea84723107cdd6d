use Rattle.asn1_laws_numbers.proofs.Written.{written_are_octets}
use Rattle.asn1_laws_numbers.proofs.octet_laws.written_are_octets.Goals as goal

pub returns : goal.returns
returns c = written_are_octets
