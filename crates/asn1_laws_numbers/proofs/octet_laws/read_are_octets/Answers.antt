use Rattle.asn1_laws_numbers.proofs.Written.{read_are_octets}
use Rattle.asn1_laws_numbers.proofs.octet_laws.read_are_octets.Goals as goal

pub returns : goal.returns
returns c = read_are_octets
