use Rattle.asn1_values_natives.proofs.TwosComplement.{signed-back, complement-back}
use Rattle.asn1_values_natives.proofs.laws.octets_stand_for_their_number.Goals as goal

pub returns-clause-number : goal.returns-clause-number
returns-clause-number c = signed-back

pub returns-clause-octets : goal.returns-clause-octets
returns-clause-octets c = complement-back
