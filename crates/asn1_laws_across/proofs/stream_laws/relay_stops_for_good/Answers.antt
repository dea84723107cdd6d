use Rattle.asn1_laws_across.proofs.Relayed.{stops_for_good}
use Rattle.asn1_laws_across.proofs.stream_laws.relay_stops_for_good.Goals as goal

pub returns : goal.returns
returns c = λ source target s limit w x n o rest why. stops_for_good source target s limit w x n o rest why
