use Rattle.asn1_laws_across.proofs.Relayed.{first_of}
use Rattle.asn1_laws_across.proofs.stream_laws.relays_the_first.Goals as goal

pub returns : goal.returns
returns c = λ source target s limit w rest out unread ms n why lawful d h. first_of source target s limit lawful h.messages ms out unread rest w why h.front h.stops d
