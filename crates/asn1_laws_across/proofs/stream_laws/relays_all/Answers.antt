use Rattle.std.proofs.Common.{sym, ◌∙◌}
use Rattle.asn1_laws_across.proofs.Relayed.{all_of}
use Rattle.asn1_laws_across.proofs.stream_laws.relays_all.Goals as goal

pub returns : goal.returns
returns c = λ source target s limit w rest joined out unread ms n why lawful d t h.
    let a = all_of source target s limit lawful h.messages ms out joined unread rest w why h.front h.stops d t in
    (a.0, sym h.counted ∙ a.1, a.2, a.3)
