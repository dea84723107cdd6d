use Rattle.asn1_laws_across.proofs.Relayed.{pieces_joined}
use Rattle.asn1_laws_across.proofs.stream_laws.pieces_are_joined.Goals as goal

pub returns : goal.returns
returns c = λ source target s limit unread pieces n o rest why. pieces_joined source target s limit unread pieces n o rest why
