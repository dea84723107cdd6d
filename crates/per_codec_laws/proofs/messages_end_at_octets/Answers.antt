use Rattle.per_codec_laws.proofs.Messages as Messages
use Rattle.per_codec_laws.proofs.messages_end_at_octets.Goals as goal

pub returns : goal.returns
returns c al free s v os left after other order t f = Messages.ends_at_octet al free other order s v os left after t f
