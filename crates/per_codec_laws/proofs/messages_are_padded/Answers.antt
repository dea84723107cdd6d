use Rattle.per_codec_laws.proofs.Messages as Messages
use Rattle.per_codec_laws.proofs.messages_are_padded.Goals as goal

pub returns : goal.returns
returns c al free s u v w rest left other l r t = Messages.padded al free other s u v w rest left l r t
