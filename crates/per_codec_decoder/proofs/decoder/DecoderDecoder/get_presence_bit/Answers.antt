use Rattle.per_codec_decoder.proofs.Finding.{no_presence_bit}
use Rattle.per_codec_decoder.proofs.Refused.{still_none, emptied_owes}
use Rattle.per_codec_decoder.proofs.decoder.DecoderDecoder.get_presence_bit.Goals as goal

pub returns-in-None-clause-only : goal.returns-in-None-clause-only
returns-in-None-clause-only c = still_none (emptied_owes c.refuse.ensures.emptied) (no_presence_bit _ _ _ c.self.view_is c.in-None.ensures.none)
