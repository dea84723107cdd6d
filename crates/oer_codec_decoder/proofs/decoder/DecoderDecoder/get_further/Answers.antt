use Rattle.oer_codec_decoder.proofs.Refused.{still_none, emptied}
use Rattle.oer_codec_decoder.proofs.Records.{no_further}
use Rattle.oer_codec_decoder.proofs.decoder.DecoderDecoder.get_further.Goals as goal

pub returns-in-None-clause-only : goal.returns-in-None-clause-only
returns-in-None-clause-only c = still_none (emptied c.args.self.now c.refuse.new.self c.refuse.ensures.emptied) (no_further _ _ _ c.self.view_is c.in-None.ensures.none)
