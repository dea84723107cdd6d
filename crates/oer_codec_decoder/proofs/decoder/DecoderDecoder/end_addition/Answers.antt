use Rattle.oer_codec_decoder.proofs.Refused.{still_none, emptied}
use Rattle.oer_codec_decoder.proofs.Records.{no_addition_end}
use Rattle.oer_codec_decoder.proofs.decoder.DecoderDecoder.end_addition.Goals as goal

pub returns-in-Err-clause-only : goal.returns-in-Err-clause-only
returns-in-Err-clause-only c = still_none (emptied c.args.self.now c.refuse.new.self c.refuse.ensures.emptied) (no_addition_end _ _ _ _ c.self.view_is c.refuse.ensures.refused c.in-Err.ensures.only)
