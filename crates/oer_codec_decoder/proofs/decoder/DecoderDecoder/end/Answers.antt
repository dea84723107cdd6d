use Rattle.oer_codec_decoder.proofs.Refused.{still_none, ended}
use Rattle.oer_codec_decoder.proofs.Records.{no_end}
use Rattle.oer_codec_decoder.proofs.decoder.DecoderDecoder.end.Goals as goal

pub returns-in-Err-clause-only : goal.returns-in-Err-clause-only
returns-in-Err-clause-only c = still_none (ended c.args.self.now _ c.lack.new.self _ c.self.view_is c.in-Err.ensures.left c.lack.ensures.kept)
    (no_end _ _ _ _ c.self.view_is c.lack.ensures.refused c.in-Err.ensures.only)
