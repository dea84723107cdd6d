use Rattle.asn1_model.specs.Schema.{boolean}
use Rattle.oer_codec_decoder.proofs.Finding.{none_found, asked_flag}
use Rattle.oer_codec_decoder.proofs.decoder.DecoderDecoder.decode_bool.Goals as goal
use Rattle.oer_codec_decoder.proofs.Refused.{still_none, stays}

pub returns-in-Err-clause-only : goal.returns-in-Err-clause-only
returns-in-Err-clause-only c = still_none (stays _ _ c.lack.new.self c.self.view_is c.lack.ensures.kept)
    (none_found _ _ _ boolean _ _ c.self.view_is c.lack.ensures.refused c.in-Err.ensures.only asked_flag)
