use Rattle.asn1_model.specs.Schema.{null}
use Rattle.oer_codec_decoder.proofs.Finding.{none_found, asked_nil}
use Rattle.oer_codec_decoder.proofs.decoder.DecoderDecoder.decode_null.Goals as goal
use Rattle.oer_codec_decoder.proofs.Refused.{still_none, stays}

pub returns-in-Err-clause-only : goal.returns-in-Err-clause-only
returns-in-Err-clause-only c = still_none (stays _ _ c.lack.new.self c.self.view_is c.lack.ensures.kept)
    (none_found _ _ _ null _ _ c.self.view_is c.lack.ensures.refused c.in-Err.ensures.only asked_nil)
