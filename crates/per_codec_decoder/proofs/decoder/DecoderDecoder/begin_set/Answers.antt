use Rattle.per_codec_decoder.proofs.Opening.{no_set}
use Rattle.per_codec_decoder.proofs.Refused.{err_both, still_none_ready}
use Rattle.per_codec_decoder.proofs.decoder.DecoderDecoder.begin_set.Goals as goal

pub returns-clause-only : goal.returns-clause-only
returns-clause-only c = err_both c.enter_components.result c.enter_components.ensures.owed c.enter_components.ensures.only
    (λ o e m. still_none_ready o (no_set _ c.args.extensible c.args.optional e m))
