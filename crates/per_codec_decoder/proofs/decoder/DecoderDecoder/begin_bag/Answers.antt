use Rattle.asn1_schema_constraints.specs.Bounds.{members_of}
use Rattle.asn1_schema_constraints.specs.Terms.{size_of, sizes_of}
use Rattle.per_codec_decoder.proofs.Opening.{no_bag}
use Rattle.per_codec_decoder.proofs.Refused.{err_both, still_none_ready}
use Rattle.per_codec_decoder.proofs.decoder.DecoderDecoder.begin_bag.Goals as goal

pub returns-clause-only : goal.returns-clause-only
returns-clause-only c = err_both c.enter_members.result c.enter_members.ensures.owed c.enter_members.ensures.only
    (λ o e m. still_none_ready o (no_bag _ (sizes_of c.args.constraints.now.size) (size_of c.sizes.result) (members_of c.args.held) e c.sizes.ensures m))
