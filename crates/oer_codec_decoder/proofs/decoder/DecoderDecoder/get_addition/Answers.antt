use Rattle.std.proofs.Common.{refl}
use Rattle.asn1_schema_laws.proofs.Joined.{raised}
use Rattle.oer_codec_decoder.proofs.Refused.{still_none, emptied}
use Rattle.oer_codec_decoder.proofs.Records.{no_addition}
use Rattle.oer_codec_decoder.proofs.Lacking.{addition_short}
use Rattle.oer_codec_decoder.proofs.decoder.DecoderDecoder.get_addition.Goals as goal

pub returns-in_default-clause-only : goal.returns-in_default-clause-only
returns-in_default-clause-only c = still_none (emptied c.args.self.now c.refuse.new.self c.refuse.ensures.emptied) (no_addition _ _ _ c.self.view_is c.in_default.ensures.none)

pub returns-in_err-open_type-clause-only : goal.returns-in_err-open_type-clause-only
returns-in_err-open_type-clause-only c = raised _ _ _ c.from_residual-in_err-open_type.ensures.1
    (addition_short _ _ c.open_type.new.self c.in-Some.present c.next_addition.new.self _ c.self.view_is refl c.if-present.true c.in-Some.ensures.some
    c.in_err-open_type.ensures.only c.in_err-open_type.ensures.short)
