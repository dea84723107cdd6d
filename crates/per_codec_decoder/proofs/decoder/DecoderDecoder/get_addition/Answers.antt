use Rattle.std.proofs.Common.{refl}
use Rattle.asn1_schema_laws.proofs.Joined.{raised}
use Rattle.per_codec_decoder.proofs.Opening.{no_addition_due}
use Rattle.per_codec_decoder.proofs.Lacking.{addition_lacking}
use Rattle.per_codec_decoder.proofs.Refused.{still_none, emptied_owes}
use Rattle.per_codec_decoder.proofs.decoder.DecoderDecoder.get_addition.Goals as goal

pub returns-in_err-open_type-clause-only : goal.returns-in_err-open_type-clause-only
returns-in_err-open_type-clause-only c = raised _ _ _ c.from_residual-in_err-open_type.ensures.1
    (addition_lacking _ _ _ c.in-Some.is_there c.next_addition.new.self.scopes c.in_err-open_type.field-0.0 c.self.view_is refl c.if-is_there.true
    c.in-Some.ensures.some c.in_err-open_type.ensures.only c.in_err-open_type.ensures.short)

pub returns-in_default-clause-only : goal.returns-in_default-clause-only
returns-in_default-clause-only c = still_none (emptied_owes c.refuse.ensures.emptied) (no_addition_due _ _ _ c.self.view_is c.in_default.ensures.none)
