use Rattle.std.proofs.Common.{◌∙◌}
use Rattle.oer_codec_decoder.proofs.Refused.{still_none, emptied}
use Rattle.oer_codec_decoder.proofs.Lacking.{bitmap_short}
use Rattle.oer_codec_decoder.proofs.Records.{no_extension_bit, no_additions}
use Rattle.oer_codec_decoder.proofs.decoder.DecoderDecoder.begin_additions.Goals as goal

pub returns-in_default-clause-only : goal.returns-in_default-clause-only
returns-in_default-clause-only c = still_none (emptied c.args.self.now c.refuse.new.self c.refuse.ensures.emptied) (no_extension_bit _ _ c.args.count _ c.self.view_is c.in_default.ensures.none)

pub returns-in-Err-clause-only : goal.returns-in-Err-clause-only
returns-in-Err-clause-only c =
    let s = c.in-Some.ensures.some in
    bitmap_short _ _ c.args.count c.in-Some.is_extended s.0 c.size_of_bitmap.result _ c.self.view_is c.remaining-octets.ensures s.1
    c.size_of_bitmap.ensures (c.lack_octets.ensures.scopes ∙ c.extension_bit.ensures.same) c.lack_octets.ensures.short
    (no_additions _ _ c.args.count c.in-Some.is_extended s.0 _ _ c.self.view_is c.lack_octets.ensures.refused s.1 c.in-Err.ensures.only)
