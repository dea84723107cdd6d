use Rattle.std.proofs.Common.{Some, ap, ◌∙◌}
use Rattle.asn1_model.specs.Schema.{integer, wide_range}
use Rattle.asn1_schema_forms.specs.Forms.{form_bounds}
use Rattle.oer_codec_decoder.proofs.Finding.{none_found, asked_whole}
use Rattle.oer_codec_decoder.proofs.decoder.DecoderDecoder.decode_number.Goals as goal
use Rattle.oer_codec_decoder.proofs.Lacking.{still_short}
use Rattle.oer_codec_decoder.proofs.ShortStrings.{no_in_form}

pub returns-in-Err-clause-only : goal.returns-in-Err-clause-only
returns-in-Err-clause-only c =
    let f = c.args.form.now in
    let b = form_bounds f in
    still_short _ _ (integer b wide_range) (Some c.from.result) _ c.self.view_is c.remaining-octets.ensures c.lack_octets.ensures.scopes
    c.lack_octets.ensures.short (λ r. no_in_form r f c.from.result (ap Some c.from.ensures ∙ c.octets.ensures)) (λ free x y. asked_whole free x y b wide_range)
    (none_found _ _ _ (integer b wide_range) _ _ c.self.view_is c.lack_octets.ensures.refused c.in-Err.ensures.only (λ free x y. asked_whole free x y b wide_range))
