use Rattle.asn1_model.specs.Schema.{octet_string}
use Rattle.asn1_schema_constraints.specs.Bounds.{counts_of}
use Rattle.asn1_schema_constraints.specs.Terms.{one_size, sizes_of}
use Rattle.oer_codec_reading.specs.Fronts.{freedoms}
use Rattle.oer_codec_decoder.proofs.Finding.{none_found, asked_octets, octets_within}
use Rattle.oer_codec_decoder.proofs.decoder.DecoderDecoder.decode_octet_string.Goals as goal
use Rattle.std.proofs.Common.{ap, ◌∙◌}
use Rattle.oer_codec_decoder.proofs.Lacking.{still_short}
use Rattle.oer_codec_decoder.proofs.ShortStrings.{no_octet_string}

pub returns-in-Ok-clause-held : goal.returns-in-Ok-clause-held
returns-in-Ok-clause-held c = octets_within (freedoms c.self.inside.rules) (sizes_of c.args.constraints.now.size) (counts_of c.args.held) _ _ _ c.in-Ok.ensures.ok

pub returns-in-Err-clause-only : goal.returns-in-Err-clause-only
returns-in-Err-clause-only c =
    let z = sizes_of c.args.constraints.now.size in
    let h = counts_of c.args.held in
    still_short _ _ (octet_string z h) c.fixed.result _ c.self.view_is c.remaining-octets.ensures c.lack_octets.ensures.scopes
    c.lack_octets.ensures.short (λ r. no_octet_string (freedoms r) z h c.fixed.result (c.fixed.ensures ∙ ap one_size c.sizes.ensures))
    (λ free a b. asked_octets free a b z h) (none_found _ _ _ (octet_string z h) _ _ c.self.view_is c.lack_octets.ensures.refused c.in-Err.ensures.only (λ free a b. asked_octets free a b z h))
