use Rattle.asn1_model.specs.Schema.{character_string}
use Rattle.asn1_model.specs.Schema.{any_count}
use Rattle.asn1_schema_constraints.specs.Terms.{one_size, sizes_of, alphabet_of}
use Rattle.oer_codec_reading.specs.Fronts.{freedoms}
use Rattle.oer_codec_decoder.proofs.Finding.{none_found, asked_characters}
use Rattle.oer_codec_decoder.proofs.decoder.DecoderDecoder.decode_characters.Goals as goal
use Rattle.std.proofs.Common.{ap, ◌∙◌}
use Rattle.oer_codec_decoder.proofs.Lacking.{still_short}
use Rattle.oer_codec_decoder.proofs.ShortStrings.{no_characters}

pub returns-in-Err-clause-only : goal.returns-in-Err-clause-only
returns-in-Err-clause-only g c =
    let k = g.S.StaticPermittedAlphabet.kind in
    let z = sizes_of c.args.constraints.now.size in
    let a = alphabet_of c.args.constraints.now.permitted_alphabet in
    still_short _ _ (character_string k z a any_count) c.fixed.result _ c.self.view_is c.remaining-octets.ensures c.lack_octets.ensures.scopes
    c.lack_octets.ensures.short (λ r. no_characters (freedoms r) k g.met.S.StaticPermittedAlphabet.holds z a any_count c.fixed.result
    (c.fixed.ensures ∙ ap one_size c.sizes.ensures)) (λ free x y. asked_characters free x y k z a any_count)
    (none_found _ _ _ (character_string k z a any_count) _ _ c.self.view_is c.lack_octets.ensures.refused c.in-Err.ensures.only (λ free x y. asked_characters free x y k z a any_count))
