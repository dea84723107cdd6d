use Rattle.asn1_model.specs.Schema.{integer}
use Rattle.asn1_schema_constraints.specs.Terms.{bounds_of, held_of}
use Rattle.oer_codec_reading.specs.Fronts.{freedoms}
use Rattle.oer_codec_decoder.proofs.Finding.{none_found, asked_whole, number_within}
use Rattle.oer_codec_decoder.proofs.decoder.DecoderDecoder.decode_integer.Goals as goal
use Rattle.oer_codec_decoder.proofs.Lacking.{still_short}
use Rattle.oer_codec_decoder.proofs.ShortStrings.{no_whole}

pub returns-in-Ok-clause-within : goal.returns-in-Ok-clause-within
returns-in-Ok-clause-within g c = number_within (freedoms c.self.inside.rules) (bounds_of c.args.constraints.now.value)
    (held_of c.args.constraints.now.value g.I.IntegerType.held) _ _ _ c.in-Ok.ensures.ok

pub returns-in-Err-clause-only : goal.returns-in-Err-clause-only
returns-in-Err-clause-only g c =
    let v = c.args.constraints.now.value in
    let i = g.I.IntegerType.held in
    let b = bounds_of v in
    let h = held_of v i in
    still_short _ _ (integer b h) c.size_of_number.result _ c.self.view_is c.remaining-octets.ensures c.lack_octets.ensures.scopes
    c.lack_octets.ensures.short (λ r. no_whole r v i c.size_of_number.result c.size_of_number.ensures) (λ free x y. asked_whole free x y b h)
    (none_found _ _ _ (integer b h) _ _ c.self.view_is c.lack_octets.ensures.refused c.in-Err.ensures.only (λ free x y. asked_whole free x y b h))
