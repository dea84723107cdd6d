use Rattle.asn1_model.specs.Schema.{object_identifier}
use Rattle.oer_codec_decoder.proofs.Finding.{none_found, asked_identifier}
use Rattle.oer_codec_decoder.proofs.decoder.DecoderDecoder.decode_object_identifier.Goals as goal
use Rattle.std.proofs.Common.{None}
use Rattle.oer_codec_reading.specs.Fronts.{freedoms}
use Rattle.oer_codec_decoder.proofs.Lacking.{still_short}
use Rattle.oer_codec_decoder.proofs.ShortStrings.{no_identifier}

pub returns-in-Err-clause-only : goal.returns-in-Err-clause-only
returns-in-Err-clause-only c = still_short _ _ object_identifier None _ c.self.view_is c.remaining-octets.ensures c.lack_octets.ensures.scopes
    c.lack_octets.ensures.short (λ r. no_identifier (freedoms r)) asked_identifier
    (none_found _ _ _ object_identifier _ _ c.self.view_is c.lack_octets.ensures.refused c.in-Err.ensures.only asked_identifier)
