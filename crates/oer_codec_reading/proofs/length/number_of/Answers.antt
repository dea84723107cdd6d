use Rattle.std.proofs.Common.{ap, ◌∙◌}
use Rattle.asn1_values_natives.specs.Octets.{unsigned_number}
use Rattle.asn1_values_natives.proofs.OctetLaws.{sign_free-false}
use Rattle.oer_codec_reading.proofs.length.number_of.Goals as goal

pub returns-then-octets-le8-clause-number : goal.returns-then-octets-le8-clause-number
returns-then-octets-le8-clause-number c = c.short_magnitude.ensures ∙ ap unsigned_number (sign_free-false c.args.octets.now)
