use Rattle.std.proofs.Common.{inr, subst}
use Rattle.asn1_values_alphabets.specs.Permitted.{IsRefusalOf}
use Rattle.per_codec_reading_values.proofs.OctetCodeFronts.{not_all}
use Rattle.per_codec_reading_values.proofs.character_string.string_of_characters.Goals as goal

pub returns-in-Err-InvalidRestrictedString-clause-refused : goal.returns-in-Err-InvalidRestrictedString-clause-refused
returns-in-Err-InvalidRestrictedString-clause-refused g c =
    let S = g.S.StaticPermittedAlphabet in
    let os = c.args.octets.now in
    let w = c.in-Err-InvalidRestrictedString in
    inr (not_all S.kind S.refused os w.field-0-0 (subst (IsRefusalOf S.kind S.refused os) w.field-0-is w.ensures.refused))
