-- At most one prefix of any octets is an encoding.
use Rattle.asn1_laws_fronts.specs.Laws.{OneFrontIn}
use Rattle.asn1_laws_fronts.proofs.OctetForms.{one_front_oer, one_front_coer}
use Rattle.oer_codec_reading.specs.declared.rules.EncodingRules.{EncodingRules}
use Rattle.oer_codec_reading.specs.declared.rules.EncodingRules.TheVariants.{Oer, Coer}
use Rattle.oer_codec.specs.Messages.{rules_of}

pub one_front : (rules : EncodingRules) → OneFrontIn (rules_of rules)
one_front Oer = one_front_oer
one_front Coer = one_front_coer
