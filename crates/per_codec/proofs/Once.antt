-- At most one prefix of any octets is an encoding.
use Rattle.asn1_laws_fronts.specs.Laws.{OneFrontIn}
use Rattle.asn1_laws_fronts.proofs.Forms.{one_front_uper, one_front_aper, one_front_uper_strict, one_front_aper_strict}
use Rattle.per_codec_reading.specs.declared.rules.PackedRules.{PackedRules}
use Rattle.per_codec_reading.specs.declared.rules.PackedRules.TheVariants.{Uper, Aper, UperStrict, AperStrict}
use Rattle.per_codec.specs.Messages.{rules_of}

pub one_front : (rules : PackedRules) → OneFrontIn (rules_of rules)
one_front Uper = one_front_uper
one_front Aper = one_front_aper
one_front UperStrict = one_front_uper_strict
one_front AperStrict = one_front_aper_strict
