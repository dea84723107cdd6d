-- At most one prefix in each set of rules.
use Rattle.asn1_model.specs.Rules.{Rules, uper, aper, uper_strict, aper_strict, oer, coer}
use Rattle.asn1_laws_fronts.specs.Laws.{OneFrontIn}
use Rattle.asn1_laws_fronts.proofs.Forms.{one_front_uper, one_front_aper, one_front_uper_strict, one_front_aper_strict}
use Rattle.asn1_laws_fronts.proofs.OctetForms.{one_front_oer, one_front_coer}

pub one_front : (r : Rules) → OneFrontIn r
one_front uper = one_front_uper
one_front aper = one_front_aper
one_front uper_strict = one_front_uper_strict
one_front aper_strict = one_front_aper_strict
one_front oer = one_front_oer
one_front coer = one_front_coer
