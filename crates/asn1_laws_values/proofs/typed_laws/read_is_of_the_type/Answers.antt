use Rattle.std.proofs.Common.{true, false}
use Rattle.asn1_model.specs.Rules.{uper, aper, uper_strict, aper_strict, oer, coer, IsEncoding}
use Rattle.asn1_laws_values.proofs.PerRead.{message_of}
use Rattle.asn1_laws_values.proofs.OerRead.{octets_are_of}
use Rattle.asn1_laws_values.proofs.typed_laws.read_is_of_the_type.Goals as goal

pub returns : goal.returns
unfolding IsEncoding
returns c uper s v w e = message_of _ false s v _ e.1
returns c aper s v w e = message_of _ true s v _ e.1
returns c uper_strict s v w e = message_of _ false s v _ e.1
returns c aper_strict s v w e = message_of _ true s v _ e.1
returns c oer s v w e = octets_are_of _ s v w e.1
returns c coer s v w e = octets_are_of _ s v w e.1
