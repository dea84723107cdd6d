use Rattle.std.proofs.Common.{◌∙◌, sym}
use Rattle.asn1_values_integers.proofs.KindLaws.{signed-from_plain, plain-from_plain}
use Rattle.asn1_values_integers.proofs.integer.Integer.from_unsigned_octets.Goals as goal

pub long-requires-clause-large : goal.long-requires-clause-large
long-requires-clause-large c =
    plain-from_plain c.args.octets.now c.without_leading.result.now c.in-Ok.kept.items c.without_leading.ensures.same c.in-Ok.ensures (sym c.in_default.ensures.fits)

pub returns-in-Ok-clause-value : goal.returns-in-Ok-clause-value
returns-in-Ok-clause-value c =
    c.long.ensures ∙ signed-from_plain c.args.octets.now c.without_leading.result.now c.in-Ok.kept.items c.without_leading.ensures.same c.in-Ok.ensures
