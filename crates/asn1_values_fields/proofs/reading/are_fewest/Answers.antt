use Rattle.std.proofs.Common.{◌<◌, length, arith, refl}
use Rattle.std.proofs.lemmas.Bool.Decides.{nat_tests}
use Rattle.asn1_values_natives.specs.Octets.{signed_number}
use Rattle.asn1_values_fields.proofs.Shortest.{bare, leading_padding, not_fewest, fewest_count, fewest_octets}
use Rattle.asn1_values_fields.proofs.reading.are_fewest.Goals as goal

pub returns-clause-count : goal.returns-clause-count
returns-clause-count c t =
    let os = c.args.octets.now in
    let some : 0 < length os = grind (arith, nat_tests) in
    fewest_count os (signed_number os) c.type_inv.octets refl (bare c.has_padding.result _ c.has_padding.ensures t) some

pub returns-clause-octets : goal.returns-clause-octets
returns-clause-octets c t = fewest_octets c.args.octets.now (signed_number c.args.octets.now) c.type_inv.octets refl

pub returns-clause-longer : goal.returns-clause-longer
returns-clause-longer c f = not_fewest c.args.octets.now c.type_inv.octets (leading_padding c.has_padding.result _ c.has_padding.ensures f)
