use Rattle.std.proofs.Common.{◌∙◌, ap, length, map, ◌-◌, false}
use Rattle.std.proofs.lemmas.List.{take_rest}
use Rattle.asn1_values_natives.specs.Octets.{unsigned_number, sign_free}
use Rattle.asn1_values_integers.proofs.LowBits.{low-bits}
use Rattle.asn1_values_integers.proofs.integer.last_sixteen.Goals as goal

pub returns : goal.returns
returns c =
    low-bits c.args.octets.now c.magnitude.result c.type_inv.octets c.requires.many
    (c.magnitude.ensures.value ∙ ap (λ l. unsigned_number (map (sign_free false) l)) (take_rest c.args.octets.now (length c.args.octets.now - 16)))
