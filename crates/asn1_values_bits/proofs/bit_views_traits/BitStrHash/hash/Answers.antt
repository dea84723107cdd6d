use Rattle.std.proofs.Common.{ap, sym, ◌∙◌, flat_map, fold}
use Rattle.std.specs.Hash as fed
use Rattle.asn1_model.specs.Numbers.{packed}
use Rattle.asn1_values_bits.specs.BitStr.{bits_of}
use Rattle.asn1_values_bits.specs.Octets.{padded}
use Rattle.asn1_values_bits.proofs.bit_views_traits.BitStrHash.hash.Goals as goal

pub loop-rest-preserved : goal.loop-rest-preserved
loop-rest-preserved g c =
    let W = g.H.Hasher.write in
    ap (λ s. fold W s (flat_map fed.u8 (packed (padded (bits_of c.split_octet-octet.result.1))))) c.write_u8.ensures
    ∙ ap (λ l. fold W c.loop-rest.state (flat_map fed.u8 l)) (sym c.split_octet-octet.ensures.octets)
    ∙ c.loop-rest.invariant
