use Rattle.std.proofs.Common.{◌≡◌, length, flat_map, fold}
use Rattle.std.specs.Hash as fed
use Rattle.asn1_model.specs.Numbers.{packed}
use Rattle.asn1_values_bits.specs.BitStr.{bits_of}
use Rattle.asn1_values_bits.specs.Octets.{padded}
use Rattle.asn1_values_bits.proofs.bit_views_traits.BitStrHash.hash.Given as goal

abbrev pub invariant-loop-rest : goal.invariant-loop-rest
invariant-loop-rest g l = fold g.H.Hasher.write l.state (flat_map fed.u8 (packed (padded (bits_of l.rest))))
    ≡ fold g.H.Hasher.write l.initial.state (flat_map fed.u8 (packed (padded (bits_of l.initial.rest))))

abbrev pub decreases-loop-rest : goal.decreases-loop-rest
decreases-loop-rest g l = length (bits_of l.rest)
