-- The octets of bits that are kept.
use Rattle.std.proofs.Common.{◌≡◌, ℕ, ◌<◌, Bool, List, length, take, get_or, ap, sym, ◌∙◌}
use Rattle.asn1_model.specs.Numbers.{octet_bits, packed}
use Rattle.asn1_values_bits.specs.Octets.{padded}
use Rattle.asn1_values_bits.proofs.Packed.{packed-octet_bits}
use Rattle.asn1_values_bits.specs.Kept.{IsKept}
use Rattle.asn1_values_bits.proofs.Kept.{kept_padded}

-- the octets of a kept list are its bits padded
pub kept_octets : (len : ℕ) (os : List ℕ) (v : List Bool) → ((k : ℕ) → k < length os → get_or os k 0 < 256) → IsKept len os → take len (octet_bits os) ≡ v → os ≡ packed (padded v)
kept_octets len os v h k e = sym (packed-octet_bits os h) ∙ ap packed (kept_padded len os v k e)
