-- Equal numbers are hashed alike.
use Rattle.std.proofs.Common.{◌≡◌, ℤ, ap, IsTrue}
use Rattle.std.specs.Ordering.{int_eq}
use Rattle.std.specs.Hash as fed
use Rattle.std.proofs.lemmas.Bool.Decides.{Decides-int_eq}
use Rattle.asn1_values_natives.specs.Octets.{signed_octets_of}

pub same_writes : (x y : ℤ) → IsTrue (int_eq x y) → fed.slice fed.u8 (signed_octets_of x)
    ≡ fed.slice fed.u8 (signed_octets_of y)
same_writes x y e = ap (λ z. fed.slice fed.u8 (signed_octets_of z)) ((Decides-int_eq x y).0 e)
