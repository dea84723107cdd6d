-- Bits kept in octets.
use Rattle.std.specs.Prelude.{◌≡◌, ℕ, ◌+◌, ◌*◌, false, List, length, replicate, drop}
use Rattle.asn1_model.specs.Numbers.{missing, octet_bits}

-- octets keep `len` bits: they are as many as these need, and the bits after them are zero
pub record IsKept (len : ℕ) (os : List ℕ) : Type 0 where
  pub size : length os * 8 ≡ len + missing len
  pub zeros : drop len (octet_bits os) ≡ replicate (missing len) false
