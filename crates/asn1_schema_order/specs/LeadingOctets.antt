-- The first octets of an encoding as a number, by which encodings are compared first.
use Rattle.std.specs.Prelude.{ℕ, zero, suc, ◌+◌, ◌*◌, ◌^◌, List, [], ◌∷◌}
use Rattle.asn1_schema_order.specs.declared.encodings.Entry.{Entry}
use Rattle.asn1_schema_order.specs.Entries.{octets_of}

-- the first octets as a number, a given count of them, the most significant first; missing octets are zero
abbrev pub leading : ℕ → List ℕ → ℕ
leading zero octets = 0
leading (suc n) [] = 0
leading (suc n) (o ∷ os) = o * 256 ^ n + leading n os

-- the number that the first eight octets of an entry encode, followed by all its octets
abbrev pub fronted : Entry → List ℕ
fronted e = e.front ∷ octets_of e
