-- How an `OctetString` is stored.
use Rattle.std.specs.Prelude.{ℕ, List}
use Rattle.asn1_values_octets.specs.declared.octet_string.Octets.{Octets}
use Rattle.asn1_values_octets.specs.declared.octet_string.Octets.TheVariants.{Few, Shared}

-- the octets that are stored
abbrev pub kept_octets : Octets → List ℕ
kept_octets (Few few) = few.items
kept_octets (Shared octets) = octets
