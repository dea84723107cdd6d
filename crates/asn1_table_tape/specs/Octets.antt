-- The octets of an OCTET STRING on a tape.
use Rattle.std.specs.Prelude.{ℕ, List, take}
use Rattle.asn1_table_tape.specs.declared.octets.Kept.{Kept}
use Rattle.asn1_table_tape.specs.declared.octets.Kept.TheVariants.{Few, Many}

-- The octets that are kept.
abbrev pub kept_octets : Kept → List ℕ
kept_octets (Few few) = take few.count few.octets
kept_octets (Many octets) = octets.items
