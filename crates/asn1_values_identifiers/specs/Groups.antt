-- The octets before the last one of a subidentifier, and those of all subidentifiers.
use Rattle.std.specs.Prelude.{ℕ, ◌+◌, List, ◌++◌, map, flat_map}
use Rattle.asn1_model.specs.Numbers.{digits, places}
use Rattle.asn1_model.specs.Strings.{groups_of_seven}

-- the groups of seven bits of a number above 0, with bit 8 set in all of them (X.690 8.19.2)
unfoldable pub leading : ℕ → List ℕ
leading n = map (λ d. d + 128) (digits 128 (places 128 n) n)

-- the octets of a first subidentifier, and of one for each other arc (X.690 8.19)
abbrev pub contents : ℕ → List ℕ → List ℕ
contents first others = groups_of_seven first ++ flat_map groups_of_seven others
