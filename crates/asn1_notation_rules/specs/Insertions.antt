-- Extension insertion points (X.680 25.1 and 52.1).
use Rattle.std.specs.Prelude.{Bool, true, false, List, [], Option, Some, None}
use Rattle.asn1_notation_rules.specs.declared.insertion.Extension.{Extension}
use Rattle.asn1_notation_rules.specs.declared.insertion.Written.{Written}

-- What follows the second extension marker.
abbrev pub later_in : {T : Type 0} → Option (Extension T) → List T
later_in None = []
later_in (Some e) = e.later.items

-- What follows the first extension marker, up to the second.
abbrev pub additions_in : {T : Type 0} → Option (Extension T) → List T
additions_in None = []
additions_in (Some e) = e.additions.items

abbrev pub is_marked : {T : Type 0} → Option (Extension T) → Bool
is_marked None = false
is_marked (Some e) = true

abbrev pub later_of : {T : Type 0} → Written T → List T
later_of w = later_in w.extension

abbrev pub additions_of : {T : Type 0} → Written T → List T
additions_of w = additions_in w.extension

-- An extension marker is written.
abbrev pub is_extended : {T : Type 0} → Written T → Bool
is_extended w = is_marked w.extension
