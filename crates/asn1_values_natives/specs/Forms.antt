-- The octets of an `IntegerBytes`.
use Rattle.std.specs.Prelude.{ℕ, ◌≤◌, List, length, drop}
use Rattle.asn1_values_natives.specs.declared.bytes.Form.{Form}
use Rattle.asn1_values_natives.specs.declared.bytes.Form.TheVariants.{Inline, Lent}

-- the octets that it shows
abbrev pub shown_octets : Form → List ℕ
shown_octets (Inline octets start) = drop start octets
shown_octets (Lent octets) = octets.now

-- the start of the octets is within them
abbrev pub IsForm : Form → Type 0
IsForm (Inline octets start) = start ≤ length octets
IsForm (Lent octets) = Unit {0}
