-- Where lexical items are.
use Rattle.std.specs.Prelude.{ℕ, Bool, ◌&&◌, nat_lt, nat_le}
use Rattle.asn1_notation_tokens.specs.declared.items.Item.{Item}

-- An item has octets, and they are inside a text of this length.
abbrev pub is_inside : ℕ → Item → Bool
is_inside n i = nat_lt i.start i.end && nat_le i.end n
