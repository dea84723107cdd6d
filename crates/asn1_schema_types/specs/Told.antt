-- The records of a value under constraints of a Rust value, and the questions of a decoder.
use Rattle.std.specs.Prelude.{ℕ, ℤ, Bool, List}
use Rattle.asn1_model.specs.Schema.{Range, StringKind, Schema}
use Rattle.asn1_model.specs.Schema.{any_count}
use Rattle.asn1_schema_constraints.specs.Bounds.{counts_of, members_of}
use Rattle.asn1_schema_constraints.specs.Terms.{bounds_of, held_of, sizes_of, alphabet_of}
use Rattle.asn1_schema_constraints.specs.declared.bounds.Bounded.{Bounded}
use Rattle.asn1_schema_constraints.specs.declared.lists.Constraints.{Constraints}
use Rattle.asn1_schema_laws.specs.Records.{Record, whole, bits, octets, characters, list_begins, bag_begins}
use Rattle.asn1_schema_laws.specs.Records.{Question, asks_whole, asks_bits, asks_octets, asks_characters}
use Rattle.asn1_schema_laws.specs.Records.{asks_list, asks_bag}
use Rattle.asn1_schema_laws.specs.Tables.{list_type}

-- A number, in a user-defined type that holds these numbers (X.680 19).
abbrev pub whole_under : Constraints → Range → ℤ → Record
whole_under c held v = whole (bounds_of c.value) (held_of c.value held) v

abbrev pub asks_whole_under : Constraints → Range → Question
asks_whole_under c held = asks_whole (bounds_of c.value) (held_of c.value held)

-- Bits, in a user-defined type that holds these counts (X.680 22).
abbrev pub bits_under : Constraints → Bounded ℕ → List Bool → Record
bits_under c held v = bits (sizes_of c.size) (counts_of held) v

abbrev pub asks_bits_under : Constraints → Bounded ℕ → Question
asks_bits_under c held = asks_bits (sizes_of c.size) (counts_of held)

-- Octets, in a user-defined type that holds these counts (X.680 23).
abbrev pub octets_under : Constraints → Bounded ℕ → List ℕ → Record
octets_under c held v = octets (sizes_of c.size) (counts_of held) v

abbrev pub asks_octets_under : Constraints → Bounded ℕ → Question
asks_octets_under c held = asks_octets (sizes_of c.size) (counts_of held)

-- The characters of a string of this kind (X.680 41).
abbrev pub characters_under : StringKind → Constraints → List ℕ → Record
characters_under k c v = characters k (sizes_of c.size) (alphabet_of c.permitted_alphabet) any_count v

abbrev pub asks_characters_under : StringKind → Constraints → Question
asks_characters_under k c = asks_characters k (sizes_of c.size) (alphabet_of c.permitted_alphabet) any_count

-- The beginning of a list with a number of elements, in a user-defined type that holds these counts (X.680 26 and 28).
abbrev pub list_begins_under : Constraints → Bounded ℕ → ℕ → Record
list_begins_under c held n = list_begins (sizes_of c.size) (members_of held) n

abbrev pub asks_list_under : Constraints → Bounded ℕ → Question
asks_list_under c held = asks_list (sizes_of c.size) (members_of held)

abbrev pub bag_begins_under : Constraints → Bounded ℕ → ℕ → Record
bag_begins_under c held n = bag_begins (sizes_of c.size) (members_of held) n

abbrev pub asks_bag_under : Constraints → Bounded ℕ → Question
asks_bag_under c held = asks_bag (sizes_of c.size) (members_of held)

-- SEQUENCE OF a type under constraints of a Rust value, in a user-defined type that holds these counts of elements
-- (X.680 26).
abbrev pub list_under : Constraints → Bounded ℕ → (ℕ → Schema) → ℕ → Schema
list_under c held s = list_type (sizes_of c.size) (members_of held) s
