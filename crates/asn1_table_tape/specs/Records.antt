-- The records that are kept of a value of a type of a table.
use Rattle.std.specs.Prelude.{ℕ, ℤ, Bool, false, List, [], map, Option, Some, None, slice_get}
use Rattle.asn1_model.specs.Schema.{any_count, any_size, any_alphabet}
use Rattle.asn1_schema_constraints.specs.Bounds.{members_of}
use Rattle.asn1_schema_constraints.specs.Terms.{size_of}
use Rattle.asn1_schema_constraints.specs.declared.bounds.Bounded.TheVariants.{None as Unbounded}
use Rattle.asn1_schema_laws.specs.Records.{Record, flag, whole, list_begins, further, sequence_begins, presence_bit}
use Rattle.asn1_schema_laws.specs.Records.{additions_begin, addition, addition_ends, ends, nil}
use Rattle.asn1_schema_laws.specs.Records.{one_of, bits, octets, characters, identifier, bag_begins, set_begins}
use Rattle.asn1_schema_laws.specs.Records.{group_begins, choice_begins}
use Rattle.asn1_schema_tags.specs.Chosen.{ChoiceTags}
use Rattle.asn1_schema_tags.specs.declared.chosen.Chosen.{Chosen}
use Rattle.asn1_table_tape.specs.Strings.{kind_in, text_of}
use Rattle.asn1_table_tape.specs.declared.strings.CharacterString.{CharacterString}
use Rattle.asn1_table_tape.specs.declared.tape.Event.{Event}
use Rattle.asn1_table_tape.specs.declared.tape.Event.TheVariants.{Flag, Number, ListBegins, Further, SequenceBegins}
use Rattle.asn1_table_tape.specs.declared.tape.Event.TheVariants.{PresenceBit, AdditionsBegin, Addition}
use Rattle.asn1_table_tape.specs.declared.tape.Event.TheVariants.{AdditionEnds, GroupBegins, ChoiceBegins}
use Rattle.asn1_table_tape.specs.declared.tape.Event.TheVariants.{Ends, SetBegins, Text, Nil, Item, Bits, Octets}
use Rattle.asn1_table_tape.specs.declared.tape.Event.TheVariants.{Arcs}
use Rattle.asn1_table_types.specs.Choices.{tags_at}
use Rattle.asn1_table_nodes.specs.Meaning.{bounds_in, held_in, alphabet_in}
use Rattle.asn1_table_nodes.specs.declared.nodes.TypeNode.{TypeNode}
use Rattle.asn1_table_nodes.specs.declared.nodes.TypeNode.TheVariants.{Integer, Enumerated, BitString}
use Rattle.asn1_table_nodes.specs.declared.nodes.TypeNode.TheVariants.{OctetString, SequenceOf, SetOf}
use Rattle.asn1_table_nodes.specs.declared.nodes.TypeNode.TheVariants as node

-- A number, by the type at its index; of any other type there it has no value constraint.
abbrev pub number_record : Option TypeNode → ℤ → Record
number_record (Some (Integer l)) v = whole (bounds_in l) (held_in l) v
number_record o v = whole (bounds_in None) (held_in None) v

-- An item, bits and octets likewise.
abbrev pub item_record : Option TypeNode → ℤ → Record
item_record (Some (Enumerated t)) v = one_of t.root.items t.is_extensible t.additions.items v
item_record o v = one_of [] false [] v

abbrev pub bits_record : Option TypeNode → List Bool → Record
bits_record (Some (BitString z)) bs = bits (size_of z) any_count bs
bits_record o bs = bits any_size any_count bs

abbrev pub octets_record : Option TypeNode → List ℕ → Record
octets_record (Some (OctetString z)) os = octets (size_of z) any_count os
octets_record o os = octets any_size any_count os

-- The kind of a string is its own.
abbrev pub text_record : Option TypeNode → CharacterString → Record
text_record (Some (node.CharacterString t)) x =
    characters (kind_in x) (size_of t.sizes) (alphabet_in t.alphabet) any_count (text_of x)
text_record o x = characters (kind_in x) any_size any_alphabet any_count (text_of x)

-- The beginning of a list, by the type at its index; of any other type there it has no size constraint.
abbrev pub list_record : Option TypeNode → ℕ → Record
list_record (Some (SequenceOf z i)) n = list_begins (size_of z) (members_of Unbounded) n
list_record (Some (SetOf z i)) n = bag_begins (size_of z) (members_of Unbounded) n
list_record o n = list_begins any_size (members_of Unbounded) n

-- The beginning of a CHOICE, by the tags of the type at its place; any other type there has none.
abbrev pub choice_record : Option ChoiceTags → Chosen → Record
choice_record None c = choice_begins [] false [] c.added c.place
choice_record (Some t) c = choice_begins t.roots t.extensible t.additions c.added c.place

-- The record that an event is, by the table of its type.
abbrev pub record_of : List TypeNode → Event → Record
record_of ns (Flag b) = flag b
record_of ns Nil = nil
record_of ns (Item i v) = item_record (slice_get ns i) v
record_of ns (Bits i bs) = bits_record (slice_get ns i) bs
record_of ns (Octets i os) = octets_record (slice_get ns i) os
record_of ns (Text i x) = text_record (slice_get ns i) x
record_of ns (Arcs arcs) = identifier arcs
record_of ns (Number i v) = number_record (slice_get ns i) v
record_of ns (ListBegins i n) = list_record (slice_get ns i) n
record_of ns (Further b) = further b
record_of ns (SequenceBegins e n) = sequence_begins e n
record_of ns (SetBegins e n) = set_begins e n
record_of ns (GroupBegins n) = group_begins n
record_of ns (ChoiceBegins i c) = choice_record (tags_at ns i) c
record_of ns (PresenceBit b) = presence_bit b
record_of ns (AdditionsBegin n) = additions_begin n
record_of ns (Addition b) = addition b
record_of ns AdditionEnds = addition_ends
record_of ns Ends = ends

abbrev pub records_of : List TypeNode → List Event → List Record
records_of ns es = map (λ e. record_of ns e) es
