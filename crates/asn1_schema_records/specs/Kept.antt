-- What the plain codec keeps: the records themselves, without the bounds of the user-defined types; of character
-- strings not their kind and alphabet, only whether they are UTF8String; of enumerations and choices not the tables of
-- their items and alternatives.
use Rattle.std.specs.Prelude.{◌≡◌, ◌++◌, Bool, true, false, List, [], ◌∷◌, None, string_bytes}
use Rattle.asn1_model.specs.Schema.{Bounds, Size, StringKind, any_count, any_number, any_alphabet, utf8, visible}
use Rattle.asn1_schema_errors.specs.declared.CodecKind.{CodecKind}
use Rattle.asn1_schema_errors.specs.declared.EncodeError.{EncodeError}
use Rattle.asn1_schema_errors.specs.declared.EncodeError.TheVariants.{OutOfMemory}
use Rattle.asn1_schema_laws.specs.Records.{Record, flag, nil, whole, one_of, bits, octets, characters}
use Rattle.asn1_schema_laws.specs.Records.{identifier, list_begins, bag_begins, further, sequence_begins}
use Rattle.asn1_schema_laws.specs.Records.{set_begins}
use Rattle.asn1_schema_laws.specs.Records.{group_begins, presence_bit, is_default, is_empty}
use Rattle.asn1_schema_laws.specs.Records.{additions_begin, addition, addition_ends, choice_begins, ends}
use Rattle.asn1_schema_records.specs.declared.items.Limits.{Limits}
use Rattle.asn1_schema_records.specs.declared.items.Sizes.{Sizes}
use Rattle.asn1_schema_records.specs.declared.items.Item.{Item}
use Rattle.asn1_schema_records.specs.declared.items.Item.TheVariants.{Flag, Null, Integer, OneOf, Bits, Octets, Text}
use Rattle.asn1_schema_records.specs.declared.items.Item.TheVariants.{Characters, Identifier, ListBegins, BagBegins}
use Rattle.asn1_schema_records.specs.declared.items.Item.TheVariants.{Further, SequenceBegins, SetBegins}
use Rattle.asn1_schema_records.specs.declared.items.Item.TheVariants.{GroupBegins, PresenceBit, IsDefault, IsEmpty}
use Rattle.asn1_schema_records.specs.declared.items.Item.TheVariants.{AdditionsBegin, Addition, AdditionEnds}
use Rattle.asn1_schema_records.specs.declared.items.Item.TheVariants.{ChoiceBegins, Ends}

-- Bounds in the terms of the model.
abbrev pub bounds_in : Limits → Bounds
bounds_in l = record { range = record { low = l.low; high = l.high }; extensible = l.extensible }

-- Sizes in the terms of the model.
abbrev pub sizes_in : Sizes → Size
sizes_in z = record { counts = record { low = z.low; high = z.high }; extensible = z.extensible }

-- UTF8String, or one kind in place of all other kinds of character strings.
abbrev pub kept_kind : StringKind → StringKind
kept_kind utf8 = utf8
kept_kind k = visible

-- A record without the bounds of the user-defined type, and without tables.
abbrev pub kept : Record → Record
kept (whole b h v) = whole b any_number v
kept (one_of roots e adds v) = one_of [] e [] v
kept (bits z h bs) = bits z any_count bs
kept (octets z h os) = octets z any_count os
kept (characters k z a h cs) = characters (kept_kind k) z any_alphabet any_count cs
kept (list_begins z h n) = list_begins z any_count n
kept (bag_begins z h n) = bag_begins z any_count n
kept (choice_begins roots e adds added i) = choice_begins [] e [] added i
kept r = r

-- The record that an item is.
abbrev pub record_of : Item → Record
record_of (Flag b) = flag b
record_of Null = nil
record_of (Integer l v) = whole (bounds_in l) any_number v
record_of (OneOf e v) = one_of [] e [] v
record_of (Bits z b) = bits (sizes_in z) any_count b
record_of (Octets z o) = octets (sizes_in z) any_count o.items
record_of (Text z s) = characters utf8 (sizes_in z) any_alphabet any_count (string_bytes s)
record_of (Characters z c) = characters visible (sizes_in z) any_alphabet any_count c.items
record_of (Identifier i) = identifier i
record_of (ListBegins z n) = list_begins (sizes_in z) any_count n
record_of (BagBegins z n) = bag_begins (sizes_in z) any_count n
record_of (Further b) = further b
record_of (SequenceBegins e n) = sequence_begins e n
record_of (SetBegins e n) = set_begins e n
record_of (GroupBegins n) = group_begins n
record_of (PresenceBit b) = presence_bit b
record_of IsDefault = is_default
record_of IsEmpty = is_empty
record_of (AdditionsBegin n) = additions_begin n
record_of (Addition b) = addition b
record_of AdditionEnds = addition_ends
record_of (ChoiceBegins e c) = choice_begins [] e [] c.added c.place
record_of Ends = ends

-- The state of an encoder: the records so far, whether it has failed, and its encoding rules.
pub record Written : Type 0 where
  pub records : List Record
  pub failed : Bool
  pub rules : CodecKind

-- A record is kept after the others.
abbrev pub Puts : Written → Record → Written → Type 0
Puts old r new = (old.failed ≡ false)
    × (new ≡ record { records = old.records ++ kept r ∷ []; failed = false; rules = old.rules })

-- Why the encoder fails: memory ran out, or it has failed before.
pub record Refusal (failed : Bool) (x : EncodeError) : Type 0 where
  pub had_failed : ¬ (x ≡ OutOfMemory) → failed ≡ true
