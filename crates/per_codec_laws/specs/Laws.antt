-- How the records that a reader finds correspond to the forms of values.
use Rattle.std.specs.Prelude.{◌≡◌, ◌↔◌, ℕ, ◌*◌, ◌^◌, ◌<◌, Bool, true, false, IsTrue, List, [], ◌++◌, length}
use Rattle.asn1_model.specs.Schema.{Counts, Size, Schema}
use Rattle.asn1_model.specs.Value.{Value, same}
use Rattle.asn1_model.specs.Lawful.{IsLawful}
use Rattle.asn1_model.specs.Numbers.{is_count_within, octet_bits}
use Rattle.asn1_model.specs.Form.{Reads}
use Rattle.asn1_model.specs.Per
use Rattle.asn1_model.specs.Rules.{Rules, uper, aper, uper_strict, aper_strict, lenient, strict_per, IsEncoding}
use Rattle.asn1_schema_reading_laws.specs.Fitting
use Rattle.asn1_schema_laws.specs.Records.{list_begins}
use Rattle.asn1_schema_laws.specs.Presents.{presents}
use Rattle.asn1_schema_laws.specs.Chains.{Chain, OneRecord}
use Rattle.asn1_schema_reading_laws.specs.Bags.{has_no_bag}
use Rattle.per_codec_laws.specs.Takes.{Position, State, Front, Found, completion, Takes}

-- Among the records that answer the same question at most one is next, as far as a reader can know, and one state
-- follows it, whatever the freedoms.
abbrev pub OneTaken : Type 0
OneTaken = (al : Bool) (free : Per.Freedom → Bool) → OneRecord {S = State} (Takes al free)

-- A list begins with a number of elements that the Rust type holds.
abbrev pub CountHeld : Type 0
CountHeld =
    (al : Bool) (free : Per.Freedom → Bool) (a : State) (z : Size) (h : Counts) (n : ℕ) (b : State)
    → Takes al free a (list_begins z h n) b → is_count_within h n ≡ true

-- The records of a value are next exactly if the bits begin with its form at their position.
abbrev pub Bridges : Bool → (Per.Freedom → Bool) → Schema → Value → Type 0
Bridges al free s v = (a b : State) → Chain (Takes al free) (presents s v) a b ↔ Found free (Per.form al s v) a b

-- If the records of a value of any type are next, the bits begin with its form, and those after it are then left.
-- This holds if the reader accepts bitmaps of other widths and bags in any order, as all readers of PER do.
abbrev pub RecordsRead : Type 0
RecordsRead =
    (al : Bool) (free : Per.Freedom → Bool) (s : Schema) (v : Value) (a b : State) → IsTrue (free Per.other_bitmap)
    → IsTrue (free Per.other_order) → Chain (Takes al free) (presents s v) a b → Found free (Per.form al s v) a b

-- If the bits begin with the form of a value of a well-formed type at their position, then the records are next of a
-- value that is equal up to the order in SET OF.
abbrev pub FormsShow : Type 0
FormsShow =
    (al : Bool) (free : Per.Freedom → Bool) (s : Schema) (v : Value) (a b : State) → IsTrue (free Per.other_bitmap)
    → IsLawful s → Found free (Per.form al s v) a b → (w : Value) × (same v w ≡ true)
    × Chain (Takes al free) (presents s w) a b

-- For a well-formed type without SET OF the records are next exactly there.
abbrev pub EachBridges : Type 0
EachBridges =
    (al : Bool) (free : Per.Freedom → Bool) (s : Schema) (v : Value) → IsTrue (free Per.other_bitmap)
    → IsTrue (free Per.other_order) → IsLawful s → has_no_bag s ≡ true → Bridges al free s v

-- The records that a reader finds belong to a value that has the form of its type.
abbrev pub RecordsFit : Type 0
RecordsFit = (al : Bool) (free : Per.Freedom → Bool) → Fitting.RecordsFit (Takes al free)

-- The records of a value are found at the start of the bits of octets, and the padding of the message after them ends
-- before the rest.
abbrev pub FoundFirst : Bool → (Per.Freedom → Bool) → Schema → Value → List ℕ → List ℕ → Type 0
FoundFirst al free s v w rest =
    (left : Position) × Chain (Takes al free) (presents s v) ((0, octet_bits (w ++ rest)), []) (left, [])
    × Front free (completion left.0) left (8 * length w, octet_bits rest)

-- This holds only if the octets begin with an encoding of the value; and in an encoding of a value of a well-formed
-- type, the records are found of a value that is equal up to the order in SET OF.
abbrev pub FindsIn : Rules → Bool → (Per.Freedom → Bool) → Type 0
FindsIn r al free =
    (s : Schema) (v : Value) (w rest : List ℕ) → length w < 2 ^ 60
    → (FoundFirst al free s v w rest → IsEncoding r s v w)
    × (IsLawful s → IsEncoding r s v w → (u : Value) × (same v u ≡ true) × FoundFirst al free s u w rest)

abbrev pub FindsEncodings : Type 0
FindsEncodings =
    FindsIn uper false lenient × FindsIn aper true lenient × FindsIn uper_strict false strict_per
    × FindsIn aper_strict true strict_per

-- The padding of a message after the records of a value ends at an octet boundary (X.691 11.1).
abbrev pub MessagesEndAtOctets : Type 0
MessagesEndAtOctets =
    (al : Bool) (free : Per.Freedom → Bool) (s : Schema) (v : Value) (os : List ℕ) (left after : Position)
    → IsTrue (free Per.other_bitmap) → IsTrue (free Per.other_order)
    → Chain (Takes al free) (presents s v) ((0, octet_bits os), []) (left, [])
    → Front free (completion left.0) left after → (w : List ℕ) × (rest : List ℕ) × (w ++ rest ≡ os)
    × (after ≡ (8 * length w, octet_bits rest))

-- If the octets begin with a message of a well-formed type, it is padded after the records of whichever value is found.
abbrev pub PaddedMessages : Type 0
PaddedMessages =
    (al : Bool) (free : Per.Freedom → Bool) (s : Schema) (u v : Value) (w rest : List ℕ) (left : Position)
    → IsTrue (free Per.other_bitmap) → IsLawful s → Reads free (Per.message al s v) 0 (octet_bits w)
    → Chain (Takes al free) (presents s u) ((0, octet_bits (w ++ rest)), []) (left, [])
    → Front free (completion left.0) left (8 * length w, octet_bits rest)
