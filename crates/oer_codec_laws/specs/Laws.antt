-- How the records that a reader finds correspond to the forms of values.
use Rattle.std.specs.Prelude.{◌≡◌, ◌↔◌, ℕ, ◌^◌, ◌<◌, Bool, true, IsTrue, List, [], length}
use Rattle.asn1_model.specs.Schema.{Counts, Size, Schema}
use Rattle.asn1_model.specs.Value.{Value, same}
use Rattle.asn1_model.specs.Lawful.{IsLawful}
use Rattle.asn1_model.specs.Numbers.{is_count_within}
use Rattle.asn1_model.specs.Oer
use Rattle.asn1_model.specs.Rules.{Rules, oer, coer, lenient, strict_oer, IsEncoding}
use Rattle.asn1_schema_reading_laws.specs.Bags.{has_no_bag}
use Rattle.asn1_schema_reading_laws.specs.Fitting
use Rattle.asn1_schema_laws.specs.Records.{list_begins}
use Rattle.asn1_schema_laws.specs.Presents.{presents}
use Rattle.asn1_schema_laws.specs.Chains.{Chain, OneRecord}
use Rattle.oer_codec_laws.specs.Takes.{State, Found, Takes}

-- Among the records that answer the same question at most one is next, as far as a reader can know, and one state
-- follows it, whatever the freedoms.
abbrev pub OneTaken : Type 0
OneTaken = (free : Oer.Freedom → Bool) → OneRecord {S = State} (Takes free)

-- A list begins with a number of elements that the Rust type holds.
abbrev pub CountHeld : Type 0
CountHeld =
    (free : Oer.Freedom → Bool) (a : State) (z : Size) (h : Counts) (n : ℕ) (b : State)
    → Takes free a (list_begins z h n) b → is_count_within h n ≡ true

-- If the records of a value are next, the octets begin with its form, and those after it are then left. This holds in
-- each type if the reader accepts bitmaps of other widths and bags in any order, as readers of OER and COER do.
abbrev pub RecordsRead : Type 0
RecordsRead =
    (free : Oer.Freedom → Bool) (s : Schema) (v : Value) (a b : State) → IsTrue (free Oer.other_bitmap)
    → IsTrue (free Oer.other_order) → Chain (Takes free) (presents s v) a b → Found free (Oer.form s v) a b

-- If the octets begin with the form of a value of a well-formed type, then the records are next of a value that is
-- equal up to the order in SET OF.
abbrev pub FormsShow : Type 0
FormsShow =
    (free : Oer.Freedom → Bool) (s : Schema) (v : Value) (a b : State) → IsTrue (free Oer.other_bitmap) → IsLawful s
    → Found free (Oer.form s v) a b → (w : Value) × (same v w ≡ true) × Chain (Takes free) (presents s w) a b

-- The records of a value are next exactly if the octets begin with its form.
abbrev pub Bridges : (Oer.Freedom → Bool) → Schema → Value → Type 0
Bridges free s v = (a b : State) → Chain (Takes free) (presents s v) a b ↔ Found free (Oer.form s v) a b

-- This holds for a well-formed type without SET OF.
abbrev pub EachBridges : Type 0
EachBridges =
    (free : Oer.Freedom → Bool) (s : Schema) (v : Value) → IsTrue (free Oer.other_bitmap)
    → IsTrue (free Oer.other_order) → IsLawful s → has_no_bag s ≡ true → Bridges free s v

-- The records that a reader finds belong to a value that has the form of its type.
abbrev pub RecordsFit : Type 0
RecordsFit = (free : Oer.Freedom → Bool) → Fitting.RecordsFit (Takes free)

-- A reader that starts at some octets finds the records of a value and leaves nothing exactly if they are an encoding
-- of it, up to the order in SET OF.
abbrev pub FindsIn : Rules → (Oer.Freedom → Bool) → Type 0
FindsIn r free =
    (s : Schema) (v : Value) (w : List ℕ) → length w < 2 ^ 60
    → (Chain (Takes free) (presents s v) (w, []) ([], []) → IsEncoding r s v w)
    × (IsLawful s → IsEncoding r s v w → (u : Value) × (same v u ≡ true)
    × Chain (Takes free) (presents s u) (w, []) ([], []))

abbrev pub FindsEncodings : Type 0
FindsEncodings = FindsIn oer lenient × FindsIn coer strict_oer
