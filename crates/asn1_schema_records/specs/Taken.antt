-- How the decoder of kept records takes them: a record is taken exactly if it is next and the user-defined type can
-- hold it.
use Rattle.asn1_model.specs.Schema.{any_number}
use Rattle.asn1_model.specs.Schema.{any_alphabet}
use Rattle.std.specs.Prelude.{◌≡◌, ◌+◌, ◌<◌, ◌≤◌, ◌^◌, ◌⊎◌, ◌||◌, ℕ, ℤ, Bool, true, false}
use Rattle.std.specs.Prelude.{cond, List, [], ◌∷◌, Option, length}
use Rattle.asn1_model.specs.Schema.{Tag, Range, Bounds, Counts, Size, StringKind, utf8, visible, any_count}
use Rattle.asn1_model.specs.Numbers.{is_within, is_count_within}
use Rattle.asn1_model.specs.Strings.{may_hold}
use Rattle.asn1_schema_errors.specs.declared.CodecKind.{CodecKind}
use Rattle.asn1_schema_errors.specs.declared.DecodeError.{DecodeError}
use Rattle.asn1_schema_errors.specs.declared.DecodeError.TheVariants.{Incomplete, NotValidCanonicalEncoding}
use Rattle.asn1_schema_errors.specs.declared.DecodeError.TheVariants.{SizeConstraintNotSatisfied}
use Rattle.asn1_schema_errors.specs.declared.DecodeError.TheVariants.{ExceedsMaxParseDepth, IntegerOverflow}
use Rattle.asn1_schema_errors.specs.declared.DecodeError.TheVariants.{PermittedAlphabet, ValueConstraintNotSatisfied}
use Rattle.asn1_schema_errors.specs.declared.DecodeError.TheVariants.{DiscriminantValueNotFound}
use Rattle.asn1_schema_errors.specs.declared.DecodeError.TheVariants.{InvalidTagVariantOnChoice}
use Rattle.asn1_schema_errors.specs.declared.DecodeError.TheVariants.{OutOfMemory as NoRoom}
use Rattle.asn1_schema_errors.specs.declared.DecodeError.TheVariants.{AlreadyFailed as HadFailed}
use Rattle.asn1_schema_constraints.specs.Terms.{bounds_of, admits_whole}
use Rattle.asn1_schema_constraints.specs.declared.extensions.Extensible.{Extensible}
use Rattle.asn1_schema_constraints.specs.declared.parts.Value.{Value}
use Rattle.asn1_values_alphabets.specs.Permitted.{permits_all}
use Rattle.asn1_values_natives.specs.Octets.{plain}
use Rattle.asn1_schema_laws.specs.Records.{Record, Question, question, whole, one_of, bits, octets, characters}
use Rattle.asn1_schema_laws.specs.Records.{list_begins, bag_begins, choice_begins, asks_list, asks_bag}
use Rattle.asn1_schema_laws.specs.Records.{asks_sequence, asks_set, asks_group, asks_choice, asks_end, ends}
use Rattle.asn1_schema_records.specs.Kept.{kept_kind}
use Rattle.asn1_schema_tags.specs.Items.{IsItem, IsNone}

-- The state of a decoder: the records that are left, how many more levels may be nested, how many could be at the
-- start, whether it has failed, and its encoding rules.
pub record Left : Type 0 where
  pub records : List Record
  pub levels : ℕ
  pub most : ℕ
  pub failed : Bool
  pub rules : CodecKind

-- A string of this kind may hold these characters. A UTF8String is kept as a string of characters.
abbrev pub MayHold : StringKind → List ℕ → Type 0
MayHold utf8 cs = Unit {0}
MayHold k cs = may_hold k cs ≡ true

-- The kept record answers the question for this record: the bounds of the type are equal, the user-defined type can
-- hold the value, and bounds without an extension marker allow it. An enumeration has an item with this number, and a
-- choice has an alternative with this index. The record of a SEQUENCE OF or SET OF may have any count of elements that
-- the type can hold, as a decoder does not return it, if the type can hold the count that is kept.
abbrev pub IsKept : Record → Record → Type 0
IsKept k (whole b h v) = (k ≡ whole b any_number v) × (is_within h v ≡ true)
    × ((b.extensible || is_within b.range v) ≡ true)
IsKept k (one_of roots e adds v) = (k ≡ one_of [] e [] v) × IsItem roots e adds v
IsKept k (bits z h bs) = (k ≡ bits z any_count bs) × (is_count_within h (length bs) ≡ true)
IsKept k (octets z h os) = (k ≡ octets z any_count os) × (is_count_within h (length os) ≡ true)
IsKept k (characters t z a h cs) = (k ≡ characters (kept_kind t) z any_alphabet any_count cs) × MayHold t cs
IsKept k (list_begins z h n) = (m : ℕ) × (k ≡ list_begins z any_count m) × (is_count_within h m ≡ true)
    × (is_count_within h n ≡ true)
IsKept k (bag_begins z h n) = (m : ℕ) × (k ≡ bag_begins z any_count m) × (is_count_within h m ≡ true)
    × (is_count_within h n ≡ true)
IsKept k (choice_begins roots e adds added i) = (k ≡ choice_begins [] e [] added i)
    × (i < length (cond added adds roots))
IsKept k r = k ≡ r

-- How the question changes the levels: what begins takes one, and its end returns it.
abbrev pub Levels : Question → Left → Left → Type 0
Levels (asks_list z h) old new = old.levels ≡ new.levels + 1
Levels (asks_bag z h) old new = old.levels ≡ new.levels + 1
Levels (asks_sequence e n) old new = old.levels ≡ new.levels + 1
Levels (asks_set e n) old new = old.levels ≡ new.levels + 1
Levels (asks_group n) old new = old.levels ≡ new.levels + 1
Levels (asks_choice r e a) old new = old.levels ≡ new.levels + 1
Levels asks_end old new = (new.levels ≡ old.levels + 1) × (new.levels ≤ old.most)
Levels q old new = new.levels ≡ old.levels

-- A decoder that has not failed takes the first of the records that are left.
pub record Takes (old : Left) (r : Record) (new : Left) : Type 0 where
  pub ready : old.failed ≡ false
  pub front : Record
  pub taken : old.records ≡ front ∷ new.records
  pub is_kept : IsKept front r
  pub levels : Levels (question r) old new
  pub most : new.most ≡ old.most
  pub ready_still : new.failed ≡ false
  pub rules : new.rules ≡ old.rules

-- The first record is taken, and nothing else changes.
pub record Leaves (old : Left) (k : Record) (new : Left) : Type 0 where
  pub ready : old.failed ≡ false
  pub taken : old.records ≡ k ∷ new.records
  pub levels : new.levels ≡ old.levels
  pub most : new.most ≡ old.most
  pub ready_still : new.failed ≡ false
  pub rules : new.rules ≡ old.rules

-- The first record is taken, and one level with it.
pub record Begins (old : Left) (k : Record) (new : Left) : Type 0 where
  pub ready : old.failed ≡ false
  pub taken : old.records ≡ k ∷ new.records
  pub levels : old.levels ≡ new.levels + 1
  pub most : new.most ≡ old.most
  pub ready_still : new.failed ≡ false
  pub rules : new.rules ≡ old.rules

-- It has failed, and nothing else changes.
abbrev pub Fails : Left → Left → Type 0
Fails old new = new ≡ record {
  records = old.records;
  levels = old.levels;
  most = old.most;
  failed = true;
  rules =
      old.rules;
}

-- Why no record can be taken: the decoder has failed, or no record is left.
abbrev pub IsSpent : Left → DecodeError → Type 0
IsSpent old e = ((e ≡ HadFailed) × (old.failed ≡ true)) ⊎ ((e ≡ Incomplete) × (old.failed ≡ false) × (old.records ≡ []))

-- As `IsSpent`, or no further level may be nested.
abbrev pub IsDeep : Left → DecodeError → Type 0
IsDeep old e = ((e ≡ HadFailed) × (old.failed ≡ true))
    ⊎ ((e ≡ ExceedsMaxParseDepth) × (old.failed ≡ false) × (old.levels ≡ 0))
    ⊎ ((e ≡ Incomplete) × (old.failed ≡ false) × (0 < old.levels) × (old.records ≡ []))

-- A record is next, and it is refused with an error that fits it.
pub record IsUnfit (old : Left) (why : Record → DecodeError → Type 0) (e : DecodeError) : Type 0 where
  pub ready : old.failed ≡ false
  pub front : Record
  pub rest : List Record
  pub is_next : old.records ≡ front ∷ rest
  pub because : why front e

-- Which error is returned: `AlreadyFailed`, `Incomplete` if no record is left, or one that fits the next record.
abbrev pub IsRefused : Left → (Record → DecodeError → Type 0) → DecodeError → Type 0
IsRefused old why e = IsSpent old e ⊎ IsUnfit old why e

-- As `IsRefused`, if a level is taken and none may be left.
abbrev pub IsRefusedFirst : Left → (Record → DecodeError → Type 0) → DecodeError → Type 0
IsRefusedFirst old why e = IsDeep old e ⊎ ((0 < old.levels) × IsUnfit old why e)

-- Records as they are kept: bit strings and octet strings, UTF8String, other character strings, the beginning of
-- SEQUENCE OF and SET OF.
abbrev pub kept_bits : Size → List Bool → Record
kept_bits z bs = bits z any_count bs

abbrev pub kept_octets : Size → List ℕ → Record
kept_octets z os = octets z any_count os

abbrev pub kept_text : Size → List ℕ → Record
kept_text z os = characters utf8 z any_alphabet any_count os

abbrev pub kept_characters : Size → List ℕ → Record
kept_characters z cs = characters visible z any_alphabet any_count cs

abbrev pub kept_list : Size → ℕ → Record
kept_list z n = list_begins z any_count n

abbrev pub kept_bag : Size → ℕ → Record
kept_bag z n = bag_begins z any_count n

-- The next record is another one than this.
abbrev pub IsOtherThan : Record → Record → DecodeError → Type 0
IsOtherThan r k e = (e ≡ NotValidCanonicalEncoding) × (k ≡ r → ⊥)

-- The next record is of another kind: it does not have this form.
abbrev pub IsOtherKind : {T : Type 0} → (T → Record) → Record → DecodeError → Type 0
IsOtherKind {T} form k e = (e ≡ NotValidCanonicalEncoding) × ((x : T) → k ≡ form x → ⊥)

-- The next record is no end, or the end of something that has not begun.
abbrev pub IsOtherEnd : Left → Record → DecodeError → Type 0
IsOtherEnd old k e = (e ≡ NotValidCanonicalEncoding) × (k ≡ ends → old.most ≤ old.levels)

-- The next record has this form, but another size constraint, or a length that the user-defined type cannot hold.
pub record IsOtherSize {T : Type 0} (form : Size → T → Record) (count : T → ℕ) (z : Size) (h : Counts) (k : Record) :
    Type 0 where
  pub size : Size
  pub found : T
  pub is_kept : k ≡ form size found
  pub apart : size ≡ z → is_count_within h (count found) ≡ true → ⊥

-- The next record is of another kind, or has another size.
abbrev pub IsMisfit : {T : Type 0} → (Size → T → Record) → (T → ℕ) → Size → Counts → Record → DecodeError → Type 0
IsMisfit {T} form count z h k e =
    ((e ≡ NotValidCanonicalEncoding) × ((y : Size) (x : T) → k ≡ form y x → ⊥))
    ⊎ ((e ≡ SizeConstraintNotSatisfied) × IsOtherSize form count z h k)

-- Why a number is not converted to the user-defined type: a value constraint does not allow it; the type cannot hold
-- it; or memory runs out, which is possible only for numbers of more than 128 bits.
abbrev pub IsUntaken : Option (Extensible Value) → Range → ℤ → DecodeError → Type 0
IsUntaken c held v ValueConstraintNotSatisfied = admits_whole c v ≡ false
IsUntaken c held v IntegerOverflow = (admits_whole c v ≡ true) × (is_within held v ≡ false)
IsUntaken c held v NoRoom = 2 ^ 128 ≤ plain v
IsUntaken c held v e = ⊥

-- Why a string is not converted to the user-defined type: it cannot hold a character; or memory runs out.
abbrev pub IsUnspelled : StringKind → List ℕ → DecodeError → Type 0
IsUnspelled k cs PermittedAlphabet = permits_all k cs ≡ false
IsUnspelled k cs NoRoom = permits_all k cs ≡ true
IsUnspelled k cs e = ⊥

-- A number is next, but with other bounds.
pub record IsOtherBounds (b : Bounds) (k : Record) : Type 0 where
  pub bounds : Bounds
  pub number : ℤ
  pub is_kept : k ≡ whole bounds any_number number
  pub apart : bounds ≡ b → ⊥

-- A number with these bounds is next, but it is not converted to the user-defined type.
pub record IsOtherNumber (c : Option (Extensible Value)) (held : Range) (k : Record) (e : DecodeError) : Type 0 where
  pub number : ℤ
  pub is_kept : k ≡ whole (bounds_of c) any_number number
  pub untaken : IsUntaken c held number e

-- The next record is no number, or one with other bounds, or one that is not converted.
abbrev pub IsMisfitNumber : Option (Extensible Value) → Range → Record → DecodeError → Type 0
IsMisfitNumber c held k e =
    ((e ≡ NotValidCanonicalEncoding) × ((b : Bounds) (v : ℤ) → k ≡ whole b any_number v → ⊥))
    ⊎ (((e ≡ ValueConstraintNotSatisfied) × IsOtherBounds (bounds_of c) k) ⊎ IsOtherNumber c held k e)

-- Characters of this size are next, but they are not converted to a string of the user-defined type.
pub record IsOtherText (t : StringKind) (z : Size) (k : Record) (e : DecodeError) : Type 0 where
  pub found : List ℕ
  pub is_kept : k ≡ kept_characters z found
  pub unspelled : IsUnspelled t found e

-- The next record has no characters, or characters of another size, or characters that are not converted.
abbrev pub IsMisfitText : StringKind → Size → Record → DecodeError → Type 0
IsMisfitText t z k e =
    ((e ≡ NotValidCanonicalEncoding) × ((y : Size) (cs : List ℕ) → k ≡ kept_characters y cs → ⊥))
    ⊎ (((e ≡ SizeConstraintNotSatisfied) × IsOtherSize kept_characters (λ (cs : List ℕ). length cs) z any_count k)
    ⊎ IsOtherText t z k e)

-- The number of an item is next, but the enumeration has no such item.
pub record IsNoItem (roots : List ℤ) (extensible : Bool) (adds : List ℤ) (k : Record) : Type 0 where
  pub number : ℤ
  pub is_kept : k ≡ one_of [] extensible [] number
  pub none : IsNone roots extensible adds number

-- The next record is no item, or one with another extension marker, or one that the enumeration does not have.
abbrev pub IsMisfitItem : List ℤ → Bool → List ℤ → Record → DecodeError → Type 0
IsMisfitItem roots extensible adds k e =
    ((e ≡ NotValidCanonicalEncoding) × ((v : ℤ) → k ≡ one_of [] extensible [] v → ⊥))
    ⊎ ((e ≡ DiscriminantValueNotFound) × IsNoItem roots extensible adds k)

-- A choice begins, but the chosen index is that of no alternative.
pub record IsNoAlternative (roots : List Tag) (extensible : Bool) (adds : List Tag) (k : Record) : Type 0 where
  pub added : Bool
  pub place : ℕ
  pub is_kept : k ≡ choice_begins [] extensible [] added place
  pub none : length (cond added adds roots) ≤ place

-- The next record begins no choice, or one with another extension marker, or one with the index of no alternative.
abbrev pub IsMisfitChoice : List Tag → Bool → List Tag → Record → DecodeError → Type 0
IsMisfitChoice roots extensible adds k e =
    ((e ≡ NotValidCanonicalEncoding) × ((added : Bool) (i : ℕ) → k ≡ choice_begins [] extensible [] added i → ⊥))
    ⊎ ((e ≡ InvalidTagVariantOnChoice) × IsNoAlternative roots extensible adds k)
