-- ASN.1 types, independent of encodings: kinds, bounds, sizes, alphabets, extension markers and tables (X.680).
use Rattle.std.specs.Prelude.{ℕ, ◌-◌, ◌^◌, ℤ, pos, negsuc, Bool, false, List, Option, Some, None}
use Rattle.asn1_model.specs.Value.{Value}

-- A tag: its class (0 universal, 1 application, 2 context-specific, 3 private), and its number (X.680 8).
pub record Tag : Type 0 where
  pub class : ℕ
  pub number : ℕ

abbrev pub context : ℕ → Tag
context n = record { class = 2; number = n }

-- The integers from low to high; either may be missing (X.680 51.4).
pub record Range : Type 0 where
  pub low : Option ℤ
  pub high : Option ℤ

-- A value constraint, and whether it has an extension marker (X.680 51.4 and 52). With neither bound nor extension
-- marker there is no constraint; INTEGER (MIN..MAX) without an extension marker is represented as no bounds and a held
-- range of 128 bits, since it counts as a constraint by this project's choice.
pub record Bounds : Type 0 where
  pub range : Range
  pub extensible : Bool

-- Counts from low to high; high may be missing.
pub record Counts : Type 0 where
  pub low : ℕ
  pub high : Option ℕ

-- A size constraint, and whether it has an extension marker (X.680 51.5 and 52).
pub record Size : Type 0 where
  pub counts : Counts
  pub extensible : Bool

-- Any count, and any size: no constraint.
abbrev pub any_count : Counts
any_count = record { low = 0; high = None }

abbrev pub any_size : Size
any_size = record { counts = any_count; extensible = false }

-- Any number, and those that 128 bits of two's complement hold.
abbrev pub any_number : Range
any_number = record { low = None; high = None }

abbrev pub wide_range : Range
wide_range = record { low = Some (negsuc (2 ^ 127 - 1)); high = Some (pos (2 ^ 127 - 1)) }

-- A permitted alphabet, if there is one: its characters, and whether it has an extension marker (X.680 51.7, 52).
pub record Alphabet : Type 0 where
  pub characters : Option (List ℕ)
  pub extensible : Bool

-- Any characters.
abbrev pub any_alphabet : Alphabet
any_alphabet = record { characters = None; extensible = false }

-- The restricted character string types (X.680 41).
pub data StringKind : Type 0 where
  numeric : StringKind
  printable : StringKind
  visible : StringKind
  ia5 : StringKind
  bmp : StringKind
  general : StringKind
  graphic : StringKind
  teletex : StringKind
  utf8 : StringKind

-- Whether a component may be absent: OPTIONAL, or DEFAULT with its value (X.680 25).
pub data Presence : Type 0 where
  required : Presence
  optional : Presence
  by_default : Value → Presence

-- Beside a type is what the user-defined type for its values can hold: numbers in a Range, lengths in Counts.
mutual
  pub data Schema : Type 0 where
    cut : Schema  -- below the levels to which a recursive type is unfolded
    boolean : Schema  -- BOOLEAN (X.680 18)
    null : Schema  -- NULL (X.680 24)
    -- INTEGER (X.680 19): its constraint, and the numbers that the user-defined type holds
    integer : Bounds → Range → Schema
    -- ENUMERATED (X.680 20): the numbers of the root items in ascending order, whether there is an extension marker,
    -- and the numbers of the added items
    enumerated : List ℤ → Bool → List ℤ → Schema
    -- BIT STRING (X.680 22): its size in bits, and the lengths that the user-defined type holds
    bit_string : Size → Counts → Schema
    octet_string : Size → Counts → Schema  -- OCTET STRING (X.680 23): the same in octets
    -- a restricted character string (X.680 41): the same in characters, or in octets if the value is a list of octets
    character_string : StringKind → Size → Alphabet → Counts → Schema
    object_identifier : Schema  -- OBJECT IDENTIFIER (X.680 32)
    sequence_of : Size → Counts → Schema → Schema  -- SEQUENCE OF (X.680 26)
    set_of : Size → Counts → Schema → Schema  -- SET OF (X.680 28)
    -- SEQUENCE (X.680 25): the root components, whether there is an extension marker, and the additions in their
    -- declared order
    sequence : Components → Bool → Components → Schema
    -- SET (X.680 27): as SEQUENCE, with the root components in the order of their tags
    set : Components → Bool → Components → Schema
    -- an extension addition group (X.680 25), which is one of the additions
    group : Components → Schema
    -- CHOICE (X.680 29): the root alternatives in the order of their tags, whether there is an extension marker, and
    -- the added ones in their declared order
    choice : Alternatives → Bool → Alternatives → Schema

  pub data Components : Type 0 where
    no_component : Components
    -- the tags with which it may begin (for an untagged CHOICE those of all its alternatives, for a group those of its
    -- components), whether it may be absent, its type, and the other components
    component : List Tag → Presence → Schema → Components → Components

  pub data Alternatives : Type 0 where
    no_alternative : Alternatives
    alternative : Tag → Schema → Alternatives → Alternatives  -- its tag, its type, and the further alternatives
