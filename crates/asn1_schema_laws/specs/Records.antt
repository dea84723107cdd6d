-- What a codec is given in one call: what the type says at that point, and the value.
use Rattle.std.specs.Prelude.{ℕ, ℤ, Bool, List}
use Rattle.asn1_model.specs.Schema.{Tag, Range, Bounds, Counts, Size, Alphabet, StringKind}

-- One call. A scalar comes with what the type says at that point and with its value. In all rules a tag is encoded
-- only where it indicates the chosen alternative, so records have only the tags of alternatives.
pub data Record : Type 0 where
  -- BOOLEAN
  flag : Bool → Record
  -- NULL
  nil : Record
  -- INTEGER: its constraint, the numbers that the user-defined type holds, and the number
  whole : Bounds → Range → ℤ → Record
  -- ENUMERATED: the root items, whether there is an extension marker, the added items, and the item
  one_of : List ℤ → Bool → List ℤ → ℤ → Record
  -- BIT STRING: its size, the lengths that the user-defined type holds, and the bits
  bits : Size → Counts → List Bool → Record
  -- OCTET STRING: its size, the lengths that the user-defined type holds, and the octets
  octets : Size → Counts → List ℕ → Record
  -- a restricted character string: size and lengths, its alphabet, and the characters or octets
  characters : StringKind → Size → Alphabet → Counts → List ℕ → Record
  -- OBJECT IDENTIFIER
  identifier : List ℕ → Record
  -- SEQUENCE OF begins: its size, the counts that the user-defined type holds, and the number of elements
  list_begins : Size → Counts → ℕ → Record
  -- SET OF begins: as for SEQUENCE OF
  bag_begins : Size → Counts → ℕ → Record
  -- whether another element follows; before each of them, and after the last
  further : Bool → Record
  -- SEQUENCE begins: whether it has an extension marker, and the number of root components that may be absent
  sequence_begins : Bool → ℕ → Record
  -- SET begins: as for SEQUENCE
  set_begins : Bool → ℕ → Record
  -- an extension addition group begins: the number of its components that may be absent
  group_begins : ℕ → Record
  -- whether the next component that may be absent is present
  presence_bit : Bool → Record
  -- the component that was written is equal to its default, or a group with nothing left in it: no encoder accepts it
  is_default : Record
  is_empty : Record
  -- after the root components of a type with an extension marker: the number of its additions
  additions_begin : ℕ → Record
  -- whether the next addition is present
  addition : Bool → Record
  addition_ends : Record
  -- CHOICE: the tags of the root alternatives, whether there is an extension marker, the tags of the added ones,
  -- whether the chosen one is added, and its index
  choice_begins : List Tag → Bool → List Tag → Bool → ℕ → Record
  -- the end of a SEQUENCE OF, SET OF, SEQUENCE, SET, group or CHOICE
  ends : Record
  -- the value is not of the type: no codec accepts it
  mismatch : Record

-- What a decoder asks for: a record without the value to be found.
pub data Question : Type 0 where
  asks_flag : Question
  asks_nil : Question
  asks_whole : Bounds → Range → Question
  asks_one_of : List ℤ → Bool → List ℤ → Question
  asks_bits : Size → Counts → Question
  asks_octets : Size → Counts → Question
  asks_characters : StringKind → Size → Alphabet → Counts → Question
  asks_identifier : Question
  asks_list : Size → Counts → Question
  asks_bag : Size → Counts → Question
  asks_further : Question
  asks_sequence : Bool → ℕ → Question
  asks_set : Bool → ℕ → Question
  asks_group : ℕ → Question
  asks_presence_bit : Question
  asks_default : Question
  asks_empty : Question
  asks_additions : ℕ → Question
  asks_addition : Question
  asks_addition_end : Question
  asks_choice : List Tag → Bool → List Tag → Question
  asks_end : Question
  asks_mismatch : Question

-- The question that a record answers.
abbrev pub question : Record → Question
question (flag b) = asks_flag
question nil = asks_nil
question (whole b h v) = asks_whole b h
question (one_of roots e adds v) = asks_one_of roots e adds
question (bits z h bs) = asks_bits z h
question (octets z h os) = asks_octets z h
question (characters k z a h cs) = asks_characters k z a h
question (identifier ns) = asks_identifier
question (list_begins z h n) = asks_list z h
question (bag_begins z h n) = asks_bag z h
question (further b) = asks_further
question (sequence_begins e n) = asks_sequence e n
question (set_begins e n) = asks_set e n
question (group_begins n) = asks_group n
question (presence_bit b) = asks_presence_bit
question is_default = asks_default
question is_empty = asks_empty
question (additions_begin n) = asks_additions n
question (addition b) = asks_addition
question addition_ends = asks_addition_end
question (choice_begins roots e adds added i) = asks_choice roots e adds
question ends = asks_end
question mismatch = asks_mismatch

-- What a record gives a decoder: all of it, except for the number of elements of a SEQUENCE OF or SET OF, which may be
-- known only at its end.
abbrev pub told : Record → Record
told (list_begins z h n) = list_begins z h 0
told (bag_begins z h n) = bag_begins z h 0
told r = r
