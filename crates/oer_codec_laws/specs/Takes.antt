-- What a reader of OER (X.696) holds: the octets that are left in the innermost open scope, and the open scopes. Each
-- record takes octets at the start, of a form that the reader's freedoms allow.
use Rattle.std.specs.Prelude.{◌≡◌, ◌⊎◌, ℕ, zero, suc, Bool, true, false, cond, IsTrue, List, [], ◌∷◌, ◌++◌}
use Rattle.std.specs.Prelude.{length, drop, map, Option, Some, None, option_map}
use Rattle.asn1_model.specs.Value.{truth, nothing, number, item, bit_list, octet_list, text, arcs}
use Rattle.asn1_model.specs.Schema.{Tag, Counts, boolean, null, integer, enumerated, bit_string, octet_string}
use Rattle.asn1_model.specs.Schema.{character_string, object_identifier}
use Rattle.asn1_model.specs.Lawful.{tag_same}
use Rattle.asn1_model.specs.Numbers.{is_count_within}
use Rattle.asn1_model.specs.Form.{Reads, joined, present_ones}
use Rattle.std.specs.Prelude.{is_some}
use Rattle.asn1_model.specs.Oer
use Rattle.asn1_schema_reading_laws.specs.PresenceBits.{preamble_bits, first_bits, is_any_set}
use Rattle.asn1_schema_laws.specs.Records.{Record, flag, nil, whole, one_of, bits, octets, characters, identifier}
use Rattle.asn1_schema_laws.specs.Records.{list_begins, bag_begins, further, sequence_begins, set_begins}
use Rattle.asn1_schema_laws.specs.Records.{group_begins, presence_bit, is_default, is_empty}
use Rattle.asn1_schema_laws.specs.Records.{additions_begin, addition, addition_ends, choice_begins, ends, mismatch}

-- An open scope.
pub data Scope : Type 0 where
  -- a sequence, set or group: the extension bit, if it has an extension marker, and the presence bits that are still
  -- to come
  components : Option Bool → List Bool → Scope
  -- after the root of such a type with an extension marker: the presence bits of its additions still to come, and
  -- those of unknown ones after them
  added : List Bool → List Bool → Scope
  -- an addition, or an added alternative: only its octets are read, and those after it are these
  open_type : List ℕ → Scope
  -- a list or bag: how many elements are still to come
  members : ℕ → Scope
  -- an alternative of the root
  alternative : Scope

abbrev pub State : Type 0
State = List ℕ × List Scope

-- The octets begin with the form, and the others are left.
pub record Front (free : Oer.Freedom → Bool) (x : Oer.OctetForm) (os rest : List ℕ) : Type 0 where
  pub text : List ℕ
  pub has_form : Reads free x 0 text
  pub in_front : text ++ rest ≡ os

-- The same from one state to the next, with the same scopes.
abbrev pub Found : (Oer.Freedom → Bool) → Oer.OctetForm → State → State → Type 0
Found free x a b = Front free x a.0 b.0 × (b.1 ≡ a.1)

-- ---- lists and bags

-- The number of elements, before them (X.696 17 and 19): one that the Rust type holds, as is the number in the record.
-- That the two are equal is known at the end.
abbrev pub ListBegins : (Oer.Freedom → Bool) → Counts → ℕ → State → State → Type 0
ListBegins free h n a b =
    (m : ℕ) × (is_count_within h n ≡ true) × (is_count_within h m ≡ true) × Front free (Oer.unsigned m) a.0 b.0
    × (b.1 ≡ members m ∷ a.1)

-- Whether elements are still to come.
abbrev pub NextMember : Bool → List ℕ → List Scope → State → Type 0
NextMember v os (members zero ∷ k) b = (v ≡ false) × (b ≡ (os, members zero ∷ k))
NextMember v os (members (suc n) ∷ k) b = (v ≡ true) × (b ≡ (os, members n ∷ k))
NextMember v os k b = ⊥

-- ---- components

-- A preamble with or without the extension bit, and with a number of presence bits.
abbrev pub Begins : (Oer.Freedom → Bool) → Bool → ℕ → State → State → Type 0
Begins free e n a b =
    (x : Option Bool) × (ms : List Bool) × (is_some x ≡ e) × (length ms ≡ n)
    × Front free (Oer.preamble (preamble_bits x ms)) a.0 b.0 × (b.1 ≡ components x ms ∷ a.1)

-- The next presence bit.
abbrev pub NextPresenceBit : Bool → List ℕ → List Scope → State → Type 0
NextPresenceBit v os (components x (m ∷ ms) ∷ k) b = (v ≡ m) × (b ≡ (os, components x ms ∷ k))
NextPresenceBit v os k b = ⊥

-- ---- additions

-- After the root components: without the extension bit no addition is present, and with it a bitmap says which are.
-- Additions past its width are absent, and those past the type's additions are unknown (X.696 16.4).
abbrev pub AdditionsBegin : (Oer.Freedom → Bool) → ℕ → List ℕ → List Scope → State → Type 0
AdditionsBegin free n os (components (Some false) [] ∷ k) b = b ≡ (os, added (first_bits n []) [] ∷ k)
AdditionsBegin free n os (components (Some true) [] ∷ k) b =
    (bs : List Bool) × ((is_any_set bs ≡ true) ⊎ IsTrue (free Oer.empty_bitmap))
    × Front free (Oer.counted_bits bs) os b.0 × (b.1 ≡ added (first_bits n bs) (drop n bs) ∷ k)
AdditionsBegin free n os k b = ⊥

-- An open type begins: its octets follow a length determinant (X.696 30).
abbrev pub Opens : (Oer.Freedom → Bool) → List ℕ → List Scope → State → Type 0
Opens free os k b = (rest : List ℕ) × Front free (Oer.counted b.0) os rest × (b.1 ≡ open_type rest ∷ k)

-- It ends: none of its octets is left, or the reader accepts octets after the value.
abbrev pub Closes : (Oer.Freedom → Bool) → List ℕ → List ℕ → List Scope → State → Type 0
Closes free os rest k b = ((os ≡ []) ⊎ IsTrue (free Oer.octets_behind)) × (b ≡ (rest, k))

-- Whether the next addition is present.
abbrev pub NextAddition : (Oer.Freedom → Bool) → Bool → List ℕ → List Scope → State → Type 0
NextAddition free v os (added (false ∷ ms) us ∷ k) b = (v ≡ false) × (b ≡ (os, added ms us ∷ k))
NextAddition free v os (added (true ∷ ms) us ∷ k) b = (v ≡ true) × Opens free os (added ms us ∷ k) b
NextAddition free v os k b = ⊥

abbrev pub AdditionEnds : (Oer.Freedom → Bool) → List ℕ → List Scope → State → Type 0
AdditionEnds free os (open_type rest ∷ added ms us ∷ k) b = Closes free os rest (added ms us ∷ k) b
AdditionEnds free os k b = ⊥

-- The forms of unknown additions, each absent or with its octets.
abbrev pub unknown_forms : List (Option (List ℕ)) → List (Option Oer.OctetForm)
unknown_forms xs = map (option_map (λ os. Oer.counted os)) xs

-- Unknown additions are skipped by their length determinants.
abbrev pub Skips : (Oer.Freedom → Bool) → List Bool → List ℕ → List ℕ → Type 0
Skips free us os rest =
    (xs : List (Option (List ℕ))) × (map (λ a. is_some a) (unknown_forms xs) ≡ us)
    × Front free (joined (present_ones (unknown_forms xs))) os rest

-- ---- choices

-- The first index of a tag.
abbrev pub tag_place : Tag → List Tag → Option ℕ
tag_place t [] = None
tag_place t (u ∷ us) = cond (tag_same t u) (Some zero) (option_map suc (tag_place t us))

-- The alternative with a tag: one of the root, else an added one if there is an extension marker.
abbrev pub IsPlace : List Tag → Bool → List Tag → Tag → Bool → ℕ → Type 0
IsPlace roots e others t false i = tag_place t roots ≡ Some i
IsPlace roots e others t true i = (e ≡ true) × (tag_place t roots ≡ None) × (tag_place t others ≡ Some i)

-- An added alternative is an open type (X.696 20).
abbrev pub Enters : (Oer.Freedom → Bool) → Bool → List ℕ → List Scope → State → Type 0
Enters free false os k b = b ≡ (os, alternative ∷ k)
Enters free true os k b = Opens free os k b

-- The tag, and the alternative that it selects.
abbrev pub Chooses : (Oer.Freedom → Bool) → List Tag → Bool → List Tag → Bool → ℕ → State → State → Type 0
Chooses free roots e others plus i a b =
    (t : Tag) × (os : List ℕ) × IsPlace roots e others t plus i × Front free (Oer.tag_form t) a.0 os
    × Enters free plus os a.1 b

-- ---- the end

abbrev pub Ends : (Oer.Freedom → Bool) → List ℕ → List Scope → State → Type 0
Ends free os (components None [] ∷ k) b = b ≡ (os, k)
Ends free os (added [] us ∷ k) b = Skips free us os b.0 × (b.1 ≡ k)
Ends free os (open_type rest ∷ k) b = Closes free os rest k b
Ends free os (members zero ∷ k) b = b ≡ (os, k)
Ends free os (alternative ∷ k) b = b ≡ (os, k)
Ends free os k b = ⊥

-- ---- one record

abbrev pub Takes : (Oer.Freedom → Bool) → State → Record → State → Type 0
Takes free a (flag v) b = Found free (Oer.form boolean (truth v)) a b
Takes free a nil b = Found free (Oer.form null nothing) a b
Takes free a (whole z h v) b = Found free (Oer.form (integer z h) (number v)) a b
Takes free a (one_of roots e adds v) b = Found free (Oer.form (enumerated roots e adds) (item v)) a b
Takes free a (bits z h v) b = Found free (Oer.form (bit_string z h) (bit_list v)) a b
Takes free a (octets z h v) b = Found free (Oer.form (octet_string z h) (octet_list v)) a b
Takes free a (characters k z l h v) b = Found free (Oer.form (character_string k z l h) (text v)) a b
Takes free a (identifier v) b = Found free (Oer.form object_identifier (arcs v)) a b
Takes free a (list_begins z h n) b = ListBegins free h n a b
Takes free a (bag_begins z h n) b = ListBegins free h n a b
Takes free a (further v) b = NextMember v a.0 a.1 b
Takes free a (sequence_begins e n) b = Begins free e n a b
Takes free a (set_begins e n) b = Begins free e n a b
Takes free a (group_begins n) b = Begins free false n a b
Takes free a (presence_bit v) b = NextPresenceBit v a.0 a.1 b
Takes free a is_default b = IsTrue (free Oer.default_spelled_out) × (b ≡ a)
Takes free a is_empty b = IsTrue (free Oer.empty_group) × (b ≡ a)
Takes free a (additions_begin n) b = AdditionsBegin free n a.0 a.1 b
Takes free a (addition v) b = NextAddition free v a.0 a.1 b
Takes free a addition_ends b = AdditionEnds free a.0 a.1 b
Takes free a (choice_begins roots e others plus i) b = Chooses free roots e others plus i a b
Takes free a ends b = Ends free a.0 a.1 b
Takes free a mismatch b = ⊥
