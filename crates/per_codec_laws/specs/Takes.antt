-- What a reader of PER (X.691) holds: its position in the innermost message or open type, the bits left in it, and
-- the open scopes. Each record takes bits at the start, of a form that the reader's freedoms allow at that position.
use Rattle.std.specs.Prelude.{◌≡◌, ◌⊎◌, ℕ, zero, suc, ◌+◌, ◌-◌, ◌*◌, ltb, leb, ◌&&◌, Bool, true, false, IsTrue, List}
use Rattle.std.specs.Prelude.{[], ◌∷◌, ◌++◌, length, drop, map, replicate, Option, Some, None, option_map}
use Rattle.asn1_model.specs.Value.{truth, nothing, number, item, bit_list, octet_list, text, arcs}
use Rattle.asn1_model.specs.Schema.{Counts, Size, boolean, null, integer, enumerated, bit_string, octet_string}
use Rattle.asn1_model.specs.Schema.{character_string, object_identifier}
use Rattle.asn1_model.specs.Numbers.{binary, missing, octet_bits, is_count_within}
use Rattle.asn1_model.specs.Strings.{is_octet}
use Rattle.std.specs.List.{list_all}
use Rattle.asn1_model.specs.Form.{Reads, exactly, both, joined, present_ones}
use Rattle.std.specs.Prelude.{is_some}
use Rattle.asn1_model.specs.Per
use Rattle.asn1_schema_laws.specs.Records.{Record, flag, nil, whole, one_of, bits, octets, characters, identifier}
use Rattle.asn1_schema_laws.specs.Records.{list_begins, bag_begins, further, sequence_begins, set_begins}
use Rattle.asn1_schema_laws.specs.Records.{group_begins, presence_bit, is_default, is_empty}
use Rattle.asn1_schema_laws.specs.Records.{additions_begin, addition, addition_ends, choice_begins, ends, mismatch}
use Rattle.asn1_schema_reading_laws.specs.PresenceBits.{preamble_bits, first_bits, is_any_set}
use Rattle.per_codec_laws.specs.Sizes.{extension_bit, told_highest}

-- The number of bits since the start of the message or open type, and the bits left in it.
abbrev pub Position : Type 0
Position = ℕ × List Bool

-- A list in fragments: its size, the counts that the Rust type holds, the extension bit of the size, the number of
-- elements in the fragments so far, and the multiple of 16384 elements of the last of them (X.691 11.9.3.8): 4 before
-- the first one, which may be any. The number of elements is checked at the end, where it is known.
pub record Tally : Type 0 where
  pub size : Size
  pub held : Counts
  pub outside : Bool
  pub counted : ℕ
  pub last : ℕ

-- An open scope.
pub data Scope : Type 0 where
  -- a sequence, set or group: its extension bit, if it has one, and the presence bits that are still to come
  components : Option Bool → List Bool → Scope
  -- after the root of such a type with an extension bit: the presence bits of its additions still to come, and those
  -- of unknown ones after them
  added : List Bool → List Bool → Scope
  -- an addition, or an added alternative: only its bits are read, and this is the position after it
  open_type : Position → Scope
  -- a list or bag: how many elements are due, and what is known of it if a length determinant follows them
  members : ℕ → Option Tally → Scope
  -- an alternative of the root
  alternative : Scope

abbrev pub State : Type 0
State = Position × List Scope

-- The bits begin with the form at their position, and the others are left.
pub record Front (free : Per.Freedom → Bool) (x : Per.BitForm) (a b : Position) : Type 0 where
  pub text : List Bool
  pub has_form : Reads free x a.0 text
  pub in_front : text ++ b.1 ≡ a.1
  pub moved : a.0 + length text ≡ b.0

-- The same from one state to the next, with the same scopes.
abbrev pub Found : (Per.Freedom → Bool) → Per.BitForm → State → State → Type 0
Found free x a b = Front free x a.0 b.0 × (b.1 ≡ a.1)

-- ---- lists and bags (X.691 20 and 22)

-- A count in the root of a size, or after an extension bit of 1: only a reader with the freedom accepts one of the
-- root there.
abbrev pub InPlace : (Per.Freedom → Bool) → Bool → Bool → Type 0
InPlace free false t = t ≡ true
InPlace free true t = (t ≡ false) ⊎ IsTrue (free Per.root_told_outside)

-- This number of elements is allowed: the Rust type holds the count, and it is in or outside the root as the extension
-- bit says.
abbrev pub Admits : (Per.Freedom → Bool) → Size → Counts → Bool → ℕ → Type 0
Admits free z h out n = (is_count_within h n ≡ true) × InPlace free out (is_count_within z.counts n)

abbrev pub with_fragment : ℕ → Tally → Tally
with_fragment m t =
    record { size = t.size; held = t.held; outside = t.outside; counted = t.counted + m * 16384; last = m }

-- The length determinant of a further fragment. After one of fewer than 65536 elements there is none, unless the reader
-- accepts any fragments (X.691 11.9.3.8).
abbrev pub NextFragment : Bool → (Per.Freedom → Bool) → Tally → Position → Position → ℕ → Option Tally → Type 0
NextFragment al free t a b due hs =
    (m : ℕ) × ((leb 1 m && leb m 4) ≡ true) × ((t.last ≡ 4) ⊎ IsTrue (free Per.other_fragments))
    × Front free (Per.at_octet al (exactly (true ∷ true ∷ binary 6 m))) a b
    × (due ≡ m * 16384) × (hs ≡ Some (with_fragment m t))

-- The length determinant after all fragments, with which all elements are counted (X.691 11.9.3.5 to 11.9.3.8).
abbrev pub LastLength : Bool → (Per.Freedom → Bool) → Tally → Position → Position → ℕ → Option Tally → Type 0
LastLength al free t a b due hs =
    Admits free t.size t.held t.outside (t.counted + due) × Front free (Per.short_length al due) a b × (hs ≡ None)

-- The next length determinant of a list, of a fragment or the last one: a number of elements is due after it, and then
-- another length determinant if something is known of the list.
abbrev pub NextDeterminant : Bool → (Per.Freedom → Bool) → Tally → Position → Position → ℕ → Option Tally → Type 0
NextDeterminant al free t a b due hs = NextFragment al free t a b due hs ⊎ LastLength al free t a b due hs

-- A list whose elements follow their first length determinant (X.691 11.9).
abbrev pub Headed : Bool → (Per.Freedom → Bool) → Size → Counts → Bool → Position → List Scope → State → Type 0
Headed al free z h out a k b =
    (due : ℕ) × (hs : Option Tally)
    × NextDeterminant al free (record { size = z; held = h; outside = out; counted = 0; last = 4 }) a b.0 due hs
    × (b.1 ≡ members due hs ∷ k)

-- A list whose elements follow a count that the bounds of its size determine (X.691 11.9.4.1).
abbrev pub Numbered : Bool → (Per.Freedom → Bool) → Size → Counts → ℕ → Position → List Scope → State → Type 0
Numbered al free z h high a k b =
    (n : ℕ) × Admits free z h false n × Front free (Per.constrained al (high - z.counts.low) (n - z.counts.low)) a b.0
    × (b.1 ≡ members n None ∷ k)

-- After a count if an upper bound determines its form, else after a first length determinant.
abbrev pub Counted : Bool → (Per.Freedom → Bool) → Size → Counts → Bool → Option ℕ → Position → List Scope → State
    → Type 0
Counted al free z h out None a k b = Headed al free z h out a k b
Counted al free z h out (Some high) a k b = Numbered al free z h high a k b

-- What precedes elements. The record's count is one that the Rust type holds; that it is the right one is known at the
-- end.
abbrev pub ListBegins : Bool → (Per.Freedom → Bool) → Size → Counts → ℕ → State → State → Type 0
ListBegins al free z h n a b =
    (is_count_within h n ≡ true) × (out : Bool) × (mid : Position) × Front free (extension_bit z.extensible out) a.0 mid
    × Counted al free z h out (told_highest out z.counts.high) mid a.1 b

-- Whether elements are due, or this is the end.
abbrev pub MemberDue : Bool → ℕ → Option Tally → Position → List Scope → State → Type 0
MemberDue v (suc n) hs a k b = (v ≡ true) × (b ≡ (a, members n hs ∷ k))
MemberDue v zero None a k b = (v ≡ false) × (b ≡ (a, members zero None ∷ k))
MemberDue v zero (Some t) a k b = ⊥

-- Whether elements are still to come, after the next length determinant if none is due before it.
abbrev pub NextMember : Bool → (Per.Freedom → Bool) → Bool → Position → List Scope → State → Type 0
NextMember al free v a (members zero (Some t) ∷ k) b =
    (due : ℕ) × (hs : Option Tally) × (mid : Position) × NextDeterminant al free t a mid due hs
    × MemberDue v due hs mid k b
NextMember al free v a (members n hs ∷ k) b = MemberDue v n hs a k b
NextMember al free v a k b = ⊥

-- ---- components (X.691 19 and 21)

-- The extension bit, if there is one, and a number of presence bits (X.691 19.1 to 19.3).
abbrev pub Begins : (Per.Freedom → Bool) → Bool → ℕ → State → State → Type 0
Begins free e n a b =
    (x : Option Bool) × (ms : List Bool) × (is_some x ≡ e) × (length ms ≡ n)
    × Front free (exactly (preamble_bits x ms)) a.0 b.0 × (b.1 ≡ components x ms ∷ a.1)

-- The next presence bit.
abbrev pub NextPresenceBit : Bool → Position → List Scope → State → Type 0
NextPresenceBit v a (components x (m ∷ ms) ∷ k) b = (v ≡ m) × (b ≡ (a, components x ms ∷ k))
NextPresenceBit v a k b = ⊥

-- ---- additions

-- After the root components: if the extension bit is 0, no addition is present, and if it is 1, a bitmap says which
-- are. Additions past its width are absent, and those past the type's additions are unknown (X.691 19.7 and 19.8).
abbrev pub AdditionsBegin : Bool → (Per.Freedom → Bool) → ℕ → Position → List Scope → State → Type 0
AdditionsBegin al free n a (components (Some false) [] ∷ k) b = b ≡ (a, added (first_bits n []) [] ∷ k)
AdditionsBegin al free n a (components (Some true) [] ∷ k) b =
    (bs : List Bool) × ((is_any_set bs ≡ true) ⊎ IsTrue (free Per.empty_bitmap))
    × Front free (Per.normally_few al (Per.bit_units bs)) a b.0 × (b.1 ≡ added (first_bits n bs) (drop n bs) ∷ k)
AdditionsBegin al free n a k b = ⊥

-- An open type begins: its octets follow a length determinant, and positions are counted from its start (X.691 11.2).
abbrev pub Opens : Bool → (Per.Freedom → Bool) → Position → List Scope → State → Type 0
Opens al free a k b =
    (os : List ℕ) × (rest : Position) × Front free (Per.counted_octets al os) a rest
    × (b ≡ ((0, octet_bits os), open_type rest ∷ k))

-- The padding after a number of bits in a complete encoding (X.691 11.1).
abbrev pub completion : ℕ → Per.BitForm
completion zero = exactly (replicate 8 false)
completion (suc n) = Per.padding (missing (suc n))

-- It ends: the value's bits are padded, and nothing is left after them, or the reader accepts octets there.
abbrev pub Closes : (Per.Freedom → Bool) → Position → Position → List Scope → State → Type 0
Closes free a rest k b =
    (mid : Position) × (more : List ℕ) × Front free (completion a.0) a mid × (list_all is_octet more ≡ true)
    × (mid.1 ≡ octet_bits more) × ((more ≡ []) ⊎ IsTrue (free Per.octets_behind)) × (b ≡ (rest, k))

-- Whether the next addition is present.
abbrev pub NextAddition : Bool → (Per.Freedom → Bool) → Bool → Position → List Scope → State → Type 0
NextAddition al free v a (added (false ∷ ms) us ∷ k) b = (v ≡ false) × (b ≡ (a, added ms us ∷ k))
NextAddition al free v a (added (true ∷ ms) us ∷ k) b = (v ≡ true) × Opens al free a (added ms us ∷ k) b
NextAddition al free v a k b = ⊥

abbrev pub AdditionEnds : (Per.Freedom → Bool) → Position → List Scope → State → Type 0
AdditionEnds free a (open_type rest ∷ added ms us ∷ k) b = Closes free a rest (added ms us ∷ k) b
AdditionEnds free a k b = ⊥

-- The forms of unknown additions, each absent or with its octets.
abbrev pub unknown_forms : Bool → List (Option (List ℕ)) → List (Option Per.BitForm)
unknown_forms al xs = map (option_map (λ os. Per.counted_octets al os)) xs

-- Unknown additions are skipped by their length determinants.
abbrev pub Skips : Bool → (Per.Freedom → Bool) → List Bool → Position → Position → Type 0
Skips al free us a b =
    (xs : List (Option (List ℕ))) × (map (λ a. is_some a) (unknown_forms al xs) ≡ us)
    × Front free (joined (present_ones (unknown_forms al xs))) a b

-- ---- choices (X.691 23)

-- The choice index of a root alternative, or of an added one, which is an open type.
abbrev pub Chooses : Bool → (Per.Freedom → Bool) → ℕ → Bool → ℕ → Bool → ℕ → State → State → Type 0
Chooses al free roots e others false i a b =
    (ltb i roots ≡ true) × Front free (both (Per.extension_bit_of e false) (Per.constrained al (roots - 1) i)) a.0 b.0
    × (b.1 ≡ alternative ∷ a.1)
Chooses al free roots e others true i a b =
    (e ≡ true) × (ltb i others ≡ true) × (mid : Position)
    × Front free (both (exactly (true ∷ [])) (Per.normally_small al i)) a.0 mid × Opens al free mid a.1 b

-- ---- the end

abbrev pub Ends : Bool → (Per.Freedom → Bool) → Position → List Scope → State → Type 0
Ends al free a (components None [] ∷ k) b = b ≡ (a, k)
Ends al free a (added [] us ∷ k) b = Skips al free us a b.0 × (b.1 ≡ k)
Ends al free a (open_type rest ∷ k) b = Closes free a rest k b
Ends al free a (members zero None ∷ k) b = b ≡ (a, k)
Ends al free a (alternative ∷ k) b = b ≡ (a, k)
Ends al free a k b = ⊥

-- ---- one record

-- One record, unaligned or aligned.
abbrev pub Takes : Bool → (Per.Freedom → Bool) → State → Record → State → Type 0
Takes al free a (flag v) b = Found free (Per.form al boolean (truth v)) a b
Takes al free a nil b = Found free (Per.form al null nothing) a b
Takes al free a (whole z h v) b = Found free (Per.form al (integer z h) (number v)) a b
Takes al free a (one_of roots e adds v) b = Found free (Per.form al (enumerated roots e adds) (item v)) a b
Takes al free a (bits z h v) b = Found free (Per.form al (bit_string z h) (bit_list v)) a b
Takes al free a (octets z h v) b = Found free (Per.form al (octet_string z h) (octet_list v)) a b
Takes al free a (characters k z l h v) b = Found free (Per.form al (character_string k z l h) (text v)) a b
Takes al free a (identifier v) b = Found free (Per.form al object_identifier (arcs v)) a b
Takes al free a (list_begins z h n) b = ListBegins al free z h n a b
Takes al free a (bag_begins z h n) b = ListBegins al free z h n a b
Takes al free a (further v) b = NextMember al free v a.0 a.1 b
Takes al free a (sequence_begins e n) b = Begins free e n a b
Takes al free a (set_begins e n) b = Begins free e n a b
Takes al free a (group_begins n) b = Begins free false n a b
Takes al free a (presence_bit v) b = NextPresenceBit v a.0 a.1 b
Takes al free a is_default b = IsTrue (free Per.default_spelled_out) × (b ≡ a)
Takes al free a is_empty b = IsTrue (free Per.empty_group) × (b ≡ a)
Takes al free a (additions_begin n) b = AdditionsBegin al free n a.0 a.1 b
Takes al free a (addition v) b = NextAddition al free v a.0 a.1 b
Takes al free a addition_ends b = AdditionEnds free a.0 a.1 b
Takes al free a (choice_begins roots e others plus i) b = Chooses al free (length roots) e (length others) plus i a b
Takes al free a ends b = Ends al free a.0 a.1 b
Takes al free a mismatch b = ⊥
