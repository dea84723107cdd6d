-- What a writer of PER (X.691) holds: the field-list of the innermost open scope, and the open scopes. Each record
-- changes them. What is written depends on the number of bits before it in its message or open type.
use Rattle.std.specs.Prelude.{◌≡◌, ℕ, zero, suc, ◌+◌, ◌-◌, Bool, true, false, cond, List, [], ◌∷◌}
use Rattle.std.specs.Prelude.{◌++◌, length, map, Option, Some, None, option_map, option_and_then}
use Rattle.asn1_model.specs.Value.{truth, number, item, bit_list, octet_list, text, arcs}
use Rattle.asn1_model.specs.Schema.{Counts, Size, boolean, integer, enumerated, bit_string, octet_string}
use Rattle.asn1_model.specs.Schema.{character_string, object_identifier}
use Rattle.asn1_model.specs.Numbers.{is_count_within}
use Rattle.asn1_model.specs.Form.{exactly, both, is_any_present}
use Rattle.asn1_model.specs.Per
use Rattle.per_codec_packing.specs.FieldLists.{FieldList, as_field_list, plain, moved, on, field_list_at, as_form}
pub use Rattle.per_codec_writing.specs.Headings.{LengthDeterminants, Heading, next_determinant, heading}
use Rattle.asn1_schema_laws.specs.Records.{Record, flag, nil, whole, one_of, bits, octets, characters, identifier}
use Rattle.asn1_schema_laws.specs.Records.{list_begins, bag_begins, further, sequence_begins, set_begins}
use Rattle.asn1_schema_laws.specs.Records.{group_begins, presence_bit, additions_begin, addition, addition_ends}
use Rattle.asn1_schema_laws.specs.Records.{choice_begins, ends}

-- An open scope.
pub data Scope : Type 0 where
  -- a sequence, set or group: whether it has an extension bit, how many presence bits are due, those that were given,
  -- and the field-list before it
  components : Bool → ℕ → List Bool → FieldList → Scope
  -- after the root of such a type with an extension bit: how many additions are due, the presence bits, the root's
  -- field-list, each addition's bits, and the field-list before the sequence
  added : ℕ → List Bool → FieldList → List (Option (List Bool)) → FieldList → Scope
  -- an addition, or an added alternative: its bits are kept apart, and this is the field-list before it
  open_type : FieldList → Scope
  -- a list: how many elements are due before the next length determinant or the end, and the length
  -- determinants to come
  members : ℕ → LengthDeterminants → Scope
  -- a bag: its size, the counts that the Rust type holds, how many elements are due, the field-list of each element
  -- before the open one, if one is open, and the field-list before the bag
  bag_members : Size → Counts → ℕ → Option (List FieldList) → FieldList → Scope
  -- an alternative of the root
  alternative : Scope

abbrev pub State : Type 0
State = FieldList × List Scope

-- ---- positions

-- The width of the extension bit, if there is one.
abbrev pub extension_bit_width : Bool → ℕ
extension_bit_width e = cond e 1 0

-- The number of bits before those of the innermost open scope, in its message or open type, if it is known: a
-- preamble takes its space before it is written.
abbrev pub offset : List Scope → Option ℕ
offset [] = Some 0
offset (components e n ms front ∷ k) = moved (offset k) (length front + (extension_bit_width e + length ms + n))
offset (added n ms root slots front ∷ k) = moved (offset k) (length front + (1 + length ms + length root))
offset (open_type front ∷ k) = Some 0
offset (members n hs ∷ k) = offset k
offset (bag_members z h n ts front ∷ k) = None
offset (alternative ∷ k) = offset k

-- The position: the number of bits since the start of the message or open type.
abbrev pub position : State → Option ℕ
position s = on (offset s.1) s.0

-- A field-list is added to the innermost open scope, if there is one.
abbrev pub adds_field_list : Option FieldList → State → Option State
adds_field_list o s = option_map (λ w. (s.0 ++ w, s.1)) o

-- A form's field-list at its position.
abbrev pub adds_form : Per.BitForm → State → Option State
adds_form x s = adds_field_list (field_list_at x (position s)) s

-- ---- presence bits

abbrev pub presence_told_in : Bool → ℕ → List Bool → FieldList → FieldList → List Scope → Bool → Option State
presence_told_in e zero ms front os k b = None
presence_told_in e (suc n) ms front os k b = Some (os, components e n (ms ++ b ∷ []) front ∷ k)

abbrev pub presence_told : Bool → FieldList → List Scope → Option State
presence_told b os (components e n ms front ∷ k) = presence_told_in e n ms front os k b
presence_told b os k = None

-- ---- lists (X.691 20)

-- How a list of `n` elements begins, at a position, if the size and the Rust type allow that many.
abbrev pub list_heading : Bool → Size → Counts → ℕ → Option ℕ → Option Heading
list_heading al z held n q = cond (is_count_within held n) (heading al z false n q) None

-- The elements are due after their heading.
abbrev pub headed : FieldList → List Scope → Option Heading → Option State
headed os k o = option_map (λ (h : Heading). (os ++ h.field_list, members h.due h.determinants ∷ k)) o

-- A further element, or the end, with no length determinant in between.
abbrev pub counted_on : ℕ → LengthDeterminants → FieldList → List Scope → Bool → Option State
counted_on (suc n) hs os k true = Some (os, members n hs ∷ k)
counted_on zero None os k false = Some (os, members zero None ∷ k)
counted_on n hs os k b = None

-- If none is due before the next length determinant, that comes first.
abbrev pub goes_on_in : Bool → ℕ → LengthDeterminants → FieldList → List Scope → Bool → Option State
goes_on_in al zero (Some h) os k b =
    option_and_then (λ (g : Heading). counted_on g.due g.determinants (os ++ g.field_list) k b)
    (next_determinant al h.0 h.1 (position (os, k)))
goes_on_in al n hs os k b = counted_on n hs os k b

-- ---- bags (X.691 22)

-- The field-list of each element of a bag, the open one last.
abbrev pub with_open : Option (List FieldList) → FieldList → List FieldList
with_open None os = []
with_open (Some ts) os = ts ++ os ∷ []

-- A bag is checked at its start, and all of it is written at its end.
abbrev pub bag_opened : Size → Counts → ℕ → State → Option Heading → Option State
bag_opened z h n s o = option_map (λ (g : Heading). ([], bag_members z h n None s.0 ∷ s.1)) o

-- The elements of a bag are kept apart until the end, which puts them in order.
abbrev pub counted_in : Size → Counts → ℕ → Option (List FieldList) → FieldList → FieldList → List Scope → Bool
    → Option State
counted_in z h zero ts front os k true = None
counted_in z h zero ts front os k false = Some (os, bag_members z h zero ts front ∷ k)
counted_in z h (suc n) ts front os k true = Some ([], bag_members z h n (Some (with_open ts os)) front ∷ k)
counted_in z h (suc n) ts front os k false = None

-- The end of a bag puts its elements in ascending order of their complete encodings: its form is that of the
-- definitions, around their field-lists.
abbrev pub closed_bag : Bool → Size → Counts → ℕ → List FieldList → FieldList → List Scope → Option State
closed_bag al z h zero ts front k = adds_form (Per.in_any_order (map as_form ts) (Per.sized al z h (λ c. false)))
    (front, k)
closed_bag al z h n ts front k = None

-- Whether a further element of a list or bag comes.
abbrev pub goes_on : Bool → Bool → FieldList → List Scope → Option State
goes_on al b os (members n hs ∷ k) = goes_on_in al n hs os k b
goes_on al b os (bag_members z h n ts front ∷ k) = counted_in z h n ts front os k b
goes_on al b os k = None

-- ---- the end of a sequence, set or group, and additions (X.691 19)

-- The presence bits precede the root.
abbrev pub closed : Bool → ℕ → List Bool → FieldList → FieldList → List Scope → Option State
closed false zero ms front os k = Some (front ++ (as_field_list ms ++ os), k)
closed e n ms front os k = None

-- An addition as an open type.
abbrev pub opened : Bool → Option (List Bool) → Option Per.BitForm
opened al o = option_map (λ w. Per.open_type al (exactly w)) o

-- The extension bit says whether an addition is present; if one is, they follow the root (X.691 19.1 and 19.7 to
-- 19.9).
abbrev pub extended_field_list : Bool → List Bool → FieldList → List (Option (List Bool)) → Option ℕ → Option FieldList
extended_field_list al ms root slots q =
    cond (is_any_present slots)
    (option_map (λ w. as_field_list (true ∷ ms) ++ (root ++ w))
    (field_list_at (Per.additions al (map (opened al) slots)) (on (on q (as_field_list (true ∷ ms))) root)))
    (Some (as_field_list (false ∷ ms) ++ root))

abbrev pub closed_added : Bool → ℕ → List Bool → FieldList → List (Option (List Bool)) → FieldList → List Scope
    → Option State
closed_added al zero ms root slots front k =
    adds_field_list (extended_field_list al ms root slots (position (front, k))) (front, k)
closed_added al n ms root slots front k = None

-- After the root components of a type with an extension bit come the additions.
abbrev pub rooted : Bool → ℕ → List Bool → FieldList → FieldList → List Scope → ℕ → Option State
rooted true zero ms front os k n = Some ([], added n ms os [] front ∷ k)
rooted e due ms front os k n = None

abbrev pub extended : ℕ → FieldList → List Scope → Option State
extended n os (components e due ms front ∷ k) = rooted e due ms front os k n
extended n os k = None

abbrev pub next_addition : ℕ → List Bool → FieldList → List (Option (List Bool)) → FieldList → FieldList → List Scope
    → Bool → Option State
next_addition zero ms root slots front os k b = None
next_addition (suc n) ms root slots front os k false = Some (os, added n ms root (slots ++ None ∷ []) front ∷ k)
next_addition (suc n) ms root slots front os k true = Some ([], open_type os ∷ added n ms root slots front ∷ k)

abbrev pub adds : Bool → FieldList → List Scope → Option State
adds b os (added n ms root slots front ∷ k) = next_addition n ms root slots front os k b
adds b os k = None

-- An addition's bits are stored for the end.
abbrev pub added_one : FieldList → List Scope → Option State
added_one os (open_type front ∷ added n ms root slots before ∷ k) = option_map
    (λ w. (front, added n ms root (slots ++ Some w ∷ []) before ∷ k)) (plain os)
added_one os k = None

-- ---- choices, and the end of any type

-- An alternative of the root follows its choice index, an added one as an open type, which only an extensible type
-- has (X.691 23).
abbrev pub chosen_on : Bool → Bool → ℕ → Bool → ℕ → State → Option State
chosen_on al e n false i s = option_map (λ w. (s.0 ++ w, alternative ∷ s.1))
    (field_list_at (both (Per.extension_bit_of e false) (Per.constrained al (n - 1) i)) (position s))
chosen_on al true n true i s = option_map (λ w. ([], open_type (s.0 ++ w) ∷ s.1))
    (field_list_at (both (exactly (true ∷ [])) (Per.normally_small al i)) (position s))
chosen_on al false n true i s = None

abbrev pub ended : Bool → FieldList → List Scope → Option State
ended al os (components e n ms front ∷ k) = closed e n ms front os k
ended al os (added n ms root slots front ∷ k) = closed_added al n ms root slots front k
ended al os (open_type front ∷ k) = option_and_then (λ w. adds_form (Per.open_type al (exactly w)) (front, k))
    (plain os)
ended al os (members zero None ∷ k) = Some (os, k)
ended al os (bag_members z h n ts front ∷ k) = closed_bag al z h n (with_open ts os) front k
ended al os (alternative ∷ k) = Some (os, k)
ended al os k = None

-- ---- records

-- One record, unaligned or aligned.
abbrev pub run : Bool → Record → State → Option State
run al (flag b) s = adds_form (Per.form al boolean (truth b)) s
run al nil s = adds_field_list (Some []) s
run al (whole b h v) s = adds_form (Per.form al (integer b h) (number v)) s
run al (one_of roots e others v) s = adds_form (Per.form al (enumerated roots e others) (item v)) s
run al (bits z h bs) s = adds_form (Per.form al (bit_string z h) (bit_list bs)) s
run al (octets z h os) s = adds_form (Per.form al (octet_string z h) (octet_list os)) s
run al (characters k z a h cs) s = adds_form (Per.form al (character_string k z a h) (text cs)) s
run al (identifier ns) s = adds_form (Per.form al object_identifier (arcs ns)) s
run al (list_begins z h n) s = headed s.0 s.1 (list_heading al z h n (position s))
run al (bag_begins z h n) s = bag_opened z h n s (list_heading al z h n (position s))
run al (further b) s = goes_on al b s.0 s.1
run al (sequence_begins e n) s = Some ([], components e n [] s.0 ∷ s.1)
run al (set_begins e n) s = Some ([], components e n [] s.0 ∷ s.1)
run al (group_begins n) s = Some ([], components false n [] s.0 ∷ s.1)
run al (presence_bit b) s = presence_told b s.0 s.1
run al (additions_begin n) s = extended n s.0 s.1
run al (addition b) s = adds b s.0 s.1
run al addition_ends s = added_one s.0 s.1
run al (choice_begins roots e others plus i) s = chosen_on al e (length roots) plus i s
run al ends s = ended al s.0 s.1
run al r s = None

-- The relation of a writer: what is held before a record, and after it.
abbrev pub Step : Bool → State → Record → State → Type 0
Step al a r b = run al r a ≡ Some b

-- Records one after another.
abbrev pub runs : Bool → List Record → State → Option State
runs al [] s = Some s
runs al (r ∷ rs) s = option_and_then (λ m. runs al rs m) (run al r s)
