-- What a writer of the octet encoding rules (X.696) holds: the octets of the innermost open scope, and the open
-- scopes. Each record changes them.
use Rattle.std.specs.Prelude.{◌≡◌, ℕ, zero, suc, Bool, true, false, cond, List, [], ◌∷◌, ◌++◌, map, Option}
use Rattle.std.specs.Prelude.{Some, None, option_map, option_and_then}
use Rattle.asn1_model.specs.Value.{truth, item, bit_list, octet_list, text, arcs}
use Rattle.asn1_model.specs.Schema.{Tag, boolean, enumerated, bit_string, octet_string, character_string}
use Rattle.asn1_model.specs.Schema.{object_identifier}
use Rattle.asn1_model.specs.Numbers.{is_count_within}
use Rattle.asn1_model.specs.Form.{exactly, written, both, joined, only_if}
use Rattle.asn1_model.specs.Oer
use Rattle.asn1_schema_reading_laws.specs.PresenceBits.{is_any_set}
use Rattle.asn1_schema_laws.specs.Records.{Record, flag, nil, whole, one_of, bits, octets, characters}
use Rattle.asn1_schema_laws.specs.Records.{identifier, list_begins, bag_begins, further, sequence_begins}
use Rattle.asn1_schema_laws.specs.Records.{set_begins, group_begins, presence_bit, additions_begin, addition}
use Rattle.asn1_schema_laws.specs.Records.{addition_ends, choice_begins, ends}

-- An open scope.
pub data Scope : Type 0 where
  -- a sequence, set or group: whether it has an extension marker, how many presence bits are due, those that were
  -- given, and the octets before it
  components : Bool → ℕ → List Bool → List ℕ → Scope
  -- after the root of such a type with an extension marker: how many additions are due, the presence bits, the root's
  -- octets, which of the previous additions are present, and the octets before the sequence; the octets of the scope
  -- are those of the additions in sequence
  added : ℕ → List Bool → List ℕ → List Bool → List ℕ → Scope
  -- an addition, or an added alternative: its octets are kept apart, and those before it are these
  open_type : List ℕ → Scope
  -- a list: how many elements are due
  members : ℕ → Scope
  -- a bag: how many elements are due, the octets of each element before the open one, if one is open, and the octets
  -- before the elements
  bag_members : ℕ → Option (List (List ℕ)) → List ℕ → Scope
  -- an alternative of the root
  alternative : Scope

abbrev pub State : Type 0
State = List ℕ × List Scope

-- A text is added to the innermost open scope, if there is one.
abbrev pub adds_text : Option (List ℕ) → State → Option State
adds_text o s = option_map (λ w. (s.0 ++ w, s.1)) o

abbrev pub presence_told_in : Bool → ℕ → List Bool → List ℕ → List ℕ → List Scope → Bool → Option State
presence_told_in e zero ms front os k b = None
presence_told_in e (suc n) ms front os k b = Some (os, components e n (ms ++ b ∷ []) front ∷ k)

abbrev pub presence_told : Bool → List ℕ → List Scope → Option State
presence_told b os (components e n ms front ∷ k) = presence_told_in e n ms front os k b
presence_told b os k = None

abbrev pub counted_on : ℕ → List ℕ → List Scope → Bool → Option State
counted_on zero os k true = None
counted_on zero os k false = Some (os, members zero ∷ k)
counted_on (suc n) os k true = Some (os, members n ∷ k)
counted_on (suc n) os k false = None

-- The octets of each element of a bag, the open one last.
abbrev pub with_open : Option (List (List ℕ)) → List ℕ → List (List ℕ)
with_open None os = []
with_open (Some ws) os = ws ++ os ∷ []

-- The elements of a bag are kept apart until the end, which puts them in order.
abbrev pub counted_in : ℕ → Option (List (List ℕ)) → List ℕ → List ℕ → List Scope → Bool → Option State
counted_in zero ws front os k true = None
counted_in zero ws front os k false = Some (os, bag_members zero ws front ∷ k)
counted_in (suc n) ws front os k true = Some ([], bag_members n (Some (with_open ws os)) front ∷ k)
counted_in (suc n) ws front os k false = None

abbrev pub goes_on : Bool → List ℕ → List Scope → Option State
goes_on b os (members n ∷ k) = counted_on n os k b
goes_on b os (bag_members n ws front ∷ k) = counted_in n ws front os k b
goes_on b os k = None

-- The end of a type without additions: its canonical form, around the octets of its root.
abbrev pub closed : Bool → ℕ → List Bool → List ℕ → List ℕ → List Scope → Option State
closed false zero ms front os k = adds_text (written (Oer.sequence_form false ms (exactly os) []) 0) (front, k)
closed e n ms front os k = None

-- The preamble and the root. If an addition is present, the extension bit is set, and the bitmap and the octets of
-- the additions follow (X.696 16).
abbrev pub with_added : List Bool → List ℕ → List Bool → List ℕ → Option (List ℕ)
with_added ms root bs os = cond (is_any_set bs)
    (written (both (Oer.preamble (true ∷ ms)) (both (exactly root) (both (Oer.counted_bits bs) (exactly os)))) 0)
    (written (both (Oer.preamble (false ∷ ms)) (exactly root)) 0)

-- The end of one with additions.
abbrev pub closed_added : ℕ → List Bool → List ℕ → List Bool → List ℕ → List ℕ → List Scope → Option State
closed_added zero ms root bs os front k = adds_text (with_added ms root bs os) (front, k)
closed_added n ms root bs os front k = None

-- The end of a bag puts its elements in the ascending order of their octets (X.696 19).
abbrev pub closed_bag : ℕ → List (List ℕ) → List ℕ → List Scope → Option State
closed_bag zero ws front k = adds_text (written (Oer.in_any_order (map (λ w. exactly w) ws) (λ xs. joined xs)) 0)
    (front, k)
closed_bag n ws front k = None

abbrev pub ended : List ℕ → List Scope → Option State
ended os (components e n ms front ∷ k) = closed e n ms front os k
ended os (added n ms root bs front ∷ k) = closed_added n ms root bs os front k
ended os (open_type front ∷ k) = adds_text (written (Oer.counted os) 0) (front, k)
ended os (members zero ∷ k) = Some (os, k)
ended os (bag_members n ws front ∷ k) = closed_bag n (with_open ws os) front k
ended os (alternative ∷ k) = Some (os, k)
ended os k = None

-- After the root components of a type with an extension marker come the additions.
abbrev pub rooted : Bool → ℕ → List Bool → List ℕ → List ℕ → List Scope → ℕ → Option State
rooted true zero ms front os k n = Some ([], added n ms os [] front ∷ k)
rooted e due ms front os k n = None

abbrev pub extended : ℕ → List ℕ → List Scope → Option State
extended n os (components e due ms front ∷ k) = rooted e due ms front os k n
extended n os k = None

abbrev pub next_addition : ℕ → List Bool → List ℕ → List Bool → List ℕ → List ℕ → List Scope → Bool → Option State
next_addition zero ms root bs front os k b = None
next_addition (suc n) ms root bs front os k false = Some (os, added n ms root (bs ++ false ∷ []) front ∷ k)
next_addition (suc n) ms root bs front os k true = Some ([], open_type os ∷ added n ms root (bs ++ true ∷ []) front ∷ k)

abbrev pub adds : Bool → List ℕ → List Scope → Option State
adds b os (added n ms root bs front ∷ k) = next_addition n ms root bs front os k b
adds b os k = None

-- The octets of an addition, after the previous additions and a length determinant.
abbrev pub added_one : List ℕ → List Scope → Option State
added_one os (open_type front ∷ added n ms root bs before ∷ k) = adds_text (written (Oer.counted os) 0)
    (front, added n ms root bs before ∷ k)
added_one os k = None

-- The tag at an index.
abbrev pub tag_at : ℕ → List Tag → Option Tag
tag_at i [] = None
tag_at zero (t ∷ ts) = Some t
tag_at (suc i) (t ∷ ts) = tag_at i ts

-- The tags that the index of the chosen alternative refers to: a type without an extension marker has no added ones.
abbrev pub tags_among : List Tag → Bool → List Tag → Bool → List Tag
tags_among roots e others false = roots
tags_among roots false others true = []
tags_among roots true others true = others

-- An alternative of the root follows its tag; an added one is an open type (X.696 20).
abbrev pub chosen_on : Bool → List ℕ → State → Option State
chosen_on false t s = Some (s.0 ++ t, alternative ∷ s.1)
chosen_on true t s = Some ([], open_type (s.0 ++ t) ∷ s.1)

-- One record.
abbrev pub run : Record → State → Option State
run (flag b) s = adds_text (written (Oer.form boolean (truth b)) 0) s
run nil s = adds_text (Some []) s
run (whole b h v) s = adds_text (written (Oer.integer_form b h v) 0) s
run (one_of roots e adds v) s = adds_text (written (Oer.form (enumerated roots e adds) (item v)) 0) s
run (bits z h bs) s = adds_text (written (Oer.form (bit_string z h) (bit_list bs)) 0) s
run (octets z h os) s = adds_text (written (Oer.form (octet_string z h) (octet_list os)) 0) s
run (characters k z a h cs) s = adds_text (written (Oer.form (character_string k z a h) (text cs)) 0) s
run (identifier ns) s = adds_text (written (Oer.form object_identifier (arcs ns)) 0) s
run (list_begins z h n) s = option_map (λ w. (s.0 ++ w, members n ∷ s.1))
    (written (only_if (is_count_within h n) (Oer.unsigned n)) 0)
run (bag_begins z h n) s = option_map (λ w. ([], bag_members n None (s.0 ++ w) ∷ s.1))
    (written (only_if (is_count_within h n) (Oer.unsigned n)) 0)
run (further b) s = goes_on b s.0 s.1
run (sequence_begins e n) s = Some ([], components e n [] s.0 ∷ s.1)
run (set_begins e n) s = Some ([], components e n [] s.0 ∷ s.1)
run (group_begins n) s = Some ([], components false n [] s.0 ∷ s.1)
run (presence_bit b) s = presence_told b s.0 s.1
run (additions_begin n) s = extended n s.0 s.1
run (addition b) s = adds b s.0 s.1
run addition_ends s = added_one s.0 s.1
run (choice_begins roots e others plus i) s = option_and_then
    (λ t. option_and_then (λ w. chosen_on plus w s) (written (Oer.tag_form t) 0))
    (tag_at i (tags_among roots e others plus))
run ends s = ended s.0 s.1
run r s = None

-- The relation of a writer: what is held before a record, and after it.
abbrev pub Step : State → Record → State → Type 0
Step a r b = run r a ≡ Some b

-- Records one after another.
abbrev pub runs : List Record → State → Option State
runs [] s = Some s
runs (r ∷ rs) s = option_and_then (λ m. runs rs m) (run r s)
