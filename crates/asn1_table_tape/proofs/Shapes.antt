-- The records of a value: what each says, and what the first one says of the value.
use Rattle.std.proofs.Common.{◌≡◌, refl, sym, subst, ℕ, ℤ, Bool, true, false, not, List, [], ◌∷◌, Option, Some, None, slice_get}
use Rattle.asn1_model.specs.Value.{Value, truth, nothing, number, item, bit_list, octet_list, text, arcs, members, bag, fields, chosen, Parts, end}
use Rattle.asn1_model.specs.Schema.{Schema, cut, boolean, null, integer, enumerated, bit_string, octet_string, character_string, object_identifier}
use Rattle.asn1_model.specs.Schema.{sequence_of, set_of, sequence, set, group, choice, Components}
use Rattle.asn1_model.specs.Lawful.{member_count, alternative_tags}
use Rattle.asn1_schema_laws.specs.Records.{Record, flag, nil, whole, one_of, bits, octets, characters, identifier, list_begins, bag_begins, sequence_begins, set_begins, group_begins}
use Rattle.asn1_schema_laws.specs.Records.{choice_begins, further, presence_bit, additions_begin, addition, addition_ends, ends}
use Rattle.asn1_schema_laws.specs.Presents.{presents, member_records, root_records, added_records, behind_root, optional_count, Fits}
use Rattle.asn1_schema_tags.specs.Chosen.{ChoiceTags}
use Rattle.asn1_schema_tags.specs.declared.chosen.Chosen.{Chosen}
use Rattle.asn1_table_types.specs.Choices.{tags_at}
use Rattle.asn1_table_nodes.specs.declared.nodes.TypeNode.{TypeNode}
use Rattle.asn1_table_nodes.specs.declared.nodes.TypeNode.TheVariants as node
use Rattle.asn1_table_tape.specs.declared.strings.CharacterString.{CharacterString}
use Rattle.asn1_table_tape.specs.Strings.{text_of}
use Rattle.asn1_table_tape.specs.declared.tape.Event.{Event}
use Rattle.asn1_table_tape.specs.declared.tape.Event.TheVariants as event
use Rattle.asn1_table_tape.specs.Records.{record_of, number_record, item_record, bits_record, octets_record, text_record, list_record, choice_record}
use Rattle.asn1_table_tape.specs.Values.{value_in, is_absence}

-- ---- records

-- the value of a record, and whether it says that something is absent
unfoldable pub payload : Record → Option Value
payload (flag b) = Some (truth b)
payload nil = Some nothing
payload (whole b h v) = Some (number v)
payload (one_of rs e adds v) = Some (item v)
payload (bits z h bs) = Some (bit_list bs)
payload (octets z h os) = Some (octet_list os)
payload (characters k z a h cs) = Some (text cs)
payload (identifier ns) = Some (arcs ns)
payload r = None

unfoldable pub is_bit : Record → Bool
is_bit (presence_bit b) = true
is_bit r = false

unfoldable pub is_off : Record → Bool
is_off (presence_bit b) = not b
is_off ends = true
is_off r = false

-- what else it says: a list begins; whether another element follows; a CHOICE begins, with an alternative; components
-- begin; whether a root component is there; additions begin; whether an addition is there, and its end; the end
pub data Mark : Type 0 where
  opens : Mark
  more : Bool → Mark
  picks : Bool → ℕ → Mark
  parts : Mark
  there : Bool → Mark
  additions : Mark
  added : Bool → Mark
  added_ends : Mark
  closes : Mark
  other : Mark

unfoldable pub mark : Record → Mark
mark (list_begins z h n) = opens
mark (bag_begins z h n) = opens
mark (further b) = more b
mark (choice_begins rs e adds b i) = picks b i
mark (sequence_begins e n) = parts
mark (set_begins e n) = parts
mark (group_begins n) = parts
mark (presence_bit b) = there b
mark (additions_begin n) = additions
mark (addition b) = added b
mark addition_ends = added_ends
mark ends = closes
mark r = other

unfoldable pub mark_in : Event → Mark
mark_in (event.ListBegins i n) = opens
mark_in (event.Further b) = more b
mark_in (event.ChoiceBegins i c) = picks c.added c.place
mark_in (event.SequenceBegins e n) = parts
mark_in (event.SetBegins e n) = parts
mark_in (event.GroupBegins n) = parts
mark_in (event.PresenceBit b) = there b
mark_in (event.AdditionsBegin n) = additions
mark_in (event.Addition b) = added b
mark_in event.AdditionEnds = added_ends
mark_in event.Ends = closes
mark_in e = other

-- a record whose constraints are looked up is of one kind
abbrev Alike : Record → Option Value → Mark → Type 0
Alike r v m = (payload r ≡ v) × (is_off r ≡ false) × (mark r ≡ m)

number_alike : (o : Option TypeNode) (v : ℤ) → Alike (number_record o v) (Some (number v)) other
unfolding payload is_off mark
number_alike None v = (refl, refl, refl)
number_alike (Some y) v = elim y as (λ y. Alike (number_record (Some y) v) (Some (number v)) other) [ node.Integer l ↦ (refl, refl, refl) | _ ↦ (refl, refl, refl) ]

item_alike : (o : Option TypeNode) (v : ℤ) → Alike (item_record o v) (Some (item v)) other
unfolding payload is_off mark
item_alike None v = (refl, refl, refl)
item_alike (Some y) v = elim y as (λ y. Alike (item_record (Some y) v) (Some (item v)) other) [ node.Enumerated t ↦ (refl, refl, refl) | _ ↦ (refl, refl, refl) ]

bits_alike : (o : Option TypeNode) (v : List Bool) → Alike (bits_record o v) (Some (bit_list v)) other
unfolding payload is_off mark
bits_alike None v = (refl, refl, refl)
bits_alike (Some y) v = elim y as (λ y. Alike (bits_record (Some y) v) (Some (bit_list v)) other) [ node.BitString z ↦ (refl, refl, refl) | _ ↦ (refl, refl, refl) ]

octets_alike : (o : Option TypeNode) (v : List ℕ) → Alike (octets_record o v) (Some (octet_list v)) other
unfolding payload is_off mark
octets_alike None v = (refl, refl, refl)
octets_alike (Some y) v = elim y as (λ y. Alike (octets_record (Some y) v) (Some (octet_list v)) other) [ node.OctetString z ↦ (refl, refl, refl) | _ ↦ (refl, refl, refl) ]

text_alike : (o : Option TypeNode) (x : CharacterString) → Alike (text_record o x) (Some (text (text_of x))) other
unfolding payload is_off mark
text_alike None x = (refl, refl, refl)
text_alike (Some y) x = elim y as (λ y. Alike (text_record (Some y) x) (Some (text (text_of x))) other) [ node.CharacterString t ↦ (refl, refl, refl) | _ ↦ (refl, refl, refl) ]

list_alike : (o : Option TypeNode) (n : ℕ) → Alike (list_record o n) None opens
unfolding payload is_off mark
list_alike None n = (refl, refl, refl)
list_alike (Some y) n = elim y as (λ y. Alike (list_record (Some y) n) None opens) [ node.SequenceOf z i ↦ (refl, refl, refl) | node.SetOf z i ↦ (refl, refl, refl) | _ ↦ (refl, refl, refl) ]

choice_alike : (o : Option ChoiceTags) (c : Chosen) → Alike (choice_record o c) None (picks c.added c.place)
unfolding payload is_off mark
choice_alike None c = (refl, refl, refl)
choice_alike (Some t) c = (refl, refl, refl)

pub payload_of : (ns : List TypeNode) (e : Event) → payload (record_of ns e) ≡ value_in e
unfolding payload
payload_of ns e = elim e as (λ e. payload (record_of ns e) ≡ value_in e) [
  | event.Number i v ↦ (number_alike (slice_get ns i) v).0
  | event.Item i v ↦ (item_alike (slice_get ns i) v).0
  | event.Bits i v ↦ (bits_alike (slice_get ns i) v).0
  | event.Octets i v ↦ (octets_alike (slice_get ns i) v).0
  | event.Text i x ↦ (text_alike (slice_get ns i) x).0
  | event.ListBegins i n ↦ (list_alike (slice_get ns i) n).0
  | event.ChoiceBegins i c ↦ (choice_alike (tags_at ns i) c).0
  | _ ↦ refl
]

pub off_of : (ns : List TypeNode) (e : Event) → is_off (record_of ns e) ≡ is_absence e
unfolding is_off
off_of ns e = elim e as (λ e. is_off (record_of ns e) ≡ is_absence e) [
  | event.Number i v ↦ (number_alike (slice_get ns i) v).1
  | event.Item i v ↦ (item_alike (slice_get ns i) v).1
  | event.Bits i v ↦ (bits_alike (slice_get ns i) v).1
  | event.Octets i v ↦ (octets_alike (slice_get ns i) v).1
  | event.Text i x ↦ (text_alike (slice_get ns i) x).1
  | event.ListBegins i n ↦ (list_alike (slice_get ns i) n).1
  | event.ChoiceBegins i c ↦ (choice_alike (tags_at ns i) c).1
  | _ ↦ refl
]

pub mark_of : (ns : List TypeNode) (e : Event) → mark (record_of ns e) ≡ mark_in e
unfolding mark mark_in
mark_of ns e = elim e as (λ e. mark (record_of ns e) ≡ mark_in e) [
  | event.Number i v ↦ (number_alike (slice_get ns i) v).2
  | event.Item i v ↦ (item_alike (slice_get ns i) v).2
  | event.Bits i v ↦ (bits_alike (slice_get ns i) v).2
  | event.Octets i v ↦ (octets_alike (slice_get ns i) v).2
  | event.Text i x ↦ (text_alike (slice_get ns i) x).2
  | event.ListBegins i n ↦ (list_alike (slice_get ns i) n).2
  | event.ChoiceBegins i c ↦ (choice_alike (tags_at ns i) c).2
  | _ ↦ refl
]

-- ---- the first record of a value

-- a value without parts
abbrev pub is_single : Value → Bool
is_single (members vs) = false
is_single (bag vs) = false
is_single (fields ps qs) = false
is_single (chosen b i v) = false
is_single v = true

pub data Shape (rs : List Record) (w : Value) : Type 0 where
  single : (r : Record) → rs ≡ r ∷ [] → payload r ≡ Some w → is_off r ≡ false → is_bit r ≡ false → Shape rs w
  begun : (r : Record) (qs : List Record) → rs ≡ r ∷ qs → payload r ≡ None → is_off r ≡ false → is_bit r ≡ false → is_single w ≡ false → Shape rs w

pub shape : (s : Schema) (v : Value) → Fits s v → Shape (presents s v) v
unfolding presents Fits payload is_off is_bit
shape s v = elim s as (λ s. Fits s v → Shape (presents s v) v) [
  | boolean ↦ elim v as (λ v. Fits boolean v → Shape (presents boolean v) v) [ truth b ↦ λ f. single (flag b) refl refl refl refl | _ ↦ λ f. absurd f ]
  | null ↦ elim v as (λ v. Fits null v → Shape (presents null v) v) [ nothing ↦ λ f. single nil refl refl refl refl | _ ↦ λ f. absurd f ]
  | integer b h ↦ elim v as (λ v. Fits (integer b h) v → Shape (presents (integer b h) v) v) [ number n ↦ λ f. single (whole b h n) refl refl refl refl | _ ↦ λ f. absurd f ]
  | enumerated rs e adds ↦ elim v as (λ v. Fits (enumerated rs e adds) v → Shape (presents (enumerated rs e adds) v) v) [
    | item n ↦ λ f. single (one_of rs e adds n) refl refl refl refl
    | _ ↦ λ f. absurd f
  ]
  | bit_string z h ↦ elim v as (λ v. Fits (bit_string z h) v → Shape (presents (bit_string z h) v) v) [ bit_list bs ↦ λ f. single (bits z h bs) refl refl refl refl | _ ↦ λ f. absurd f ]
  | octet_string z h ↦ elim v as (λ v. Fits (octet_string z h) v → Shape (presents (octet_string z h) v) v) [
    | octet_list os ↦ λ f. single (octets z h os) refl refl refl refl
    | _ ↦ λ f. absurd f
  ]
  | character_string k z a h ↦ elim v as (λ v. Fits (character_string k z a h) v → Shape (presents (character_string k z a h) v) v) [
    | text cs ↦ λ f. single (characters k z a h cs) refl refl refl refl
    | _ ↦ λ f. absurd f
  ]
  | object_identifier ↦ elim v as (λ v. Fits object_identifier v → Shape (presents object_identifier v) v) [ arcs ns ↦ λ f. single (identifier ns) refl refl refl refl | _ ↦ λ f. absurd f ]
  | sequence_of z h t ↦ elim v as (λ v. Fits (sequence_of z h t) v → Shape (presents (sequence_of z h t) v) v) [
    | members vs ↦ λ f. begun (list_begins z h (member_count vs)) (member_records (λ v. presents t v) vs) refl refl refl refl refl
    | _ ↦ λ f. absurd f
  ]
  | set_of z h t ↦ elim v as (λ v. Fits (set_of z h t) v → Shape (presents (set_of z h t) v) v) [
    | bag vs ↦ λ f. begun (bag_begins z h (member_count vs)) (member_records (λ v. presents t v) vs) refl refl refl refl refl
    | _ ↦ λ f. absurd f
  ]
  | sequence cs e adds ↦ elim v as (λ v. Fits (sequence cs e adds) v → Shape (presents (sequence cs e adds) v) v) [
    | fields ps qs ↦ λ f. begun (sequence_begins e (optional_count cs)) (root_records cs ps (behind_root e adds (added_records adds qs))) refl refl refl refl refl
    | _ ↦ λ f. absurd f
  ]
  | set cs e adds ↦ elim v as (λ v. Fits (set cs e adds) v → Shape (presents (set cs e adds) v) v) [
    | fields ps qs ↦ λ f. begun (set_begins e (optional_count cs)) (root_records cs ps (behind_root e adds (added_records adds qs))) refl refl refl refl refl
    | _ ↦ λ f. absurd f
  ]
  | group cs ↦ elim v as (λ v. Fits (group cs) v → Shape (presents (group cs) v) v) [
    | fields ps qs ↦ λ f. group_shape cs ps qs f.1
    | _ ↦ λ f. absurd f
  ]
  | choice rs e adds ↦ elim v as (λ v. Fits (choice rs e adds) v → Shape (presents (choice rs e adds) v) v) [
    | chosen b i w ↦ elim b as (λ b. Fits (choice rs e adds) (chosen b i w) → Shape (presents (choice rs e adds) (chosen b i w)) (chosen b i w)) [
      | true ↦ λ f. begun (choice_begins (alternative_tags rs) e (alternative_tags adds) true i) _ refl refl refl refl refl
      | false ↦ λ f. begun (choice_begins (alternative_tags rs) e (alternative_tags adds) false i) _ refl refl refl refl refl
    ]
    | _ ↦ λ f. absurd f
  ]
  | cut ↦ λ f. absurd f
]
  where
    group_shape : (cs : Components) (ps qs : Parts) → qs ≡ end → Shape (presents (group cs) (fields ps qs)) (fields ps qs)
    group_shape cs ps qs e = subst (λ (qs : Parts). Shape (presents (group cs) (fields ps qs)) (fields ps qs)) (sym e)
        (begun (group_begins (optional_count cs)) (root_records cs ps (ends ∷ [])) refl refl refl refl refl)
