-- The records of a value by its type: the calls that give it to an encoder, and by which a decoder finds it.
use Rattle.std.specs.Prelude.{◌≡◌, ℕ, zero, suc, Bool, true, false, cond, not, ◌||◌, List, [], ◌∷◌, ◌++◌}
use Rattle.asn1_model.specs.Value.{Value, truth, nothing, number, item, bit_list, octet_list, text, arcs, members}
use Rattle.asn1_model.specs.Value.{bag, fields, chosen, Values, no_more, member, Parts, end, absent, present}
use Rattle.asn1_model.specs.Schema.{Presence, Schema, boolean, null, integer, enumerated, bit_string, octet_string}
use Rattle.asn1_model.specs.Schema.{character_string, object_identifier, sequence_of, set_of, sequence, set, group}
use Rattle.asn1_model.specs.Schema.{choice, Components, no_component, component, Alternatives, no_alternative}
use Rattle.asn1_model.specs.Schema.{alternative}
use Rattle.asn1_model.specs.Normal.{is_at_default, is_group_left_out}
use Rattle.asn1_model.specs.Lawful.{are_no_components, alternative_tags}
use Rattle.asn1_model.specs.Normal.{is_required}
use Rattle.asn1_model.specs.Lawful.{member_count}
use Rattle.asn1_schema_laws.specs.Records.{Record, flag, nil, whole, one_of, bits, octets, characters}
use Rattle.asn1_schema_laws.specs.Records.{identifier, list_begins, bag_begins, further, sequence_begins}
use Rattle.asn1_schema_laws.specs.Records.{set_begins, group_begins, presence_bit, is_default, is_empty}
use Rattle.asn1_schema_laws.specs.Records.{additions_begin, addition, addition_ends, choice_begins, ends, mismatch}

-- ---- counts

-- The number of components that may be absent.
abbrev pub optional_count : Components → ℕ
optional_count no_component = 0
optional_count (component t o s cs) = cond (is_required o) (optional_count cs) (suc (optional_count cs))

-- The number of components.
abbrev pub component_count : Components → ℕ
component_count no_component = 0
component_count (component t o s cs) = suc (component_count cs)

-- ---- parts

-- One component: present or absent.
pub data Part : Type 0 where
  left_out : Part
  there : Value → Part

-- A component and those after it.
abbrev pub with_part : Part → Parts → Parts
with_part left_out ps = absent ps
with_part (there v) ps = present v ps

-- ---- records

-- The presence bit before a component that is present, if it has one.
abbrev pub with_presence_bit : Bool → List Record → List Record
with_presence_bit true rs = rs
with_presence_bit false rs = presence_bit true ∷ rs

-- What follows a component that the normal form leaves out.
abbrev pub noted : Presence → Schema → Value → List Record
noted o s v = cond (is_at_default o s v) (is_default ∷ []) (cond (is_group_left_out s v) (is_empty ∷ []) [])

-- The records of one root component, given those of its value (X.691 19.2 and 19.6, X.696 16).
abbrev pub part_records : (Value → List Record) → Presence → Schema → Part → List Record
part_records f o s left_out = cond (is_required o) (mismatch ∷ []) (presence_bit false ∷ [])
part_records f o s (there v) = with_presence_bit (is_required o) (f v ++ noted o s v)

-- The records of one addition (X.691 19.7 to 19.9, X.696 16).
abbrev pub addition_records : (Value → List Record) → Presence → Schema → Part → List Record
addition_records f o s left_out = cond (is_required o) (mismatch ∷ []) (addition false ∷ [])
addition_records f o s (there v) = addition true ∷ (f v ++ (addition_ends ∷ noted o s v))

-- The records of elements, and the end.
abbrev pub member_records : (Value → List Record) → Values → List Record
member_records f no_more = further false ∷ ends ∷ []
member_records f (member v vs) = further true ∷ (f v ++ member_records f vs)

-- What follows the root components: the additions, if there is an extension marker, and the end. Additions without an
-- extension marker, which no well-formed type has, are among the records, and no codec accepts them.
abbrev pub behind_root : Bool → Components → List Record → List Record
behind_root e adds rs = cond (e || not (are_no_components adds)) (additions_begin (component_count adds) ∷ rs) rs

unfoldable mutual
  -- The records of a value, each part once, in the order of the tables.
  pub presents : Schema → Value → List Record
  presents boolean (truth b) = flag b ∷ []
  presents null nothing = nil ∷ []
  presents (integer b h) (number v) = whole b h v ∷ []
  presents (enumerated roots e adds) (item v) = one_of roots e adds v ∷ []
  presents (bit_string z h) (bit_list bs) = bits z h bs ∷ []
  presents (octet_string z h) (octet_list os) = octets z h os ∷ []
  presents (character_string k z a h) (text cs) = characters k z a h cs ∷ []
  presents object_identifier (arcs ns) = identifier ns ∷ []
  presents (sequence_of z h s) (members vs) = list_begins z h (member_count vs) ∷ member_records (λ v. presents s v) vs
  presents (set_of z h s) (bag vs) = bag_begins z h (member_count vs) ∷ member_records (λ v. presents s v) vs
  presents (sequence cs e adds) (fields ps qs) = sequence_begins e (optional_count cs)
      ∷ root_records cs ps (behind_root e adds (added_records adds qs))
  presents (set cs e adds) (fields ps qs) = set_begins e (optional_count cs)
      ∷ root_records cs ps (behind_root e adds (added_records adds qs))
  presents (group cs) (fields ps end) = group_begins (optional_count cs) ∷ root_records cs ps (ends ∷ [])
  presents (choice roots e adds) (chosen false i v) = choice_begins (alternative_tags roots) e (alternative_tags adds)
      false i ∷ chosen_records roots i v
  presents (choice roots e adds) (chosen true i v) = choice_begins (alternative_tags roots) e (alternative_tags adds)
      true i ∷ chosen_records adds i v
  presents s v = mismatch ∷ []

  -- The records of the root components, and what follows them.
  pub root_records : Components → Parts → List Record → List Record
  root_records no_component end rest = rest
  root_records (component t o s cs) (present v ps) rest = part_records (λ w. presents s w) o s (there v)
      ++ root_records cs ps rest
  root_records (component t o s cs) (absent ps) rest = part_records (λ w. presents s w) o s left_out
      ++ root_records cs ps rest
  root_records cs ps rest = mismatch ∷ []

  -- The records of the additions, and the end.
  pub added_records : Components → Parts → List Record
  added_records no_component end = ends ∷ []
  added_records (component t o s cs) (present v ps) = addition_records (λ w. presents s w) o s (there v)
      ++ added_records cs ps
  added_records (component t o s cs) (absent ps) = addition_records (λ w. presents s w) o s left_out
      ++ added_records cs ps
  added_records cs ps = mismatch ∷ []

  -- The records of the chosen alternative, and the end.
  pub chosen_records : Alternatives → ℕ → Value → List Record
  chosen_records (alternative t s others) zero v = presents s v ++ (ends ∷ [])
  chosen_records (alternative t s others) (suc i) v = chosen_records others i v
  chosen_records no_alternative i v = mismatch ∷ []

-- ---- which values have the form of a type

-- Whether a component is as its presence requires.
abbrev pub PartFits : (Value → Type 0) → Presence → Part → Type 0
PartFits f o left_out = is_required o ≡ false
PartFits f o (there v) = f v

-- Each element has the form of the type.
abbrev pub AllFit : (Value → Type 0) → Values → Type 0
AllFit f no_more = Unit {0}
AllFit f (member v vs) = f v × AllFit f vs

unfoldable mutual
  -- The value has the form of the type, and no more nested levels than the type is unfolded to: what a Rust value
  -- represents, and what may be read.
  pub Fits : Schema → Value → Type 0
  Fits boolean (truth b) = Unit {0}
  Fits null nothing = Unit {0}
  Fits (integer b h) (number v) = Unit {0}
  Fits (enumerated roots e adds) (item v) = Unit {0}
  Fits (bit_string z h) (bit_list bs) = Unit {0}
  Fits (octet_string z h) (octet_list os) = Unit {0}
  Fits (character_string k z a h) (text cs) = Unit {0}
  Fits object_identifier (arcs ns) = Unit {0}
  Fits (sequence_of z h s) (members vs) = AllFit (λ v. Fits s v) vs
  Fits (set_of z h s) (bag vs) = AllFit (λ v. Fits s v) vs
  Fits (sequence cs e adds) (fields ps qs) = PartsFit cs ps × PartsFit adds qs
  Fits (set cs e adds) (fields ps qs) = PartsFit cs ps × PartsFit adds qs
  Fits (group cs) (fields ps qs) = PartsFit cs ps × (qs ≡ end)
  Fits (choice roots e adds) (chosen false i v) = ChosenFits roots i v
  Fits (choice roots e adds) (chosen true i v) = ChosenFits adds i v
  Fits s v = ⊥

  -- All parts have the form of their types.
  pub PartsFit : Components → Parts → Type 0
  PartsFit no_component end = Unit {0}
  PartsFit (component t o s cs) (present v ps) = Fits s v × PartsFit cs ps
  PartsFit (component t o s cs) (absent ps) = (is_required o ≡ false) × PartsFit cs ps
  PartsFit cs ps = ⊥

  -- The chosen alternative has the form of its type.
  pub ChosenFits : Alternatives → ℕ → Value → Type 0
  ChosenFits (alternative t s others) zero v = Fits s v
  ChosenFits (alternative t s others) (suc i) v = ChosenFits others i v
  ChosenFits no_alternative i v = ⊥
