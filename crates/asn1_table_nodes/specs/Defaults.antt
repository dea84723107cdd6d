-- Which values are of a type of a table.
use Rattle.std.specs.Prelude.{◌≡◌, ℕ, ℤ, Bool, true, false, cond, ◌&&◌, ◌||◌, length, not, List, [], ◌∷◌, Option, Some}
use Rattle.std.specs.Prelude.{None}
use Rattle.std.specs.Prelude.{slice_get}
use Rattle.std.specs.Option.{option_map, option_map_or}
use Rattle.asn1_model.specs.Numbers.{is_within, is_count_within}
use Rattle.asn1_model.specs.Value.{same_number, Value, truth, nothing, number, item, bit_list, octet_list, text, arcs}
use Rattle.asn1_model.specs.Value.{members, bag, fields, chosen, Values, no_more, member, Parts, end, absent, present}
use Rattle.asn1_model.specs.Schema.{Schema, sequence, set, group, Components, no_component, component}
use Rattle.asn1_model.specs.Lawful.{has_typed_default, member_count}
use Rattle.asn1_model.specs.Normal.{is_required}
use Rattle.std.specs.List.{list_all}
use Rattle.asn1_model.specs.Strings.{is_identifier, is_octet, is_of_octets, may_hold}
use Rattle.asn1_schema_constraints.specs.Bounds.{members_of}
use Rattle.asn1_schema_constraints.specs.declared.bounds.Bounded.TheVariants.{None as Unbounded}
use Rattle.asn1_schema_constraints.specs.declared.sizes.Sizes.{Sizes}
use Rattle.asn1_schema_constraints.specs.Terms.{size_of}
use Rattle.asn1_table_nodes.specs.declared.events.Event.{Event}
use Rattle.asn1_table_nodes.specs.declared.events.Event.TheVariants as event
use Rattle.asn1_table_nodes.specs.declared.nodes.Alternative.{Alternative}
use Rattle.asn1_table_nodes.specs.declared.nodes.AlternativeTable.{AlternativeTable}
use Rattle.asn1_table_nodes.specs.declared.nodes.Component.{Component}
use Rattle.asn1_table_nodes.specs.declared.nodes.ItemTable.{ItemTable}
use Rattle.asn1_table_nodes.specs.declared.nodes.NumberLimits.{NumberLimits}
use Rattle.asn1_table_nodes.specs.declared.nodes.StringTable.{StringTable}
use Rattle.asn1_table_nodes.specs.declared.nodes.TypeNode.{TypeNode}
use Rattle.asn1_table_nodes.specs.declared.nodes.TypeNode.TheVariants as node
use Rattle.asn1_table_nodes.specs.Meaning.{bounds_in, held_in, kind_of, presence_of}

-- A number is one of an INTEGER (X.680 19 and 51.4).
abbrev pub is_number_of : Option NumberLimits → ℤ → Bool
is_number_of l v = is_within (held_in l) v && ((bounds_in l).extensible || is_within (bounds_in l).range v)

-- A number is among others.
abbrev pub is_in : ℤ → List ℤ → Bool
is_in v ds = not (list_all (λ d. not (same_number v d)) ds)

-- An item is one of an ENUMERATED (X.680 20).
abbrev pub is_item_of : ItemTable → ℤ → Bool
is_item_of t v = is_in v t.root.items || (t.is_extensible && is_in v t.additions.items)

-- A string of this length is admitted (X.680 51.5).
abbrev pub is_size_of : Sizes → ℕ → Bool
is_size_of z n = (size_of z).extensible || is_count_within (size_of z).counts n

-- Characters are those of a restricted character string (X.680 41 and 51.5).
abbrev pub is_text_of : StringTable → List ℕ → Bool
is_text_of t cs = may_hold (kind_of t.kind) cs && (is_of_octets (kind_of t.kind) || is_size_of t.sizes (length cs))

-- A value without parts is of a type.
abbrev pub is_scalar : TypeNode → Event → Bool
is_scalar node.Boolean (event.Truth b) = true
is_scalar node.Null event.Nothing = true
is_scalar (node.Integer l) (event.Number v) = is_number_of l v
is_scalar (node.Enumerated t) (event.Item v) = is_item_of t v
is_scalar (node.BitString z) (event.Bits bs) = is_size_of z (length bs)
is_scalar (node.OctetString z) (event.Octets os) =
    list_all is_octet os.items && is_size_of z (length os.items)
is_scalar (node.CharacterString t) (event.Text cs) = is_text_of t cs.items
is_scalar node.ObjectIdentifier (event.Arcs ns) = is_identifier ns
is_scalar x e = false

-- The index of the type of a SEQUENCE OF's elements.
abbrev pub elements_place : TypeNode → Option ℕ
elements_place (node.SequenceOf z i) = Some i
elements_place x = None

-- The same of a SET OF.
abbrev pub bag_place : TypeNode → Option ℕ
bag_place (node.SetOf z i) = Some i
bag_place x = None

-- The index of the type of an alternative of a CHOICE: of a root one, or of an added one, by its choice index.
abbrev pub place_in : Bool → ℕ → AlternativeTable → Option ℕ
place_in false i t = option_map (λ (a : Alternative). a.place) (slice_get t.root.items i)
place_in true i t =
    cond t.is_extensible (option_map (λ (a : Alternative). a.place) (slice_get t.additions.items i)) None

abbrev pub chosen_place : Bool → ℕ → TypeNode → Option ℕ
chosen_place b i (node.Choice t) = place_in b i t
chosen_place b i x = None

-- Whether a list of this many elements is held.
abbrev pub is_held : Values → Bool
is_held vs = is_count_within (members_of Unbounded) (member_count vs)

unfoldable mutual
  -- A value is of a type of a table, however deep this is unfolded (X.680 17 to 32). Outside the table anything is.
  pub has_type : List TypeNode → Option TypeNode → Value → Bool
  has_type ns None v = true
  has_type ns (Some node.Boolean) (truth b) = true
  has_type ns (Some node.Null) nothing = true
  has_type ns (Some (node.Integer l)) (number v) = is_number_of l v
  has_type ns (Some (node.Enumerated t)) (item v) = is_item_of t v
  has_type ns (Some (node.BitString z)) (bit_list bs) = is_size_of z (length bs)
  has_type ns (Some (node.OctetString z)) (octet_list os) = list_all is_octet os && is_size_of z (length os)
  has_type ns (Some (node.CharacterString t)) (text cs) = is_text_of t cs
  has_type ns (Some node.ObjectIdentifier) (arcs xs) = is_identifier xs
  has_type ns (Some (node.SequenceOf z i)) (members vs) = is_held vs && have_type ns (slice_get ns i) vs
  has_type ns (Some (node.SetOf z i)) (bag vs) = is_held vs && have_type ns (slice_get ns i) vs
  has_type ns (Some (node.Choice t)) (chosen b i v) =
      option_map_or (λ p. has_type ns (slice_get ns p) v) (place_in b i t) false
  has_type ns (Some (node.Sequence t)) (fields ps qs) =
      have_parts ns t.root.items ps && have_parts ns t.additions.items qs
  has_type ns (Some (node.Set t)) (fields ps qs) =
      have_parts ns t.root.items ps && have_parts ns t.additions.items qs
  has_type ns (Some (node.Group cs)) (fields ps end) = have_parts ns cs.items ps
  has_type ns (Some x) v = false

  -- All of some values are.
  pub have_type : List TypeNode → Option TypeNode → Values → Bool
  have_type ns o no_more = true
  have_type ns o (member v vs) = has_type ns o v && have_type ns o vs

  -- Parts are those of components (X.680 25).
  pub have_parts : List TypeNode → List Component → Parts → Bool
  have_parts ns [] end = true
  have_parts ns (c ∷ cs) (present v ps) = has_type ns (slice_get ns c.place) v && have_parts ns cs ps
  have_parts ns (c ∷ cs) (absent ps) = not (is_required (presence_of c.presence)) && have_parts ns cs ps
  have_parts ns cs ps = false

-- A part, present or absent, is that of a component.
abbrev pub is_part : List TypeNode → Component → Option Value → Bool
is_part ns c (Some v) = has_type ns (slice_get ns c.place) v
is_part ns c None = not (is_required (presence_of c.presence))

-- Some number of levels has this answer.
pub record AtSome (holds : ℕ → Bool) (answer : Bool) : Type 0 where
  pub levels : ℕ
  pub told : holds levels ≡ answer

-- True: it holds at every number of levels. False: it fails at some.
abbrev pub Decides : (ℕ → Bool) → Bool → Type 0
Decides f true = (n : ℕ) → f n ≡ true
Decides f false = AtSome f false

-- Each default of components is a value of its component's type (X.680 25).
abbrev pub have_defaults : Components → Bool
have_defaults no_component = true
have_defaults (component ts o s cs) = has_typed_default s o && have_defaults cs

-- Each default of a SEQUENCE, SET or group does.
abbrev pub has_defaults : Schema → Bool
has_defaults (sequence cs e adds) = have_defaults cs && have_defaults adds
has_defaults (set cs e adds) = have_defaults cs && have_defaults adds
has_defaults (group cs) = have_defaults cs
has_defaults s = true
