-- Whether a default is in normal form, by the table of its type: no component has its own default as its value, and no
-- group of additions is empty (X.691 19.5 and 19.9, X.696 16).
use Rattle.std.specs.Prelude.{ℕ, Bool, true, false, not, ◌&&◌, ◌||◌, List, [], ◌∷◌, Option, Some, None, slice_get}
use Rattle.std.specs.Option.{option_map, option_map_or}
use Rattle.asn1_model.specs.Schema.{Presence, by_default}
use Rattle.asn1_model.specs.Value.{Value, members, bag, fields, chosen, Values, no_more, member, Parts, absent, present}
use Rattle.asn1_model.specs.Value.{are_absent, same}
use Rattle.asn1_table_nodes.specs.declared.nodes.Alternative.{Alternative}
use Rattle.asn1_table_nodes.specs.declared.nodes.Component.{Component}
use Rattle.asn1_table_nodes.specs.declared.nodes.TypeNode.{TypeNode}
use Rattle.asn1_table_nodes.specs.declared.nodes.TypeNode.TheVariants.{Group}
use Rattle.asn1_table_nodes.specs.Defaults.{elements_place, bag_place}
use Rattle.asn1_table_nodes.specs.Listed.{additions_in, alternatives_in, root_in}
use Rattle.asn1_table_nodes.specs.Meaning.{presence_of}

-- A value is a component's own default.
abbrev pub is_own_default : Presence → Value → Bool
is_own_default (by_default d) v = same v d
is_own_default o v = false

-- No component is there.
abbrev pub is_without : Value → Bool
is_without (fields ps qs) = are_absent ps
is_without v = false

-- A group of additions in which no component is there.
abbrev pub is_group_without : Option TypeNode → Value → Bool
is_group_without (Some (Group cs)) v = is_without v
is_group_without o v = false

-- The normal form leaves out a component with this value.
abbrev pub is_left_out : List TypeNode → Component → Value → Bool
is_left_out ns c v = is_own_default (presence_of c.presence) v || is_group_without (slice_get ns c.place) v

-- The index of the type of an alternative, by whether it is an added one and its choice index.
abbrev pub alternative_place : Bool → ℕ → TypeNode → Option ℕ
alternative_place b i x = option_map (λ (a : Alternative). a.place) (slice_get (alternatives_in b x) i)

unfoldable mutual
  -- A value has nothing that the normal form leaves out, however deep its type is unfolded.
  pub is_reduced : List TypeNode → Option TypeNode → Value → Bool
  is_reduced ns None v = true
  is_reduced ns (Some x) (members vs) = option_map_or (λ i. are_reduced ns (slice_get ns i) vs) (elements_place x) true
  is_reduced ns (Some x) (bag vs) = option_map_or (λ i. are_reduced ns (slice_get ns i) vs) (bag_place x) true
  is_reduced ns (Some x) (chosen b i v) =
      option_map_or (λ p. is_reduced ns (slice_get ns p) v) (alternative_place b i x) true
  is_reduced ns (Some x) (fields ps qs) =
      option_map_or (λ cs. have_reduced ns cs ps && have_reduced ns (additions_in x) qs) (root_in x) true
  is_reduced ns (Some x) v = true

  -- All of some values are.
  pub are_reduced : List TypeNode → Option TypeNode → Values → Bool
  are_reduced ns o no_more = true
  are_reduced ns o (member v vs) = is_reduced ns o v && are_reduced ns o vs

  -- No part is left out, and each that is there is so itself.
  pub have_reduced : List TypeNode → List Component → Parts → Bool
  have_reduced ns (c ∷ cs) (present v ps) =
      (not (is_left_out ns c v) && is_reduced ns (slice_get ns c.place) v) && have_reduced ns cs ps
  have_reduced ns (c ∷ cs) (absent ps) = have_reduced ns cs ps
  have_reduced ns cs ps = true

-- The same of a part, present or absent.
abbrev pub is_reduced_part : List TypeNode → Component → Option Value → Bool
is_reduced_part ns c None = true
is_reduced_part ns c (Some v) = not (is_left_out ns c v) && is_reduced ns (slice_get ns c.place) v

-- The default of a component, if it has one, is so.
abbrev pub is_reduced_by : List TypeNode → Option TypeNode → Presence → Bool
is_reduced_by ns o (by_default d) = is_reduced ns o d
is_reduced_by ns o p = true

abbrev pub has_reduced_default : List TypeNode → Component → Bool
has_reduced_default ns c = is_reduced_by ns (slice_get ns c.place) (presence_of c.presence)

-- The defaults of components are.
abbrev pub have_reduced_defaults : List TypeNode → List Component → Bool
have_reduced_defaults ns [] = true
have_reduced_defaults ns (c ∷ cs) = has_reduced_default ns c && have_reduced_defaults ns cs

-- The defaults of a type's components are.
abbrev pub has_reduced_defaults : List TypeNode → Option TypeNode → Bool
has_reduced_defaults ns None = true
has_reduced_defaults ns (Some x) =
    option_map_or (λ cs. have_reduced_defaults ns cs && have_reduced_defaults ns (additions_in x)) (root_in x) true
