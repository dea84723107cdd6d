-- The parts of a type of a table: elements, components, and how many of these may be absent.
use Rattle.std.specs.Prelude.{ℕ, suc, Bool, false, cond, List, [], ◌∷◌, Option, Some, None}
use Rattle.asn1_model.specs.Normal.{is_required}
use Rattle.asn1_table_nodes.specs.Meaning.{presence_of}
use Rattle.asn1_table_nodes.specs.declared.nodes.Component.{Component}
use Rattle.asn1_table_nodes.specs.declared.nodes.TypeNode.{TypeNode}
use Rattle.asn1_table_nodes.specs.declared.nodes.TypeNode.TheVariants.{SequenceOf, SetOf, Sequence, Set, Group}

-- The components of a SEQUENCE or SET, or of a group of additions, which has no further additions.
pub record Lists : Type 0 where
  pub root : List Component
  pub extensible : Bool
  pub additions : List Component

-- How many of some components may be absent.
abbrev pub optional_in : List Component → ℕ
optional_in [] = 0
optional_in (c ∷ cs) = cond (is_required (presence_of c.presence)) (optional_in cs) (suc (optional_in cs))

-- The index of the elements' type of a SEQUENCE OF or SET OF (X.680 26 and 28).
abbrev pub members_in : Option TypeNode → Option ℕ
members_in (Some (SequenceOf z i)) = Some i
members_in (Some (SetOf z i)) = Some i
members_in o = None

-- The components of a SEQUENCE, a SET or a group.
abbrev pub lists_in : Option TypeNode → Option Lists
lists_in (Some (Sequence t)) =
    Some (record { root = t.root.items; extensible = t.is_extensible; additions = t.additions.items })
lists_in (Some (Set t)) =
    Some (record { root = t.root.items; extensible = t.is_extensible; additions = t.additions.items })
lists_in (Some (Group cs)) = Some (record { root = cs.items; extensible = false; additions = [] })
lists_in o = None
