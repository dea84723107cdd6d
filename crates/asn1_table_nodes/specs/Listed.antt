-- What a type of a table leads to.
use Rattle.std.specs.Prelude.{Bool, true, false, List, [], Option, Some, None}
use Rattle.asn1_table_nodes.specs.declared.nodes.Alternative.{Alternative}
use Rattle.asn1_table_nodes.specs.declared.nodes.Component.{Component}
use Rattle.asn1_table_nodes.specs.declared.nodes.TypeNode.{TypeNode}
use Rattle.asn1_table_nodes.specs.declared.nodes.TypeNode.TheVariants.{Sequence, Set, Group, Choice}

-- The root components of a SEQUENCE or SET, or the components of a group of additions.
abbrev pub root_in : TypeNode → Option (List Component)
root_in (Sequence t) = Some t.root.items
root_in (Set t) = Some t.root.items
root_in (Group cs) = Some cs.items
root_in x = None

-- The additions of a SEQUENCE or SET.
abbrev pub additions_in : TypeNode → List Component
additions_in (Sequence t) = t.additions.items
additions_in (Set t) = t.additions.items
additions_in x = []

-- The root alternatives of a CHOICE, or the added ones (true).
abbrev pub alternatives_in : Bool → TypeNode → List Alternative
alternatives_in false (Choice t) = t.root.items
alternatives_in true (Choice t) = t.additions.items
alternatives_in b x = []
