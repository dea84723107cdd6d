use Rattle.std.proofs.Common.{◌≡◌, ◌++◌, drop, map, true}
use Rattle.std.specs.List.{list_all}
use Rattle.asn1_table_types.specs.Choices.{has_own_tags, tags_in}
use Rattle.asn1_table_types.proofs.choice_tags.choices_of.Given as goal

-- Those so far have their tags, and no tag of the others occurs twice.
abbrev pub invariant-loop-node : goal.invariant-loop-node
invariant-loop-node l =
    (list_all has_own_tags (drop l.node-index l.nodes) ≡ true)
    × (l.choices.items ++ map tags_in (drop l.node-index l.nodes) ≡ map tags_in l.nodes)
