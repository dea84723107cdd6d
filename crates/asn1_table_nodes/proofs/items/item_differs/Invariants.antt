use Rattle.std.proofs.Common.{◌≡◌, not, drop}
use Rattle.std.specs.List.{list_all}
use Rattle.asn1_model.specs.Value.{same_number}
use Rattle.asn1_table_nodes.proofs.items.item_differs.Given as goal

abbrev pub invariant-loop-other : goal.invariant-loop-other
invariant-loop-other l =
    list_all (λ y. not (same_number l.item y)) (drop l.other-index l.others) ≡ list_all (λ y. not (same_number l.item y)) l.others
