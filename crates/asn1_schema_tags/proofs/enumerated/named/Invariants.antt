use Rattle.std.proofs.Common.{◌++◌, drop}
use Rattle.asn1_schema_tags.specs.Items.{IsUnnamed, item_name}
use Rattle.asn1_schema_tags.proofs.enumerated.named.Given as goal

abbrev pub invariant-loop-item : goal.invariant-loop-item
invariant-loop-item g l =
    let e = g.T.Enumerated in
    IsUnnamed (λ x. item_name (e.roots ++ e.additions) e.names (e.number x)) l.wanted (drop l.item-index l.items)
    → IsUnnamed (λ x. item_name (e.roots ++ e.additions) e.names (e.number x)) l.wanted l.items
