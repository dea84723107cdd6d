use Rattle.std.proofs.Common.{◌∙◌, sym, ap, length}
use Rattle.asn1_table_nodes.proofs.Scalars.{one_arc}
use Rattle.asn1_table_nodes.proofs.defaults.has_octets.Goals as goal

pub returns-in-None : goal.returns-in-None
returns-in-None c = sym (one_arc c.args.arcs.now (ap (λ xs. length xs) (sym c.as_oid.ensures) ∙ c.in-None.ensures.none))
