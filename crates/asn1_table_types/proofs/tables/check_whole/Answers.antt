use Rattle.std.proofs.Common.{Some}
use Rattle.asn1_table_types.specs.Flaws.{lacks}
use Rattle.asn1_table_nodes.specs.Meaning.{type_of}
use Rattle.asn1_table_types.proofs.Refused.{raised_at, raised_flaw}
use Rattle.asn1_table_types.proofs.tables.check_whole.Goals as goal

pub returns-in_err-check_node-clause-lacking : goal.returns-in_err-check_node-clause-lacking
returns-in_err-check_node-clause-lacking c =
    raised_at (λ n. lacks (type_of c.args.nodes.now n (Some c.args.node.now))) _ _ c.from_residual.ensures.1 c.in_err-check_node.ensures.lacking

pub returns-in_err-check_defaults-clause-lacking : goal.returns-in_err-check_defaults-clause-lacking
returns-in_err-check_defaults-clause-lacking c =
    raised_flaw (λ n. lacks (type_of c.args.nodes.now n (Some c.args.node.now))) _ _ c.from_residual-in_err-check_defaults.ensures.1 c.in_err-check_defaults.ensures.lacking
