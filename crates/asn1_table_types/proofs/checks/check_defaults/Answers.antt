use Rattle.std.proofs.Common.{false, Some}
use Rattle.asn1_table_nodes.specs.Defaults.{has_defaults}
use Rattle.asn1_table_nodes.specs.Meaning.{type_of}
use Rattle.asn1_table_nodes.proofs.Deciding.{decides_at}
use Rattle.asn1_table_types.proofs.Unlawful.{defaults_lack}
use Rattle.asn1_table_types.proofs.checks.check_defaults.Goals as goal

pub returns-then-not-has_right_defaults-clause-lacking : goal.returns-then-not-has_right_defaults-clause-lacking
returns-then-not-has_right_defaults-clause-lacking c =
    let h = decides_at (λ n. has_defaults (type_of c.args.nodes.now n (Some c.args.node.now))) c.has_right_defaults.result false c.if-not-has_right_defaults.true c.has_right_defaults.ensures in
    record { levels = h.levels; told = defaults_lack (type_of c.args.nodes.now h.levels (Some c.args.node.now)) h.told }
