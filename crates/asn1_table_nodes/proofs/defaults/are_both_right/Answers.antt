use Rattle.std.proofs.Common.{true}
use Rattle.asn1_table_nodes.specs.Defaults.{have_defaults}
use Rattle.asn1_table_nodes.specs.Meaning.{components_of, type_at}
use Rattle.asn1_table_nodes.proofs.Deciding.{decides_at, second_decides}
use Rattle.asn1_table_nodes.proofs.defaults.are_both_right.Goals as goal

pub returns-then-are_right : goal.returns-then-are_right
returns-then-are_right c =
    second_decides (λ n. have_defaults (components_of (λ j. type_at c.args.nodes.now n j) c.args.root.now))
    (λ n. have_defaults (components_of (λ j. type_at c.args.nodes.now n j) c.args.additions.now))
    c.are_right-then-are_right.result
    (decides_at (λ n. have_defaults (components_of (λ j. type_at c.args.nodes.now n j) c.args.root.now)) c.are_right.result true c.if-are_right.true c.are_right.ensures)
    c.are_right-then-are_right.ensures
