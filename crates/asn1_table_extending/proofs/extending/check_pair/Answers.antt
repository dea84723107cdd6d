use Rattle.std.proofs.Common.{subst, sym}
use Rattle.asn1_table_extending.proofs.Refused.{refused_of}
use Rattle.asn1_table_extending.specs.Differing.{IsRefusedAt}
use Rattle.asn1_table_extending.proofs.extending.check_pair.Goals as goal

pub returns-in-Err-clause-refused : goal.returns-in-Err-clause-refused
returns-in-Err-clause-refused c =
    let ns = c.args.older.now.nodes.items in
    let ms = c.args.newer.now.nodes.items in
    subst (IsRefusedAt ns ms c.args.pair) (sym c.error_at.ensures) (refused_of ns ms c.args.pair c.in-Err.fault c.in-Err.ensures.refused)
