use Rattle.std.proofs.Common.{◌∙◌, sym, ap}
use Rattle.std.specs.Option.{option_copied}
use Rattle.asn1_table_tape.proofs.ScalarRecords.{refused_past}
use Rattle.asn1_table_walker.proofs.opening.open_node.Goals as goal

pub returns-in-None-clause-only : goal.returns-in-None-clause-only
returns-in-None-clause-only g c =
    let e = sym c.node.ensures ∙ ap option_copied c.in-None.is in
    refused_past c.args.types.now.nodes.items (g.D.Decoder.levels c.args.decoder.now) c.args.place e
