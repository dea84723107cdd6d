use Rattle.std.proofs.Common.{ap, ◌∙◌, ◌++◌}
use Rattle.asn1_table_nodes.specs.Meaning.{type_at}
use Rattle.asn1_table_tape.specs.Records.{records_of}
use Rattle.asn1_table_relay.proofs.table_type.TableTypeMessageType.write_into.Goals as goal

pub returns-in_ok-extend_from_slice-in-Ok-clause-ok : goal.returns-in_ok-extend_from_slice-in-Ok-clause-ok
returns-in_ok-extend_from_slice-in-Ok-clause-ok c =
    let nodes = c.args.self.now.types.now.nodes.items in (
      c.in-Ok.octets.items,
      record {
        written = λ v m. c.in-Ok.ensures.ok.encoded (type_at nodes 128 c.args.self.now.place) v m.is_value (ap (λ es. records_of nodes es) c.as_slice.ensures.value ∙ m.kept);
      },
      c.in_ok-extend_from_slice-in-Ok.ensures.items ∙ ap (λ l. c.args.out.now.items ++ l) c.as_slice-in-Ok.ensures.value,
    )
