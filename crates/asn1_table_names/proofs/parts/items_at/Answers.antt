use Rattle.std.proofs.Common.{◌∙◌, sym, ap, Some}
use Rattle.std.specs.Option.{option_copied}
use Rattle.asn1_table_tape.proofs.ScalarRecords.{items_differ}
use Rattle.asn1_table_names.proofs.parts.items_at.Goals as goal

pub new-requires : goal.new-requires
new-requires c =
    let e = sym c.node.ensures ∙ ap option_copied c.in-Some-Enumerated.is ∙ ap Some c.in-Some-Enumerated.field-0-is in
    record {
      distinct = rw (c.as_slice.ensures.value, c.as_slice-in-Some-Enumerated.ensures.value)
          (items_differ c.args.types.now.nodes.items c.args.place c.in-Some-Enumerated.table c.args.types.now.lawful e);
    }
