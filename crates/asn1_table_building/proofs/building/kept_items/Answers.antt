use Rattle.std.proofs.Common.{◌∙◌, ap, map, ◌++◌}
use Rattle.asn1_schema_records.specs.Kept.{Written, kept}
use Rattle.asn1_table_tape.specs.Records.{records_of}
use Rattle.asn1_table_building.proofs.ReadAgain.{put_all}
use Rattle.asn1_table_building.proofs.building.kept_items.Goals as goal

pub returns-in-Ok : goal.returns-in-Ok
returns-in-Ok c =
    let rs = records_of c.args.types.now.nodes.items c.args.events.now in
    c.into_items.ensures ∙ put_all rs c.new-encoder.result c.replay.new.encoder c.in-Ok.ensures.ok
    ∙ ap (λ (w : Written). w.records ++ map kept rs) c.new-encoder.ensures
