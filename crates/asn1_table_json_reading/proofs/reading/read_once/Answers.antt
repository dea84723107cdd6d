use Rattle.std.proofs.Common.{◌∙◌}
use Rattle.asn1_table_json_reading.proofs.reading.read_once.Goals as goal

pub returns-in-Ok-finish : goal.returns-in-Ok-finish
returns-in-Ok-finish c =
    let types = c.in_ok-builder.ensures.0 ∙ c.new-3.ensures.0 in
    let place = c.in_ok-builder.ensures.1 ∙ c.new-3.ensures.1 in
    rw (types, place) at c.in-Ok-finish.ensures
