use Rattle.std.proofs.Common.{ap, sym, ◌∙◌}
use Rattle.std.specs.List.{list_all}
use Rattle.oer_codec_reading.specs.Fronts.{freedoms}
use Rattle.oer_codec_reading.specs.Tags.{is_in_32_bits}
use Rattle.oer_codec_reading.proofs.ChoiceFronts.{no_tag}
use Rattle.oer_codec_reading.proofs.alternatives.read_alternative_tag.Goals as goal

pub returns-in-Err-clause-only : goal.returns-in-Err-clause-only
returns-in-Err-clause-only c =
    let roots = ap (list_all is_in_32_bits) (sym c.roots.ensures) ∙ c.visit_numbers.ensures in
    let additions = ap (list_all is_in_32_bits) (sym c.additions.ensures) ∙ c.visit_numbers-in-Err.ensures in
    no_tag (freedoms c.args.rules) c.args.tables.now.roots c.args.tables.now.additions c.args.cursor.now c.in-Err.error roots additions c.in-Err.ensures.only
