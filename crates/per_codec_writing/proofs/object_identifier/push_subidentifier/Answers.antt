use Rattle.std.proofs.Common.{ap, ◌∙◌}
use Rattle.per_codec_packing.specs.FieldLists.{as_field_list}
use Rattle.per_codec_writing.specs.Writing.{plus}
use Rattle.per_codec_writing.proofs.object_identifier.push_subidentifier.Goals as goal

pub returns : goal.returns
returns c = c.in_ok-push_bits.ensures.ok ∙ ap (λ l. plus c.args.output.now (as_field_list l)) c.group_number-groups.ensures.bits
