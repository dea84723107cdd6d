use Rattle.std.proofs.Common.{◌∙◌}
use Rattle.asn1_schema_laws.proofs.Joined.{raised}
use Rattle.asn1_schema_constructed.proofs.Counting.{count_presence_bits}
use Rattle.asn1_schema_authored.proofs.GroupReading.{reads_group, unread_group, unread_group_here}
use Rattle.asn1_schema_authored.proofs.decode.DecodeExtension.decode_group.Goals as goal

pub returns-in_err-begin_group-clause-only : goal.returns-in_err-begin_group-clause-only
returns-in_err-begin_group-clause-only g c =
    let law = g.met.G.Group in
    raised _ _ _ c.from_residual.ensures.1
    (unread_group_here g.G.Group.plain (c.number_of_optional_and_default_fields-optional.ensures ∙
    count_presence_bits _ _ (rw law.same_components at c.fields.ensures)) _ c.in_err-begin_group.ensures.only)

pub returns-in_err-group-clause-only : goal.returns-in_err-group-clause-only
returns-in_err-group-clause-only g c =
    let one = g.met.Self.Decoder.one_record in let carries = g.met.Self.Decoder.records_carried in
    let law = g.met.G.Group in
    raised _ _ _ c.from_residual-in_err-group.ensures.1
    (unread_group g.G.Group.plain (c.number_of_optional_and_default_fields-optional.ensures ∙
    count_presence_bits _ _ (rw law.same_components at c.fields.ensures)) one carries c.in_ok-begin_group.ensures.call.level
    c.in_ok-begin_group.ensures.ok (rw law.same_components at c.in_err-group.ensures.only))

pub returns-clause-ok : goal.returns-clause-ok
returns-clause-ok g c =
    let law = g.met.G.Group in
    reads_group g.G.Group.plain (c.number_of_optional_and_default_fields-optional.ensures ∙
    count_presence_bits _ _ (rw law.same_components at c.fields.ensures)) c.in_ok-begin_group.ensures.call.level c.in_ok-begin_group.ensures.ok
    (rw (law.same_components, law.same_parts c.in_ok-group.group) at c.in_ok-group.ensures.ok)
