use Rattle.std.proofs.Common.{◌∙◌, refl}
use Rattle.asn1_schema_laws.proofs.Joined.{raised}
use Rattle.asn1_schema_constructed.proofs.Counting.{count_presence_bits}
use Rattle.asn1_schema_authored.proofs.GroupWriting.{writes_group, cannot_group, cannot_group_here}
use Rattle.asn1_schema_authored.proofs.encode.EncodeExtension.encode_group.Goals as goal

pub returns-in_err-begin_group-clause-only : goal.returns-in_err-begin_group-clause-only
returns-in_err-begin_group-clause-only g c =
    let law = g.met.G.Group in
    raised _ _ _ c.from_residual.ensures.1
    (cannot_group_here g.G.Group.plain (c.number_of_optional_and_default_fields-optional.ensures ∙
    count_presence_bits _ _ (rw law.same_components at c.fields.ensures)) refl c.in_err-begin_group.ensures.only)

pub returns-in_err-write_fields-clause-only : goal.returns-in_err-write_fields-clause-only
returns-in_err-write_fields-clause-only g c =
    let one = g.met.Self.Encoder.one_after in
    let law = g.met.G.Group in
    raised _ _ _ c.from_residual-in_err-write_fields.ensures.1
    (cannot_group g.G.Group.plain (c.number_of_optional_and_default_fields-optional.ensures ∙
    count_presence_bits _ _ (rw law.same_components at c.fields.ensures)) refl one c.in_ok-begin_group.ensures.ok
    (rw (law.same_components, law.same_parts c.args.group.now, law.no_others c.args.group.now) at c.in_err-write_fields.ensures.only))

pub returns-clause-ok : goal.returns-clause-ok
returns-clause-ok g c =
    let law = g.met.G.Group in
    writes_group g.G.Group.plain (c.number_of_optional_and_default_fields-optional.ensures ∙
    count_presence_bits _ _ (rw law.same_components at c.fields.ensures)) refl c.in_ok-begin_group.ensures.ok
    (rw (law.same_components, law.same_parts c.args.group.now, law.no_others c.args.group.now) at c.in_ok-write_fields.ensures.ok)
