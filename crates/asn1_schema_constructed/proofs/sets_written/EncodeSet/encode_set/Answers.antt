use Rattle.std.proofs.Common.{◌∙◌, sym}
use Rattle.asn1_schema_laws.specs.Forms.{set_form}
use Rattle.asn1_schema_laws.proofs.Joined.{raised}
use Rattle.asn1_schema_encode.proofs.Writing.{writes_constructed, cannot_constructed, cannot_constructed_here}
use Rattle.asn1_schema_constructed.proofs.Counting.{count_presence_bits}
use Rattle.asn1_schema_constructed.proofs.sets_written.EncodeSet.encode_set.Goals as goal

pub returns-in_err-begin_set-clause-only : goal.returns-in_err-begin_set-clause-only
returns-in_err-begin_set-clause-only g c = raised _ _ _ c.from_residual.ensures.1
    (cannot_constructed_here _ set_form _ (c.number_of_optional_and_default_fields-optional.ensures ∙ count_presence_bits _ _ c.fields.ensures)
    (sym c.is_extensible-extensible.ensures) _ _ c.in_err-begin_set.ensures.only)

pub returns-in_err-write_fields-clause-only : goal.returns-in_err-write_fields-clause-only
returns-in_err-write_fields-clause-only g c = let one = g.met.Self.Encoder.one_after in
    raised _ _ _ c.from_residual-in_err-write_fields.ensures.1
    (cannot_constructed _ set_form _ (c.number_of_optional_and_default_fields-optional.ensures ∙ count_presence_bits _ _ c.fields.ensures)
    (sym c.is_extensible-extensible.ensures) one c.in_ok-begin_set.ensures.ok c.in_err-write_fields.ensures.only)

pub returns-clause-ok : goal.returns-clause-ok
returns-clause-ok g c = writes_constructed _ set_form _ (c.number_of_optional_and_default_fields-optional.ensures ∙ count_presence_bits _ _ c.fields.ensures)
    (sym c.is_extensible-extensible.ensures) c.in_ok-begin_set.ensures.ok c.in_ok-write_fields.ensures.ok
