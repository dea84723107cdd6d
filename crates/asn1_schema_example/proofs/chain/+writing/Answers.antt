use Rattle.std.proofs.Common.{rules}
use Rattle.std.proofs.Common.{refl, ◌∙◌}
use Rattle.asn1_schema.specs.Author.{sequence_form}
use Rattle.asn1_schema.proofs.Author.{raised, writes_required, writes_end, writes_field, writes_constructed, writes_as}
use Rattle.asn1_schema.proofs.Author.{cannot_as, cannot_required, cannot_end, cannot_field, cannot_field_here}
use Rattle.asn1_schema.proofs.Author.{cannot_constructed, cannot_constructed_here, count_presence_bits, integer_value, part_optional}
use Rattle.asn1_schema.proofs.Author.{passed, failed_before_value, failed_before_part}
use Rattle.asn1_schema_example.specs.Numbers.{number_typed}
use Rattle.asn1_schema_example.specs.Chain.{chain_table, chain_schema, chain_is, chain_opens, chain_meaning, chain_typed, chain_valued}
use Rattle.asn1_schema_example.proofs.chain.+writing.Goals as goal

pub ChainConstructed::write_fields-returns-in_err-encode-clause-only : goal.ChainConstructed::write_fields-returns-in_err-encode-clause-only
ChainConstructed::write_fields-returns-in_err-encode-clause-only g t c = raised _ _ _ c.from_residual.ensures.1 (cannot_field_here _ _ _ _ (cannot_required number_typed c.in_err-encode.ensures.only))

pub ChainConstructed::write_fields-returns-in_err-encode_optional-clause-only : goal.ChainConstructed::write_fields-returns-in_err-encode_optional-clause-only
ChainConstructed::write_fields-returns-in_err-encode_optional-clause-only g t c = let one = g.met.E.Encoder.one_after in
    raised _ _ _ c.from_residual-in_err-encode_optional.ensures.1
    (cannot_field one _ (writes_required number_typed c.in_ok-encode.ensures.ok) (cannot_field_here _ _ _ _ c.in_err-encode_optional.ensures.only))

pub ChainConstructed::write_fields-returns-in_err-end-clause-only : goal.ChainConstructed::write_fields-returns-in_err-end-clause-only
ChainConstructed::write_fields-returns-in_err-end-clause-only g t c = let one = g.met.E.Encoder.one_after in
    raised _ _ _ c.from_residual-in_err-end.ensures.1
    (cannot_field one _ (writes_required number_typed c.in_ok-encode.ensures.ok) (cannot_field one _ c.in_ok-encode_optional.ensures.ok (cannot_end c.in_err-end.ensures.only)))

pub ChainConstructed::write_fields-returns-clause-ok : goal.ChainConstructed::write_fields-returns-clause-ok
ChainConstructed::write_fields-returns-clause-ok g t c =
    writes_field _ (writes_required number_typed c.in_ok-encode.ensures.ok) (writes_field _ c.in_ok-encode_optional.ensures.ok (writes_end c.in_ok-end.ensures.ok))

pub ChainEncode::encode_with_tag_and_constraints-returns-in_err-begin_sequence-clause-only : goal.ChainEncode::encode_with_tag_and_constraints-returns-in_err-begin_sequence-clause-only
ChainEncode::encode_with_tag_and_constraints-returns-in_err-begin_sequence-clause-only g t c =
    raised _ _ _ c.from_residual.ensures.1 (rw chain_opens
    (cannot_as _ _ chain_is (cannot_constructed_here _ sequence_form (chain_table chain_schema) (c.number_of_optional_and_default_fields-optional.ensures
    ∙ count_presence_bits _ _ c.fields.ensures) refl _ _ c.in_err-begin_sequence.ensures.only)))

pub ChainEncode::encode_with_tag_and_constraints-returns-in_err-write_fields-clause-only : goal.ChainEncode::encode_with_tag_and_constraints-returns-in_err-write_fields-clause-only
ChainEncode::encode_with_tag_and_constraints-returns-in_err-write_fields-clause-only g t c = let one = g.met.E.Encoder.one_after in
    raised _ _ _ c.from_residual-in_err-write_fields.ensures.1
    (rw chain_opens (cannot_as _ _ chain_is (cannot_constructed _ sequence_form (chain_table chain_schema)
    (c.number_of_optional_and_default_fields-optional.ensures ∙ count_presence_bits _ _ c.fields.ensures) refl one c.in_ok-begin_sequence.ensures.ok c.in_err-write_fields.ensures.only)))

pub ChainEncode::encode_with_tag_and_constraints-returns-clause-ok : goal.ChainEncode::encode_with_tag_and_constraints-returns-clause-ok
ChainEncode::encode_with_tag_and_constraints-returns-clause-ok g t c =
    rw chain_opens (writes_as _ _ chain_is (writes_constructed _ sequence_form (chain_table chain_schema)
    (c.number_of_optional_and_default_fields-optional.ensures ∙ count_presence_bits _ _ c.fields.ensures) refl c.in_ok-begin_sequence.ensures.ok c.in_ok-write_fields.ensures.ok))

pub ChainConstructed::write_fields-returns-in_err-encode_optional-clause-call : goal.ChainConstructed::write_fields-returns-in_err-encode_optional-clause-call
ChainConstructed::write_fields-returns-in_err-encode_optional-clause-call g t c =
    record {
      failed = search rules;
      front = search rules;
      already = search rules;
      after = let law = g.met.E.Encoder.goes_on in
          passed c.from_residual-in_err-encode_optional.ensures.1 (λ e. failed_before_value law (integer_value _ _ _) c.in_ok-encode.ensures.ok (c.in_err-encode_optional.ensures.call.after e));
    }

pub ChainConstructed::write_fields-returns-in_err-end-clause-call : goal.ChainConstructed::write_fields-returns-in_err-end-clause-call
ChainConstructed::write_fields-returns-in_err-end-clause-call g t c =
    record {
      failed = search rules;
      front = search rules;
      already = search rules;
      after = let law = g.met.E.Encoder.goes_on in
          passed c.from_residual-in_err-end.ensures.1
          (λ e. failed_before_value law (integer_value _ _ _) c.in_ok-encode.ensures.ok
          (failed_before_part law (part_optional (λ b. chain_meaning b.value) _ chain_typed (λ b. chain_valued b.value)) c.in_ok-encode_optional.ensures.ok (c.in_err-end.ensures.call.after e)));
    }
