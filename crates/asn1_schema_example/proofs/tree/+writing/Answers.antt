use Rattle.std.proofs.Common.{rules}
use Rattle.std.proofs.Common.{refl, ◌∙◌}
use Rattle.asn1_schema.specs.Author.{sequence_form}
use Rattle.asn1_schema.proofs.Author.{cannot_as, cannot_end, cannot_field, cannot_field_here, cannot_required}
use Rattle.asn1_schema.proofs.Author.{cannot_constructed, cannot_constructed_here, count_presence_bits, failed_before_value, integer_value}
use Rattle.asn1_schema.proofs.Author.{passed, raised, value_list, writes_as, writes_end, writes_field}
use Rattle.asn1_schema.proofs.Author.{writes_required, writes_constructed}
use Rattle.asn1_schema_example.specs.Numbers.{number_typed}
use Rattle.asn1_schema_example.specs.Tree.{tree_table, tree_schema, tree_meaning, tree_valued, tree_is, branches_schema, branches_are, tree_opens, branches_typed}
use Rattle.asn1_schema_example.proofs.tree.+writing.Goals as goal

pub TreeConstructed::write_fields-returns-in_err-encode-clause-only : goal.TreeConstructed::write_fields-returns-in_err-encode-clause-only
TreeConstructed::write_fields-returns-in_err-encode-clause-only g t c = raised _ _ _ c.from_residual.ensures.1 (cannot_field_here _ _ _ _ (cannot_required number_typed c.in_err-encode.ensures.only))

pub TreeConstructed::write_fields-returns-in_err-encode-2-clause-only : goal.TreeConstructed::write_fields-returns-in_err-encode-2-clause-only
TreeConstructed::write_fields-returns-in_err-encode-2-clause-only g t c = let one = g.met.E.Encoder.one_after in
    raised _ _ _ c.from_residual-in_err-encode-2.ensures.1
    (cannot_field one _ (writes_required number_typed c.in_ok-encode.ensures.ok)
    (cannot_field_here _ _ _ _ (cannot_required branches_typed (cannot_as _ _ branches_are c.in_err-encode-2.ensures.only))))

pub TreeConstructed::write_fields-returns-in_err-end-clause-only : goal.TreeConstructed::write_fields-returns-in_err-end-clause-only
TreeConstructed::write_fields-returns-in_err-end-clause-only g t c = let one = g.met.E.Encoder.one_after in
    raised _ _ _ c.from_residual-in_err-end.ensures.1
    (cannot_field one _ (writes_required number_typed c.in_ok-encode.ensures.ok)
    (cannot_field one _ (writes_required branches_typed (writes_as _ _ branches_are c.in_ok-encode-2.ensures.ok)) (cannot_end c.in_err-end.ensures.only)))

pub TreeConstructed::write_fields-returns-clause-ok : goal.TreeConstructed::write_fields-returns-clause-ok
TreeConstructed::write_fields-returns-clause-ok g t c =
    writes_field _ (writes_required number_typed c.in_ok-encode.ensures.ok)
    (writes_field _ (writes_required branches_typed (writes_as _ _ branches_are c.in_ok-encode-2.ensures.ok)) (writes_end c.in_ok-end.ensures.ok))

pub TreeEncode::encode_with_tag_and_constraints-returns-in_err-begin_sequence-clause-only : goal.TreeEncode::encode_with_tag_and_constraints-returns-in_err-begin_sequence-clause-only
TreeEncode::encode_with_tag_and_constraints-returns-in_err-begin_sequence-clause-only g t c =
    raised _ _ _ c.from_residual.ensures.1 (rw tree_opens
    (cannot_as _ _ tree_is (cannot_constructed_here _ sequence_form (tree_table branches_schema)
    (c.number_of_optional_and_default_fields-optional.ensures ∙ count_presence_bits _ _ c.fields.ensures) refl _ _ c.in_err-begin_sequence.ensures.only)))

pub TreeEncode::encode_with_tag_and_constraints-returns-in_err-write_fields-clause-only : goal.TreeEncode::encode_with_tag_and_constraints-returns-in_err-write_fields-clause-only
TreeEncode::encode_with_tag_and_constraints-returns-in_err-write_fields-clause-only g t c = let one = g.met.E.Encoder.one_after in
    raised _ _ _ c.from_residual-in_err-write_fields.ensures.1
    (rw tree_opens (cannot_as _ _ tree_is (cannot_constructed _ sequence_form (tree_table branches_schema)
    (c.number_of_optional_and_default_fields-optional.ensures ∙ count_presence_bits _ _ c.fields.ensures) refl one c.in_ok-begin_sequence.ensures.ok c.in_err-write_fields.ensures.only)))

pub TreeEncode::encode_with_tag_and_constraints-returns-clause-ok : goal.TreeEncode::encode_with_tag_and_constraints-returns-clause-ok
TreeEncode::encode_with_tag_and_constraints-returns-clause-ok g t c =
    rw tree_opens (writes_as _ _ tree_is (writes_constructed _ sequence_form (tree_table branches_schema)
    (c.number_of_optional_and_default_fields-optional.ensures ∙ count_presence_bits _ _ c.fields.ensures) refl c.in_ok-begin_sequence.ensures.ok c.in_ok-write_fields.ensures.ok))

pub TreeConstructed::write_fields-returns-in_err-encode-2-clause-call : goal.TreeConstructed::write_fields-returns-in_err-encode-2-clause-call
TreeConstructed::write_fields-returns-in_err-encode-2-clause-call g t c =
    record {
      failed = search rules;
      front = search rules;
      already = search rules;
      after = let law = g.met.E.Encoder.goes_on in
          passed c.from_residual-in_err-encode-2.ensures.1 (λ e. failed_before_value law (integer_value _ _ _) c.in_ok-encode.ensures.ok (c.in_err-encode-2.ensures.call.after e));
    }

pub TreeConstructed::write_fields-returns-in_err-end-clause-call : goal.TreeConstructed::write_fields-returns-in_err-end-clause-call
TreeConstructed::write_fields-returns-in_err-end-clause-call g t c =
    record {
      failed = search rules;
      front = search rules;
      already = search rules;
      after = let law = g.met.E.Encoder.goes_on in
          passed c.from_residual-in_err-end.ensures.1
          (λ e. failed_before_value law (integer_value _ _ _) c.in_ok-encode.ensures.ok
          (failed_before_value law (value_list sequence_form _ _ tree_schema tree_meaning _ tree_valued) c.in_ok-encode-2.ensures.ok (c.in_err-end.ensures.call.after e)));
    }
