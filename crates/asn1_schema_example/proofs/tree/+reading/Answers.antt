use Rattle.std.proofs.Common.{rules}
use Rattle.std.proofs.Common.{refl, ◌∙◌, arith, ap, Err}
use Rattle.asn1_schema.specs.Author.{sequence_form}
use Rattle.asn1_schema.proofs.Author.{count_presence_bits, failed_reads, from_close, from_end, from_further, from_next}
use Rattle.asn1_schema.proofs.Author.{from_start, from_stuck, passed_on, raised, reads_as, reads_end, reads_field}
use Rattle.asn1_schema.proofs.Author.{reads_list, reads_required, reads_constructed, unread_as, unread_end}
use Rattle.asn1_schema.proofs.Author.{unread_field, unread_field_here, unread_list, unread_list_here}
use Rattle.asn1_schema.proofs.Author.{unread_required, unread_constructed, unread_constructed_here}
use Rattle.asn1_schema_example.specs.Numbers.{number_typed}
use Rattle.asn1_schema_example.specs.Tree.{tree_table, tree_is, branches_schema, branches_are, tree_opens, tree_made, tree_typed, branches_typed}
use Rattle.asn1_schema_example.proofs.Held.{is_held}
use Rattle.asn1_schema_example.proofs.tree.+reading.Goals as goal

pub TreeConstructed::read_fields-returns-in_err-value-clause-only : goal.TreeConstructed::read_fields-returns-in_err-value-clause-only
TreeConstructed::read_fields-returns-in_err-value-clause-only g t c = raised _ _ _ c.from_residual.ensures.1 (unread_field_here _ _ (unread_required number_typed c.in_err-value.ensures.only))

pub TreeConstructed::read_fields-read_branches-requires : goal.TreeConstructed::read_fields-read_branches-requires
TreeConstructed::read_fields-read_branches-requires g t c κs within = (omega (arith, c.decreases, c.in_ok-value.ensures.call.level), within)

pub TreeConstructed::read_fields-returns-in_err-branches-clause-only : goal.TreeConstructed::read_fields-returns-in_err-branches-clause-only
TreeConstructed::read_fields-returns-in_err-branches-clause-only g t c = let one = g.met.D.Decoder.one_record in let carries =
    g.met.D.Decoder.records_carried in let values = g.met.D.Decoder.values_carried in
    raised _ _ _ c.from_residual-in_err-branches.ensures.1 (unread_field one carries values _ (reads_required number_typed c.in_ok-value.ensures.ok)
    (unread_field_here _ _ (unread_required branches_typed (rw c.in_ok-value.ensures.call.level at c.in_err-branches.ensures.only))))

pub TreeConstructed::read_fields-returns-in_err-end-clause-only : goal.TreeConstructed::read_fields-returns-in_err-end-clause-only
TreeConstructed::read_fields-returns-in_err-end-clause-only g t c = let one = g.met.D.Decoder.one_record in let carries =
    g.met.D.Decoder.records_carried in let values = g.met.D.Decoder.values_carried in
    raised _ _ _ c.from_residual-in_err-end.ensures.1 (unread_field one carries values _ (reads_required number_typed c.in_ok-value.ensures.ok)
    (unread_field one carries values _ (reads_required branches_typed (rw c.in_ok-value.ensures.call.level at c.in_ok-branches.ensures.ok)) (unread_end _ c.in_err-end.ensures.only)))

pub TreeConstructed::read_fields-returns-clause-ok : goal.TreeConstructed::read_fields-returns-clause-ok
TreeConstructed::read_fields-returns-clause-ok g t c = rw tree_made
    (reads_field _ (reads_required number_typed c.in_ok-value.ensures.ok)
    (reads_field _ (reads_required branches_typed (rw c.in_ok-value.ensures.call.level at c.in_ok-branches.ensures.ok)) (reads_end _ c.in_ok-end.ensures.ok)))

pub TreeDecode::decode_with_tag_and_constraints-returns-in_err-begin_sequence-clause-only : goal.TreeDecode::decode_with_tag_and_constraints-returns-in_err-begin_sequence-clause-only
TreeDecode::decode_with_tag_and_constraints-returns-in_err-begin_sequence-clause-only g t c =
    raised _ _ _ c.from_residual.ensures.1
    (unread_as _ _ tree_is (unread_constructed_here sequence_form (tree_table branches_schema) _ (c.number_of_optional_and_default_fields-optional.ensures ∙
    count_presence_bits _ _ c.fields.ensures) refl c.in_err-begin_sequence.ensures.only))

pub TreeDecode::decode_with_tag_and_constraints-read_fields-requires : goal.TreeDecode::decode_with_tag_and_constraints-read_fields-requires
TreeDecode::decode_with_tag_and_constraints-read_fields-requires g t c κs within = (omega (arith, c.decreases, c.in_ok-begin_sequence.ensures.call.level), within)

pub TreeDecode::decode_with_tag_and_constraints-returns-in_err-tree-clause-only : goal.TreeDecode::decode_with_tag_and_constraints-returns-in_err-tree-clause-only
TreeDecode::decode_with_tag_and_constraints-returns-in_err-tree-clause-only g t c = let one = g.met.D.Decoder.one_record in let carries =
    g.met.D.Decoder.records_carried in raised _ _ _ c.from_residual-in_err-tree.ensures.1
    (unread_as _ _ tree_is (unread_constructed one carries sequence_form (tree_table branches_schema) (c.number_of_optional_and_default_fields-optional.ensures ∙
    count_presence_bits _ _ c.fields.ensures) refl c.in_ok-begin_sequence.ensures.call.level c.in_ok-begin_sequence.ensures.ok c.in_err-tree.ensures.only))

pub TreeDecode::decode_with_tag_and_constraints-returns-clause-ok : goal.TreeDecode::decode_with_tag_and_constraints-returns-clause-ok
TreeDecode::decode_with_tag_and_constraints-returns-clause-ok g t c =
    rw tree_opens (reads_as _ _ tree_is
    (reads_constructed sequence_form (tree_table branches_schema) (c.number_of_optional_and_default_fields-optional.ensures ∙ count_presence_bits _ _ c.fields.ensures)
    refl c.in_ok-begin_sequence.ensures.call.level c.in_ok-begin_sequence.ensures.ok c.in_ok-tree.ensures.ok))

pub read_branches-returns-in_err-begin_list-clause-only : goal.read_branches-returns-in_err-begin_list-clause-only
read_branches-returns-in_err-begin_list-clause-only g t c = raised _ _ _ c.from_residual.ensures.1
    (unread_as _ _ branches_are (unread_list_here sequence_form _ _ _ _ c.in_err-begin_list.ensures.only))

pub read_branches-loop-branches-init : goal.read_branches-loop-branches-init
read_branches-loop-branches-init g t c = (rw c.new-branches.ensures.items (from_start _), refl, g.met.D.Decoder.goes_on _ _ _ (c.in_ok-begin_list.ensures.ok 0 refl))

pub read_branches-returns-in_err-get_further-clause-only : goal.read_branches-returns-in_err-get_further-clause-only
read_branches-returns-in_err-get_further-clause-only g t c =
    raised _ _ _ c.from_residual-in_err-get_further.ensures.1
    (unread_as _ _ branches_are (unread_list sequence_form _ _ _ g.met.D.Decoder.one_record g.met.D.Decoder.members_carried g.met.D.Decoder.list_held
    c.in_ok-begin_list.ensures.call.level c.in_ok-begin_list.ensures.ok (from_further g.met.D.Decoder.members_carried _ c.loop-branches.invariant.0 c.in_err-get_further.ensures.only)))

pub read_branches-decode_with_tag_and_constraints-requires : goal.read_branches-decode_with_tag_and_constraints-requires
read_branches-decode_with_tag_and_constraints-requires g t c κs within =
    (omega (arith, c.decreases, c.in_ok-begin_list.ensures.call.level, c.loop-branches.invariant.1, c.in_ok-get_further.ensures.call.level), within)

pub read_branches-returns-in_err-branch-clause-only : goal.read_branches-returns-in_err-branch-clause-only
read_branches-returns-in_err-branch-clause-only g t c = let one = g.met.D.Decoder.one_record in let carries = g.met.D.Decoder.members_carried in
    raised _ _ _ c.from_residual-in_err-branch.ensures.1
    (unread_as _ _ branches_are (unread_list sequence_form _ _ _ one carries g.met.D.Decoder.list_held c.in_ok-begin_list.ensures.call.level
    c.in_ok-begin_list.ensures.ok (from_stuck carries one _ (tree_typed.lawful _) c.loop-branches.invariant.0
    (rw c.if-branch.true at c.in_ok-get_further.ensures.ok) (rw (c.in_ok-get_further.ensures.call.level ∙ c.loop-branches.invariant.1) at c.in_err-branch.ensures.only))))

pub read_branches-loop-branches-preserved : goal.read_branches-loop-branches-preserved
read_branches-loop-branches-preserved g t c =
    let e = c.in_ok-get_further.ensures.call.level ∙ c.loop-branches.invariant.1 in
    let law = g.met.D.Decoder.goes_on in (
      rw c.in-Ok.ensures.items (from_next g.met.D.Decoder.members_carried g.met.D.Decoder.one_record c.loop-branches.invariant.0
          (rw c.if-branch.true at c.in_ok-get_further.ensures.ok) (rw e at c.in_ok-branch.ensures.ok)),
      c.in_ok-branch.ensures.call.level ∙ e,
      λ f. law _ _ _ c.in_ok-get_further.ensures.ok (failed_reads law c.in_ok-branch.ensures.ok f),
    )

pub read_branches-returns-in_err-end-clause-only : goal.read_branches-returns-in_err-end-clause-only
read_branches-returns-in_err-end-clause-only g t c = let one = g.met.D.Decoder.one_record in let carries = g.met.D.Decoder.members_carried in
    raised _ _ _ c.from_residual-in_err-end.ensures.1
    (unread_as _ _ branches_are (unread_list sequence_form _ _ _ one carries g.met.D.Decoder.list_held c.in_ok-begin_list.ensures.call.level
    c.in_ok-begin_list.ensures.ok (from_close carries one _ c.loop-branches.invariant.0 (rw c.if-branch.false at c.in_ok-get_further.ensures.ok) c.in_err-end.ensures.only)))

pub read_branches-returns-clause-ok : goal.read_branches-returns-clause-ok
read_branches-returns-clause-ok g t c = reads_as _ _ branches_are
    (reads_list sequence_form _ _ _ _ _ c.in_ok-begin_list.ensures.call.level c.in_ok-begin_list.ensures.ok (is_held c.loop-branches.branches)
    (from_end c.loop-branches.invariant.0 (rw c.if-branch.false at c.in_ok-get_further.ensures.ok) c.in_ok-end.ensures.ok))

pub read_branches-returns-clause-level : goal.read_branches-returns-clause-level
read_branches-returns-clause-level g t c = omega (arith, c.in_ok-end.ensures.call.level, c.in_ok-get_further.ensures.call.level, c.loop-branches.invariant.1, c.in_ok-begin_list.ensures.call.level)

pub TreeConstructed::read_fields-returns-in_err-branches-clause-call : goal.TreeConstructed::read_fields-returns-in_err-branches-clause-call
TreeConstructed::read_fields-returns-in_err-branches-clause-call g t c =
    record {
      failed = search rules;
      level = search rules;
      already = search rules;
      after = let law = g.met.D.Decoder.goes_on in
          passed_on _ c.from_residual-in_err-branches.ensures.1 (λ h. failed_reads law c.in_ok-value.ensures.ok (c.in_err-branches.ensures.after (ap (λ z. Err z) h)));
    }

pub TreeConstructed::read_fields-returns-in_err-end-clause-call : goal.TreeConstructed::read_fields-returns-in_err-end-clause-call
TreeConstructed::read_fields-returns-in_err-end-clause-call g t c =
    record {
      failed = search rules;
      level = search rules;
      already = search rules;
      after = let law = g.met.D.Decoder.goes_on in
          passed_on _ c.from_residual-in_err-end.ensures.1 (λ h. failed_reads law c.in_ok-value.ensures.ok
          (failed_reads law c.in_ok-branches.ensures.ok (c.in_err-end.ensures.call.after (ap (λ z. Err z) h))));
    }

pub read_branches-returns-in_err-get_further-clause-after : goal.read_branches-returns-in_err-get_further-clause-after
read_branches-returns-in_err-get_further-clause-after g t c =
    passed_on _ c.from_residual-in_err-get_further.ensures.1 (λ h. absurd (c.loop-branches.invariant.2 (c.in_err-get_further.ensures.call.after (ap (λ z. Err z) h))))
