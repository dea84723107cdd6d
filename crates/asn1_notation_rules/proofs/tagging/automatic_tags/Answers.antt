use Rattle.std.proofs.Common.{◌+◌, ◌<◌, false, length, ap, sym, ◌∙◌, arith}
use Rattle.std.proofs.lemmas.Grind.{common_steps}
use Rattle.std.proofs.lemmas.List.{length_push}
use Rattle.asn1_notation_rules.specs.Tags.{context_tag}
use Rattle.asn1_notation_rules.proofs.Counting.{added_more, added_number_below, added_same, number_of_added, number_of_root, root_more, root_same, tags_more}
use Rattle.asn1_notation_rules.proofs.tagging.automatic_tags.Goals.{then-is_added+in_ok-tag_numbered+in_ok-push, else-is_added+in_ok-tag_numbered-2+in_ok-push-2}
use Rattle.asn1_notation_rules.proofs.tagging.automatic_tags.Goals as goal

pub returns-in_err-tag_numbered-clause-refused : goal.returns-in_err-tag_numbered-clause-refused
returns-in_err-tag_numbered-clause-refused c =
    let below : c.loop-is_added.added < length c.args.are_added.now =
    omega (arith, added_number_below c.args.are_added.now c.loop-is_added.is_added-index false c.loop-is_added-test.true c.if-is_added.true, c.loop-is_added.invariant.added) in
    grind (arith, common_steps)

pub loop-is_added-preserved : goal.loop-is_added-preserved
loop-is_added-preserved c =
    let xs = c.args.are_added.now in
    let k = c.loop-is_added.is_added-index in
    let l = c.loop-is_added-test.true in
    let s = c.loop-is_added.invariant in
    let tags = c.loop-is_added.tags.items in
    elim c.if-is_added.branch [
      | then-is_added+in_ok-tag_numbered+in_ok-push w ↦
          let h = w.if-is_added.true in
          rw (w.tags-is, w.root-is, w.added-is) (record {
            root = s.root ∙ sym (root_same xs k false l h);
            added = omega (arith, s.added, added_more xs k false l h);
            count = ap length w.in_ok-push.ensures.items ∙ length_push tags w.in_ok-tag_numbered.field-0 ∙ ap (λ n. n + 1) s.count;
            tag = λ j d b. rw w.in_ok-push.ensures.items
                (tags_more xs k tags w.in_ok-tag_numbered.field-0 s.count s.tag
                (w.in_ok-tag_numbered.ensures.tag ∙ ap context_tag (s.added ∙ sym (number_of_added xs k l h))) j d b);
          })
      | else-is_added+in_ok-tag_numbered-2+in_ok-push-2 w ↦
          let h = w.if-is_added.false in
          rw (w.tags-is, w.root-is, w.added-is) (record {
            root = omega (arith, s.root, root_more xs k false l h);
            added = omega (arith, s.added, added_same xs k false l h);
            count = ap length w.in_ok-push-2.ensures.items ∙ length_push tags w.in_ok-tag_numbered-2.field-0 ∙ ap (λ n. n + 1) s.count;
            tag = λ j d b. rw w.in_ok-push-2.ensures.items
                (tags_more xs k tags w.in_ok-tag_numbered-2.field-0 s.count s.tag
                (w.in_ok-tag_numbered-2.ensures.tag ∙ ap context_tag (s.root ∙ sym (number_of_root xs k l h))) j d b);
          })
    ]
