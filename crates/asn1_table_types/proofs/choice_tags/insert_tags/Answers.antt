use Rattle.asn1_table_types.proofs.Inserting.{inserted_at}
use Rattle.asn1_table_types.proofs.choice_tags.insert_tags.Goals as goal

pub loop-tag-preserved : goal.loop-tag-preserved
loop-tag-preserved c = λ ts l e.
    inserted_at _ _ ts _ c.loop-tag.tag-index _ c.loop-tag-test.true e (c.loop-tag.invariant ts l e) c.in_ok-insert_tag.ensures
