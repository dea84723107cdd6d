use Rattle.asn1_schema_tags.specs.Tags.{tag_of}
use Rattle.oer_codec_reading.proofs.Places.{numbers_more}
use Rattle.oer_codec_reading.proofs.tags.visit_numbers.Goals as goal

pub loop-entry-preserved : goal.loop-entry-preserved
loop-entry-preserved c = numbers_more tag_of c.args.table.now c.loop-entry.entry-index _ c.number_of-number.result c.loop-entry-test.true
    c.number_of-number.ensures c.number_of-number.type_inv c.loop-entry.invariant
