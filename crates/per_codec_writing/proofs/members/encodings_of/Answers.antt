use Rattle.std.proofs.Common.{arith}
use Rattle.per_codec_packing.specs.Viewed.{field_list_of}
use Rattle.per_codec_writing.proofs.Keyed.{next_keyed}
use Rattle.per_codec_writing.proofs.members.encodings_of.Goals as goal

pub loop-index-preserved : goal.loop-index-preserved
loop-index-preserved c =
    let at = c.loop-index in
    let added = c.in_ok-room.ensures in
    next_keyed c.args.members.now at.encodings c.push_encoding.new.encodings at.index (field_list_of c.get.result) added.key
    (omega (arith, c.loop-index-test.true, c.len-index-end.ensures)) at.invariant c.get.ensures added.keyed added.added
