use Rattle.per_codec_writing.proofs.IdentifierFieldLists.{first_contents, more_contents}
use Rattle.per_codec_writing.proofs.object_identifier.push_contents.Goals as goal

pub loop-arc-init : goal.loop-arc-init
loop-arc-init c = first_contents c.args.first c.args.output.now c.push_subidentifier.new.output c.in_ok-push_subidentifier.ensures

pub loop-arc-preserved : goal.loop-arc-preserved
loop-arc-preserved c =
    more_contents c.args.first c.args.others.now c.loop-arc.arc-index c.from.result c.args.output.now c.loop-arc.output
    c.push_subidentifier-in-loop-arc.new.output c.loop-arc-test.true c.from.ensures c.loop-arc.invariant c.in_ok-push_subidentifier-2.ensures
