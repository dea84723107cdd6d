use Rattle.per_codec_writing.proofs.UnitFieldLists.{members_added}
use Rattle.per_codec_writing.proofs.units.RefSliceFieldListViewUnits.push_range.Goals as goal

pub returns : goal.returns
returns c = members_added c.args.self.now.now c.args.from c.args.to c.args.output.now c.push_each.new.output c.in_ok-push_each.ensures
