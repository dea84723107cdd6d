use Rattle.per_codec_writing.proofs.UnitFieldLists.{octets_added}
use Rattle.per_codec_writing.proofs.units.RefSliceU8Units.push_range.Goals as goal

pub returns : goal.returns
returns c = octets_added c.args.self.now.now c.args.from c.args.to c.args.output.now c.extend_from_bytes.new.self c.in_ok-extend_from_bytes.ensures.ok
