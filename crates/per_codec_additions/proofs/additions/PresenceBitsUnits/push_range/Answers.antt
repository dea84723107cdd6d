use Rattle.per_codec_additions.proofs.AdditionFieldLists.{presence_added}
use Rattle.per_codec_additions.proofs.additions.PresenceBitsUnits.push_range.Goals as goal

pub returns : goal.returns
returns c = presence_added c.args.self.now.slots.now c.args.from c.args.to c.args.output.now c.push_presence_bits.new.output c.in_ok-push_presence_bits.ensures
