use Rattle.per_codec_writing.specs.Characters.{low_bits}
use Rattle.per_codec_writing.proofs.UnitFieldLists.{numbers_added}
use Rattle.per_codec_writing.proofs.number_units.NumberUnitsUnits.push_range.Goals as goal

pub returns : goal.returns
returns c = numbers_added (low_bits c.args.self.now.base c.args.self.now.width) c.args.self.now.octets.now c.args.from c.args.to c.args.output.now
    c.push_low_bits.new.output c.in_ok-push_low_bits.ensures
