use Rattle.oer_codec.proofs.Leniently.{for_memory}
use Rattle.oer_codec.proofs.laws.strict_is_refused_for_memory.Goals as goal

pub returns : goal.returns
returns c = for_memory
