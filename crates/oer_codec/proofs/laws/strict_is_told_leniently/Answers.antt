use Rattle.oer_codec.proofs.Leniently.{told_too}
use Rattle.oer_codec.proofs.laws.strict_is_told_leniently.Goals as goal

pub returns : goal.returns
returns c = told_too
