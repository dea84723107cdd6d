use Rattle.oer_codec.proofs.Leniently.{told_alone}
use Rattle.oer_codec.proofs.laws.nothing_else_is_told_leniently.Goals as goal

pub returns : goal.returns
returns c = told_alone
