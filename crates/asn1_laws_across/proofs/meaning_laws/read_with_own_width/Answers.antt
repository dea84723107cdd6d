use Rattle.asn1_laws_across.proofs.Narrowed.{with_own_width}
use Rattle.asn1_laws_across.proofs.meaning_laws.read_with_own_width.Goals as goal

pub returns : goal.returns
returns c = with_own_width
