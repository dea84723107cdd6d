use Rattle.asn1_laws_across.proofs.Canonical.{strict_alike}
use Rattle.asn1_laws_across.proofs.meaning_laws.strict_writes_alike.Goals as goal

pub returns : goal.returns
returns c = strict_alike
