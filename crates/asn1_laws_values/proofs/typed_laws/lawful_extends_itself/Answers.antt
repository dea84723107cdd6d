use Rattle.asn1_laws_values.proofs.Itself.{extends_itself}
use Rattle.asn1_laws_values.proofs.typed_laws.lawful_extends_itself.Goals as goal

pub returns : goal.returns
returns c = extends_itself
