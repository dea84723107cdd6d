use Rattle.asn1_model.proofs.Forms.{widens}
use Rattle.asn1_laws_values.proofs.message_laws.oer_widens.Goals as goal

pub returns : goal.returns
returns c = λ few more x p w h r. widens few more x p w h r
