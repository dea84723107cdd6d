use Rattle.asn1_model.proofs.Forms.{reads_written, writes_read}
use Rattle.asn1_laws_values.proofs.message_laws.per_canonical.Goals as goal

pub returns : goal.returns
returns c = λ x p w. (reads_written x p w, writes_read x p w)
