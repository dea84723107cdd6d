use Rattle.std.proofs.Common.{true, false}
use Rattle.asn1_model.specs.Rules.{IsEncoding}
use Rattle.asn1_laws_values.proofs.Normal.{normal_stays}
use Rattle.asn1_laws_values.proofs.PerRead.{message_normal}
use Rattle.asn1_laws_values.proofs.OerRead.{octets_normal}
use Rattle.asn1_laws_values.proofs.message_laws.strict_reads_normal.Goals as goal

pub returns : goal.returns
unfolding IsEncoding
returns c = λ s v w. (λ r. normal_stays s v (message_normal false s v _ r.1), λ r. normal_stays s v (message_normal true s v _ r.1), λ r. normal_stays s v (octets_normal s v w r.1))
