use Rattle.asn1_laws_versions.proofs.Exactly.{newer_reads_exactly}
use Rattle.asn1_laws_versions.proofs.exact_laws.newer_reads_exactly.Goals as goal

pub returns : goal.returns
returns c = λ r old new v x w l k h e. newer_reads_exactly r old new v x w l k h e
