use Rattle.asn1_laws_numbers.proofs.Written.{written_is_free, free_is_written}
use Rattle.asn1_laws_numbers.proofs.octet_laws.written_is_read_with_no_freedom.Goals as goal

pub returns : goal.returns
returns c = λ r s v w. (written_is_free r s v w, free_is_written r s v w)
