use Rattle.asn1_table_laws.proofs.Choices.{chosen_awaited}
use Rattle.asn1_table_walker.proofs.reading.go_on.Goals as goal

pub returns-in-Alternative-clause-ok : goal.returns-in-Alternative-clause-ok
returns-in-Alternative-clause-ok g c = rw c.in-Alternative.is (chosen_awaited g.met.D.Decoder.one_record g.met.D.Decoder.values_carried _)
