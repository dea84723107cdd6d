use Rattle.asn1_schema_example.proofs.chain.ChainConstructed.+read_fields.Given as goal

abbrev pub decreases-read_fields : goal.decreases-read_fields
decreases-read_fields g l = g.D.Decoder.levels l.decoder.now
