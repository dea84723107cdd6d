use Rattle.asn1_relay_types.proofs.nest.NestDecode.+decode_with_tag_and_constraints.Given as goal

abbrev pub decreases-decode_with_tag_and_constraints : goal.decreases-decode_with_tag_and_constraints
decreases-decode_with_tag_and_constraints g l = g.D.Decoder.levels l.decoder.now
