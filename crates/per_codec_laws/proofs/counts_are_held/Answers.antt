use Rattle.per_codec_laws.proofs.counts_are_held.Goals as goal

pub returns : goal.returns
returns c al free a z h n b t = t.0
