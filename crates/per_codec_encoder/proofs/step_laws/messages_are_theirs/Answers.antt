use Rattle.per_codec_encoder.proofs.Chains as Chains
use Rattle.per_codec_encoder.proofs.step_laws.messages_are_theirs.Goals as goal

pub returns : goal.returns
returns c = Chains.messages
