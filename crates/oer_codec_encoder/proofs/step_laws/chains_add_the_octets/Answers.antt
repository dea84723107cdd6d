use Rattle.oer_codec_encoder.proofs.Chains as Chains
use Rattle.oer_codec_encoder.proofs.step_laws.chains_add_the_octets.Goals as goal

pub returns : goal.returns
returns c = Chains.chains_add
