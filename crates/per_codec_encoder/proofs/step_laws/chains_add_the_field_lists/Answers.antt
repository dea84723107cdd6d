use Rattle.per_codec_encoder.proofs.Chains as Chains
use Rattle.per_codec_encoder.proofs.step_laws.chains_add_the_field_lists.Goals as goal

pub returns : goal.returns
returns c = Chains.added
