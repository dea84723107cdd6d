use Rattle.per_codec_laws.proofs.Messages as Messages
use Rattle.per_codec_laws.proofs.encodings_are_found.Goals as goal

pub returns : goal.returns
returns c = (Messages.finds_uper, Messages.finds_aper, Messages.finds_uper_strict, Messages.finds_aper_strict)
