use Rattle.asn1_model.specs.Per
use Rattle.per_codec_packing.proofs.Formed as FieldLists
use Rattle.per_codec_encoder.proofs.PaddingAlone as PaddingAlone
use Rattle.per_codec_encoder.proofs.step_laws.field_lists_are_written.Goals as goal

pub returns : goal.returns
returns c = λ al s v p. (FieldLists.known (Per.form al s v) p, PaddingAlone.told_bits (PaddingAlone.form_padding al s v) p)
