use Rattle.std.proofs.Common.{refl}
use Rattle.asn1_model.proofs.OnValues.{on_values}
use Rattle.per_codec_packing.specs.FieldLists.{field_list_at}
use Rattle.per_codec_encoder.proofs.step_laws.state_rows.Goals as goal

pub returns : goal.returns
unfolding on_values field_list_at
returns c = (refl, refl, refl, refl, refl, refl, refl, refl, refl, refl, refl, refl, refl, refl, refl, refl, refl, refl, refl, refl)
