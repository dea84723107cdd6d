use Rattle.per_codec_packing.proofs.Forms as Forms
use Rattle.per_codec_packing.proofs.field_list_laws.own_field_lists.Goals as goal

pub returns : goal.returns
returns c = Forms.own_field_list
