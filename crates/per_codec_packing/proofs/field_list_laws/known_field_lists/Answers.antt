use Rattle.per_codec_packing.proofs.Formed as FieldLists
use Rattle.per_codec_packing.proofs.field_list_laws.known_field_lists.Goals as goal

pub returns : goal.returns
returns c = FieldLists.known
