use Rattle.std.proofs.Common.{length, ap, arith}
use Rattle.std.proofs.lemmas.List.{length-map}
use Rattle.per_codec_packing.specs.Parts.{field_list_in}
use Rattle.per_codec_packing.proofs.field_lists.FieldLists.len.Goals as goal

pub returns : goal.returns
returns c = omega (arith, c.len.ensures, c.self.inside.parts.ok.0, length-map c.self.inside.parts.items (field_list_in c.self.inside.bits c.self.inside.paddings.items), ap length c.self.view_is)
