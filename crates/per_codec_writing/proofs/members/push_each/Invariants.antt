use Rattle.std.proofs.Common.{drop}
use Rattle.asn1_model.specs.Form.{joined}
use Rattle.per_codec_packing.specs.FieldLists.{field_list_at}
use Rattle.per_codec_writing.specs.Writing.{Packed, Adds, place}
use Rattle.per_codec_writing.specs.Members.{view_forms}
use Rattle.per_codec_writing.proofs.members.push_each.Given as goal

abbrev pub invariant-loop-member : goal.invariant-loop-member
invariant-loop-member l = (new : Packed) → Adds (field_list_at (joined (view_forms (drop l.member-index l.members))) (place l.output)) l.output new →
    Adds (field_list_at (joined (view_forms l.members)) (place l.initial.output)) l.initial.output new
