use Rattle.std.proofs.Common.{◌≡◌, map, take}
use Rattle.per_codec_writing.specs.Members.{view_forms}
use Rattle.per_codec_writing.proofs.Ordered.{form_at}
use Rattle.per_codec_writing.proofs.members.in_order.Given as goal

abbrev pub invariant-loop-entry : goal.invariant-loop-entry
invariant-loop-entry l = view_forms l.ordered.items ≡ map (form_at l.members) (take l.entry-index l.entry-items)
