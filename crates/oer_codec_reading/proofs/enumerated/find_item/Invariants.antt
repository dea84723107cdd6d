use Rattle.std.proofs.Common.{◌≡◌, None, map, take}
use Rattle.asn1_model.specs.Normal.{item_index}
use Rattle.asn1_values_natives.specs.Octets.{signed_number}
use Rattle.oer_codec_reading.proofs.enumerated.find_item.Given as goal

abbrev pub invariant-loop-item : goal.invariant-loop-item
invariant-loop-item g l = item_index (signed_number l.octets) (map g.I.EnumerationItems.number (take l.item-index l.items)) ≡ None
