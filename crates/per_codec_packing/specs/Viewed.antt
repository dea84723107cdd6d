-- The field-list of a view.
use Rattle.asn1_values_bits.specs.BitStr.{bits_of}
use Rattle.per_codec_packing.specs.FieldLists.{FieldList}
use Rattle.per_codec_packing.specs.Spread.{spread}
use Rattle.per_codec_packing.specs.declared.field_list_view.FieldListView.{FieldListView}

-- the field-list that a view shows
unfoldable pub field_list_of : FieldListView → FieldList
field_list_of v = spread 0 (bits_of v.bits) v.paddings.now
