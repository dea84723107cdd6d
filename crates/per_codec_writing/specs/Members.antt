-- The forms of the elements of a SET OF (X.691 22), from their field-lists or from views of these.
use Rattle.std.specs.Prelude.{List, map}
use Rattle.asn1_model.specs.Per
use Rattle.per_codec_packing.specs.FieldLists.{FieldList, as_form}
use Rattle.per_codec_packing.specs.Viewed.{field_list_of}
use Rattle.per_codec_packing.specs.declared.field_list_view.FieldListView.{FieldListView}

-- The elements by their field-lists.
abbrev pub forms : List FieldList → List Per.BitForm
forms ts = map (λ t. as_form t) ts

-- The elements by views of their field-lists.
abbrev pub view_forms : List FieldListView → List Per.BitForm
view_forms vs = map (λ v. as_form (field_list_of v)) vs
