-- Laws of field-lists.
use Rattle.std.specs.Prelude.{◌≡◌, ℕ, Some, None, option_map}
use Rattle.asn1_model.specs.Form.{written}
use Rattle.asn1_model.specs.Per
use Rattle.per_codec_packing.specs.FieldLists.{FieldList, as_field_list, field_list_at, as_form}

-- At a known position the field-list of a form is what is written there, bit by bit.
abbrev pub KnownFieldLists : Type 0
KnownFieldLists = (x : Per.BitForm) (p : ℕ) → field_list_at x (Some p) ≡ option_map as_field_list (written x p)

-- A field-list, taken as a form, is that field-list again at an unknown position.
abbrev pub OwnFieldLists : Type 0
OwnFieldLists = (t : FieldList) → field_list_at (as_form t) None ≡ Some t
