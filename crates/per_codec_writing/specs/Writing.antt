-- What a writer did: it appended a field-list, or there is no field-list, or memory ran out.
use Rattle.std.specs.Prelude.{◌≡◌, ℕ, Bool, true, false, [], Option, None}
use Rattle.asn1_schema_errors.specs.declared.EncodeError.{EncodeError}
use Rattle.asn1_schema_errors.specs.declared.EncodeError.TheVariants.{OutOfMemory, CallOutOfPlace, AlreadyFailed}
use Rattle.per_codec_packing.specs.FieldLists.{FieldList}
use Rattle.per_codec_packing.specs.Packed.{padding_at}
pub use Rattle.per_codec_packing.specs.Packed.{Packed, Adds, place, plus}

-- Why no field-list was added: memory ran out, or there is no field-list. It is never that a call was out of place or
-- an earlier one failed.
abbrev pub Refuses : Option FieldList → EncodeError → Type 0
Refuses field_list OutOfMemory = Unit {0}
Refuses field_list CallOutOfPlace = ⊥
Refuses field_list AlreadyFailed = ⊥
Refuses field_list e = field_list ≡ None

-- The padding from a position to the next octet boundary, in the aligned variant (X.691 11.1).
abbrev pub padding_if : Bool → Option ℕ → FieldList
padding_if false q = []
padding_if true q = padding_at q
