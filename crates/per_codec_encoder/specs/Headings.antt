-- How a list continues, in the bits of an encoder: its elements, and the length determinants between them (X.691
-- 11.9.3.8 and 20).
use Rattle.std.specs.Prelude.{◌≡◌, Bool, List, ◌∷◌, ◌++◌, Some, None}
use Rattle.asn1_schema_errors.specs.declared.EncodeError.{EncodeError}
use Rattle.asn1_schema_errors.specs.declared.EncodeError.TheVariants.{OutOfMemory, SizeConstraintNotSatisfied}
use Rattle.asn1_schema_errors.specs.declared.EncodeError.TheVariants.{AlreadyFailed}
use Rattle.per_codec_packing.specs.FieldLists.{FieldList}
use Rattle.per_codec_packing.specs.Packed.{Packed, place, plus}
use Rattle.per_codec_writing.specs.Headings.{determinants_of}
use Rattle.per_codec_writing.specs.declared.length.Due.{Due}
use Rattle.per_codec_encoder.specs.Steps.{Scope, members, position, goes_on_in, counted_on}

-- If an element or the end comes next, a length determinant precedes it, if one is to come, and `next` is due after it.
pub record GoesOn (al : Bool) (d : Due) (old : Packed) (next : Due) (new : Packed) : Type 0 where
  pub field_list : FieldList
  pub added : new ≡ plus old field_list
  pub goes : (os : FieldList) (k : List Scope) (b : Bool) → position (os, k) ≡ place old
      → goes_on_in al d.units (determinants_of d.behind) os k b ≡ counted_on next.units (determinants_of next.behind)
      (os ++ field_list) k b
  pub ready : next.units ≡ 0 → next.behind ≡ None

-- If an element or the end comes next in a list, the field-list and what is due are those after this step.
pub record GoesOnInList (al more : Bool) (d : Due) (old : Packed) (next : Due) (new : Packed) : Type 0 where
  pub field_list : FieldList
  pub added : new ≡ plus old field_list
  pub goes : (os : FieldList) (k : List Scope) → position (os, k) ≡ place old
      → goes_on_in al d.units (determinants_of d.behind) os k more ≡ Some
      (os ++ field_list, members next.units (determinants_of next.behind) ∷ k)

-- Why nothing comes next in a list: memory ran out, or there is no step. No size is checked then.
abbrev pub NoMember : Bool → Bool → Due → Packed → EncodeError → Type 0
NoMember al more d old OutOfMemory = Unit {0}
NoMember al more d old SizeConstraintNotSatisfied = ⊥
NoMember al more d old AlreadyFailed = ⊥
NoMember al more d old e = (os : FieldList) (k : List Scope) → position (os, k) ≡ place old
    → goes_on_in al d.units (determinants_of d.behind) os k more ≡ None
