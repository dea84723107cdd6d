-- Bags, whose elements are stored until they end (X.691 22).
use Rattle.std.specs.Prelude.{◌≡◌, Bool, false, List, ◌∷◌, map, Option, Some, None}
use Rattle.asn1_model.specs.Per
use Rattle.asn1_schema_constraints.specs.Bounds.{members_of}
use Rattle.asn1_schema_constraints.specs.Terms.{size_of}
use Rattle.asn1_schema_errors.specs.declared.EncodeError.{EncodeError}
use Rattle.asn1_schema_errors.specs.declared.EncodeError.TheVariants.{OutOfMemory, SizeConstraintNotSatisfied}
use Rattle.asn1_schema_errors.specs.declared.EncodeError.TheVariants.{AlreadyFailed}
use Rattle.per_codec_packing.specs.FieldLists.{FieldList, as_form}
use Rattle.per_codec_packing.specs.Packed.{Packed}
use Rattle.per_codec_encoder.specs.Steps.{Scope, bag_members, counted_in}
use Rattle.per_codec_encoder.specs.declared.frame.Bag.{Bag}

-- The scope of a bag, with the field-list before it.
abbrev pub bag_of : Bag → FieldList → Scope
bag_of b front = bag_members (size_of b.sizes) (members_of b.held) b.due b.members front

-- The form of a bag of these elements (X.691 22).
abbrev pub form_of : Bool → Bag → List FieldList → Per.BitForm
form_of al b ts = Per.in_any_order (map as_form ts)
    (Per.sized al (size_of b.sizes) (members_of b.held) (λ c. false))

-- Whether a further element comes, in what the writer holds: the field-list of the innermost element, and the scopes.
abbrev pub further_in : Bool → Bag → FieldList → FieldList → List Scope → Option (FieldList × List Scope)
further_in more b os front k = counted_in (size_of b.sizes)
    (members_of b.held) b.due b.members front os k more

-- A further element or the end comes next: the field-list and the bag are those after this step.
pub record GoesOnInBag (more : Bool) (b : Bag) (o : Packed) (next : Bag) (p : Packed) : Type 0 where
  pub goes : (front : FieldList) (k : List Scope) → further_in more b o.field_list front k
      ≡ Some (p.field_list, bag_of next front ∷ k)
  pub outer : next.outer ≡ b.outer
  pub unplaced : o.placed ≡ false → p.placed ≡ false

-- Why nothing comes next: memory ran out, or there is no step. No size is checked then.
abbrev pub NoFurther : Bool → Bag → Packed → EncodeError → Type 0
NoFurther more b o OutOfMemory = Unit {0}
NoFurther more b o SizeConstraintNotSatisfied = ⊥
NoFurther more b o AlreadyFailed = ⊥
NoFurther more b o e = (front : FieldList) (k : List Scope) → further_in more b o.field_list front k ≡ None
