-- The components of a struct, and those of its values.
use Rattle.std.specs.Prelude.{◌≡◌, ℕ, Bool, true, false, cond, List, [], ◌∷◌}
use Rattle.asn1_model.specs.Schema.{Tag, Schema}
use Rattle.asn1_model.specs.Value.{Value, Parts, fields}
use Rattle.asn1_schema_laws.specs.Tables.{Table, IsType, IsValue, optional_field_count}
use Rattle.asn1_schema_laws.specs.Forms.{Form, sequence_form, set_form, constructed_type}
use Rattle.asn1_schema_constructed.specs.Constructed.{sequence_tags}
use Rattle.asn1_schema_tags.specs.declared.tags.Class.TheVariants.{Universal}
use Rattle.asn1_schema_tags.specs.declared.tags.Tag.{Tag as OwnTag}
use Rattle.asn1_schema_authored.specs.declared.composites.Heading.{Heading}

-- Whether the components are those of a SET.
abbrev pub is_set : Form → Bool
is_set sequence_form = false
is_set set_form = true

-- The tag of SEQUENCE or SET (X.680 8.4).
abbrev pub form_tags : Form → List Tag
form_tags sequence_form = sequence_tags
form_tags set_form = record { class = 0; number = 17 } ∷ []

-- The tag of SEQUENCE as the crate `asn1_schema_tags` has it.
abbrev pub sequence_tag : OwnTag
sequence_tag = record { class = Universal; value = 16 }

abbrev pub set_tag : OwnTag
set_tag = record { class = Universal; value = 17 }

abbrev pub form_tag : Form → OwnTag
form_tag sequence_form = sequence_tag
form_tag set_form = set_tag

-- SEQUENCE or SET, its components, and those of a value: the type is well-formed, and each value is one of it.
pub record Shape (A : Type 0) : Type 0 where
  pub form : Form
  pub table : Table
  pub root : A → Parts
  pub added : A → Parts
  pub typed : IsType (form_tags form) (constructed_type form table)
  pub valued : (x : A) → IsValue (constructed_type form table) (fields (root x) (added x))

-- The type of a shape.
abbrev pub shape_type : {A : Type 0} → Shape A → ℕ → Schema
shape_type s n = constructed_type s.form s.table n

-- What a value of the struct means.
abbrev pub shape_value : {A : Type 0} → Shape A → A → Value
shape_value s x = fields (s.root x) (s.added x)

-- The shape of a type that holds a value with another shape.
abbrev pub shape_through : {A B : Type 0} → (A → B) → Shape B → Shape A
shape_through f s = record {
  form = s.form;
  table = s.table;
  root = λ x. s.root (f x);
  added = λ x. s.added (f x);
  typed = s.typed;
  valued = λ x. s.valued (f x);
}

-- What precedes the components of a shape.
pub record IsHeading (h : Heading) (k : Form) (t : Table) : Type 0 where
  pub form : h.set ≡ is_set k
  pub marker : h.extensible ≡ t.extensible
  pub presence_bits : h.optional ≡ optional_field_count t.root

-- SEQUENCE or SET, from a heading.
abbrev pub form_of : Bool → Form
form_of true = set_form
form_of false = sequence_form
