-- The forms of the numbers of types, worked out once.
use Rattle.std.specs.Prelude.{◌≡◌, ℕ, List, Option, Some, None, slice_get}
use Rattle.asn1_model.specs.Schema.{Bounds}
use Rattle.asn1_schema_forms.specs.Forms.{form_bounds}
use Rattle.asn1_schema_forms.specs.declared.number.NumberForm.{NumberForm}
use Rattle.asn1_table_nodes.specs.Meaning.{bounds_in}
use Rattle.asn1_table_nodes.specs.declared.nodes.TypeNode.{TypeNode}
use Rattle.asn1_table_nodes.specs.declared.nodes.TypeNode.TheVariants as node

-- The bounds of the numbers of a type, if there is one, and it is an INTEGER under a value constraint (X.680 51.4).
abbrev pub bounds_there : Option TypeNode → Option Bounds
bounds_there (Some (node.Integer (Some l))) = Some (bounds_in (Some l))
bounds_there o = None

-- Each of some forms is that of the type at its index.
abbrev pub AreForms : List TypeNode → List (Option NumberForm) → Type 0
AreForms ns fs = (i : ℕ) (f : NumberForm) → slice_get fs i ≡ Some (Some f)
    → bounds_there (slice_get ns i) ≡ Some (form_bounds f)
