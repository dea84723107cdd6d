-- Numbers between two bounds.
use Rattle.std.specs.Prelude.{Some, false}
use Rattle.asn1_model.specs.Schema.{Bounds}
use Rattle.asn1_schema_forms.specs.declared.number.NumberForm.{NumberForm}

-- The bounds of a form, without an extension marker (X.680 51.4 and 52).
abbrev pub form_bounds : NumberForm → Bounds
form_bounds f = record { range = record { low = Some f.low; high = Some f.high }; extensible = false }
