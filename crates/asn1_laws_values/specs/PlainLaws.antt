-- The law of plain types.
use Rattle.std.specs.Prelude.{◌≡◌, IsTrue}
use Rattle.asn1_model.specs.Value.{Value}
use Rattle.asn1_model.specs.Schema.{Schema}
use Rattle.std.specs.Prelude.{is_some}
use Rattle.asn1_model.specs.Rules.{Rules, encoding}
use Rattle.asn1_laws_values.specs.Plain.{is_plain, fits}

-- In all rules exactly the values of a plain type have an encoding, apart from the limit on its length.
abbrev pub PlainEncoded : Type 0
PlainEncoded = (r : Rules) (s : Schema) (v : Value) → IsTrue (is_plain s) → is_some (encoding r s v) ≡ fits s v
