-- Octets of a fixed size, or after a length determinant.
use Rattle.std.specs.Prelude.{ℕ, ◌==◌, true, false, List, length, Option, Some, None}
use Rattle.asn1_model.specs.Form.{only_if}
use Rattle.asn1_model.specs.Oer.{OctetForm, octets_form}

-- Octets of a fixed size without a length determinant, or after it (X.696 14).
unfoldable pub sized : Option ℕ → List ℕ → OctetForm
sized (Some n) os = only_if (length os == n) (octets_form true os)
sized None os = octets_form false os
