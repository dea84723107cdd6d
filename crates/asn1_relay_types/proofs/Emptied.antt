-- Whether a group of one component with a default is empty.
use Rattle.std.proofs.Common.{◌≡◌, Bool, true, false, refl}
use Rattle.asn1_model.specs.Value.{Value, end, are_absent}
use Rattle.asn1_schema_laws.specs.Presents.{with_part}
use Rattle.asn1_schema_laws.specs.Parts.{part_unless}

-- It is empty exactly if the component is at its default.
pub empty_unless : (b : Bool) (v : Value) → are_absent (with_part (part_unless b v) end) ≡ b
empty_unless true v = refl
empty_unless false v = refl
