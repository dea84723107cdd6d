-- A SEQUENCE of a BOOLEAN and an extension marker, as a component with the default {a TRUE}.
use Rattle.std.specs.Prelude.{ℕ, true, List, [], ◌∷◌, refl}
use Rattle.asn1_model.specs.Schema.{Tag, required, optional, Schema, boolean}
use Rattle.asn1_model.specs.Value.{Value, truth, fields, Parts, end, absent, present}
use Rattle.asn1_schema_laws.specs.Presents.{left_out, there}
use Rattle.asn1_schema_laws.specs.Tables.{Fields, no_field, field, Table, sequence_type}
use Rattle.asn1_schema_laws.specs.Typed.{IsDefault, IsPart, AreValues}
use Rattle.asn1_schema_laws.proofs.TypesByKind.{boolean_type, boolean_value}
use Rattle.asn1_schema_laws.proofs.Values.{more_values, part_required}
use Rattle.asn1_schema_laws.proofs.Defaults.{boolean_default}
use Rattle.asn1_schema_types.proofs.SequenceDefaults.{AreDefaultParts, no_default_parts, more_default_parts}
use Rattle.asn1_schema_types.proofs.SequenceDefaults.{sequence_default}
use Rattle.asn1_schema_laws.specs.Additions.{AreAdditionValues}
use Rattle.asn1_schema_laws.proofs.Additions.{no_addition_values, more_addition_values, extensible_values}
use Rattle.asn1_relay_types.specs.Schemas.{universal}

-- The tag of the BOOLEAN, and that of an addition.
abbrev flag_tags : List Tag
flag_tags = universal 1 ∷ []

abbrev octet_tags : List Tag
octet_tags = universal 2 ∷ []

-- SEQUENCE {a BOOLEAN, ..., these additions}
abbrev pub flag_table : Fields → Table
flag_table gs =
    record { root = field (universal 1 ∷ []) required (λ _. boolean) no_field; extensible = true; additions = gs }

-- One optional addition.
abbrev pub one_optional : (ℕ → Schema) → Fields
one_optional s = field (universal 2 ∷ []) optional s no_field

-- {a TRUE}, and these additions
abbrev pub true_and : Parts → Value
true_and qs = fields (present (truth true) end) qs

are_values : (gs : Fields) (qs : Parts) → AreAdditionValues gs qs
    → AreValues (flag_table gs) (present (truth true) end) qs
are_values gs qs a =
    let p = part_required (boolean_type {ts = flag_tags} refl) (boolean_value true) in
    more_values flag_tags p (extensible_values a)

true_stands : (gs : Fields) (qs : Parts) → AreAdditionValues gs qs → AreDefaultParts gs qs
    → IsDefault (sequence_type (flag_table gs)) (true_and qs)
true_stands gs qs a d =
    let root = more_default_parts flag_tags required (λ _. boolean) (there (truth true))
    (boolean_default true, (λ n. refl), (λ n. refl)) no_default_parts in
    sequence_default (flag_table gs) (are_values gs qs a) root d

-- It is a valid default of the older version,
pub old_true_stands : IsDefault (sequence_type (flag_table no_field)) (true_and end)
old_true_stands = true_stands no_field end no_addition_values no_default_parts

left_out_part : (s : ℕ → Schema) → IsPart optional s left_out
left_out_part s = record { fits = λ n le. refl; normal = λ n. refl }

-- and of the newer one.
pub new_true_stands : (s : ℕ → Schema) → IsDefault (sequence_type (flag_table (one_optional s))) (true_and (absent end))
new_true_stands s =
    let values = more_addition_values octet_tags {x = left_out} (left_out_part s) no_addition_values in
    let parts = more_default_parts octet_tags optional s left_out refl no_default_parts in
    true_stands (one_optional s) (absent end) values parts
