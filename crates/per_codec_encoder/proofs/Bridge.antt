-- The bridge of scalars, and what all kinds share.
use Rattle.std.proofs.Common.{◌≡◌, ℤ, Bool, List, ◌++◌, Option, Some, None, option_and_then, refl}
use Rattle.asn1_model.specs.Value.{truth, nothing, number, item, bit_list, octet_list, text, arcs}
use Rattle.asn1_model.specs.Schema.{Range, Bounds, Counts, Size, StringKind, Alphabet, boolean, null, integer, enumerated, bit_string, octet_string, character_string, object_identifier}
use Rattle.asn1_model.specs.Per
use Rattle.asn1_schema_laws.specs.Records.{Record}
use Rattle.asn1_schema_laws.specs.Presents.{presents}
use Rattle.per_codec_packing.specs.FieldLists.{FieldList, field_list_at}
use Rattle.per_codec_encoder.specs.Steps.{Scope, position, adds_field_list, runs}
use Rattle.per_codec_encoder.specs.Ties.{Bridges}

-- one record that adds a field-list
pub one_field_list : (al : Bool) (o : Option FieldList) (os : FieldList) (k : List Scope) (rest : List Record) →
    option_and_then (λ m. runs al rest m) (adds_field_list o (os, k)) ≡ option_and_then (λ w. runs al rest (os ++ w, k)) o
one_field_list al None os k rest = refl
one_field_list al (Some w) os k rest = refl

pub boolean_bridges : Bridges boolean
unfolding presents Per.form field_list_at
boolean_bridges al (truth b) os k rest = one_field_list al (field_list_at (Per.form al boolean (truth b)) (position (os, k))) os k rest
boolean_bridges al v os k rest = refl

pub null_bridges : Bridges null
unfolding presents Per.form field_list_at
null_bridges al nothing os k rest = refl
null_bridges al v os k rest = refl

pub integer_bridges : (b : Bounds) (h : Range) → Bridges (integer b h)
unfolding presents Per.form field_list_at
integer_bridges b h al (number v) os k rest = one_field_list al (field_list_at (Per.form al (integer b h) (number v)) (position (os, k))) os k rest
integer_bridges b h al v os k rest = refl

pub enumerated_bridges : (roots : List ℤ) (e : Bool) (adds : List ℤ) → Bridges (enumerated roots e adds)
unfolding presents Per.form field_list_at
enumerated_bridges roots e adds al (item v) os k rest = one_field_list al (field_list_at (Per.form al (enumerated roots e adds) (item v)) (position (os, k))) os k rest
enumerated_bridges roots e adds al v os k rest = refl

pub bit_string_bridges : (z : Size) (h : Counts) → Bridges (bit_string z h)
unfolding presents Per.form field_list_at
bit_string_bridges z h al (bit_list bs) os k rest = one_field_list al (field_list_at (Per.form al (bit_string z h) (bit_list bs)) (position (os, k))) os k rest
bit_string_bridges z h al v os k rest = refl

pub octet_string_bridges : (z : Size) (h : Counts) → Bridges (octet_string z h)
unfolding presents Per.form field_list_at
octet_string_bridges z h al (octet_list bs) os k rest = one_field_list al (field_list_at (Per.form al (octet_string z h) (octet_list bs)) (position (os, k))) os k rest
octet_string_bridges z h al v os k rest = refl

pub string_bridges : (c : StringKind) (z : Size) (a : Alphabet) (h : Counts) → Bridges (character_string c z a h)
unfolding presents Per.form field_list_at
string_bridges c z a h al (text cs) os k rest = one_field_list al (field_list_at (Per.form al (character_string c z a h) (text cs)) (position (os, k))) os k rest
string_bridges c z a h al v os k rest = refl

pub identifier_bridges : Bridges object_identifier
unfolding presents Per.form field_list_at
identifier_bridges al (arcs ns) os k rest = one_field_list al (field_list_at (Per.form al object_identifier (arcs ns)) (position (os, k))) os k rest
identifier_bridges al v os k rest = refl
