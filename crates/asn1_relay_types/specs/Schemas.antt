-- The types of the program, as types of the model. Recursive types are unfolded to a number of nested levels.
use Rattle.std.specs.Prelude.{ℕ, zero, suc, ◌-◌, ◌^◌, pos, negsuc, true, false, [], ◌∷◌, Some, None}
use Rattle.asn1_model.specs.Schema.{Tag, Range, Counts, Size, Presence, required, optional, Schema, cut, boolean}
use Rattle.asn1_model.specs.Schema.{null, integer, octet_string, set_of, sequence, set, group, choice, any_size}
use Rattle.asn1_model.specs.Schema.{Components, no_component, component, no_alternative, alternative, any_number}
use Rattle.asn1_model.specs.Schema.{wide_range, context}
use Rattle.asn1_schema_types.specs.Counts.{any_number_held}

-- ---- tags (X.680 8.1 and 8.4)

abbrev pub universal : ℕ → Tag
universal n = record { class = 0; number = n }

abbrev pub application : ℕ → Tag
application n = record { class = 1; number = n }

-- A component with one tag, and those after it.
abbrev pub one_more : Tag → Presence → Schema → Components → Components
one_more t o s cs = component (t ∷ []) o s cs

-- ---- integers and octet strings

-- INTEGER
abbrev pub integer_schema : Schema
integer_schema = integer (record { range = any_number; extensible = false }) any_number

-- INTEGER (-5..5)
abbrev pub small_schema : Schema
small_schema = integer (record { range = record { low = Some (negsuc 4); high = Some (pos 5) }; extensible = false })
    wide_range

-- INTEGER (0..255), in eight bits or one octet.
abbrev pub octet_range : Range
octet_range = record { low = Some (pos 0); high = Some (pos 255) }

abbrev pub octet_schema : Schema
octet_schema = integer (record { range = octet_range; extensible = false }) octet_range

-- One to three units, or any number as an extension.
abbrev pub one_to_three : Size
one_to_three = record { counts = record { low = 1; high = Some 3 }; extensible = true }

-- OCTET STRING (SIZE (1..3, ...))
abbrev pub octets_schema : ℕ → Schema
octets_schema n = octet_string one_to_three (record { low = 0; high = None })

-- ---- types with components, SET OF and choices

-- SEQUENCE {a BOOLEAN, b INTEGER (-5..5)}
abbrev pub pair_schema : Schema
pair_schema = sequence (one_more (universal 1) required boolean
    (one_more (universal 2) required small_schema no_component)) false no_component

-- SET {a [444] INTEGER OPTIONAL, b [5] INTEGER OPTIONAL, c [APPLICATION 9] INTEGER OPTIONAL}, in the order of its
-- tags (X.680 8.6).
abbrev pub set_schema : Schema
set_schema = set
    (one_more (application 9) optional integer_schema
    (one_more (context 5) optional integer_schema
    (one_more (context 444) optional integer_schema
    no_component)))
    false no_component

-- SET OF INTEGER (0..255)
abbrev pub bag_schema : Schema
bag_schema = set_of any_size any_number_held octet_schema

-- Nest ::= CHOICE {leaf [0] NULL, more [1] Nest}
abbrev pub nest_schema : ℕ → Schema
nest_schema zero = cut
nest_schema (suc n) = choice (alternative (context 0) null (alternative (context 1) (nest_schema n) no_alternative))
    false no_alternative

-- A BOOLEAN, an extension marker, and these additions.
abbrev pub behind_flag : Components → Schema
behind_flag adds = sequence (one_more (universal 1) required boolean no_component) true adds

-- SEQUENCE {a BOOLEAN, ..., b INTEGER (0..255) OPTIONAL}
abbrev pub new_schema : Schema
new_schema = behind_flag (one_more (universal 2) optional octet_schema no_component)

-- SEQUENCE {a BOOLEAN, ...}
abbrev pub old_schema : Schema
old_schema = behind_flag no_component

-- SEQUENCE {a BOOLEAN, ..., [[x INTEGER (0..255) OPTIONAL]]}
abbrev pub group_schema : Schema
group_schema = behind_flag (one_more (universal 2) optional
    (group (one_more (universal 2) optional octet_schema no_component)) no_component)
