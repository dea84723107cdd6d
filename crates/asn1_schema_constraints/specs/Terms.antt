-- The meaning of constraints for a type, and the types of the model under constraints.
use Rattle.std.specs.Prelude.{ℕ, ℤ, Bool, true, false, cond, ◌&&◌, ◌||◌, Option, Some, None, is_some}
use Rattle.asn1_model.specs.Schema.{Range, Bounds, Counts, Size as SizeTerm, Alphabet, StringKind, Schema, wide_range}
use Rattle.asn1_model.specs.Schema.{integer, bit_string, octet_string, character_string, sequence_of, set_of}
use Rattle.asn1_model.specs.Numbers.{is_at_most, is_within}
use Rattle.asn1_model.specs.Oer.{is_fixed}
use Rattle.asn1_schema_constraints.specs.Bounds.{later, earlier, range_of, counts_of}
use Rattle.asn1_schema_constraints.specs.Sets.{has_additions}
use Rattle.asn1_schema_constraints.specs.declared.parts.Value.{Value}
use Rattle.asn1_schema_constraints.specs.declared.parts.Size.{Size}
use Rattle.asn1_schema_constraints.specs.declared.extensions.Extensible.{Extensible}
use Rattle.asn1_schema_constraints.specs.declared.extensions.PermittedAlphabet.{PermittedAlphabet}
use Rattle.asn1_schema_constraints.specs.declared.lists.Constraints.{Constraints}
use Rattle.asn1_schema_constraints.specs.declared.sizes.Sizes.{Sizes}

-- The meaning of constraints for a type: the bounds of its numbers, whether there is a value constraint at all, its
-- sizes, and its permitted alphabet, each with its extension marker (X.680 51 and 52).
pub record Meant : Type 0 where
  pub bounds : Bounds
  pub is_bounded : Bool
  pub size : SizeTerm
  pub alphabet : Alphabet

-- The bounds of a value constraint, if there is one, and whether it has an extension marker (X.680 51.4 and 52).
abbrev pub bounds_of : Option (Extensible Value) → Bounds
bounds_of None = record { range = record { low = None; high = None }; extensible = false }
bounds_of (Some c) = record { range = range_of c.constraint.value; extensible = has_additions c }

-- The numbers that a user-defined type holds; under a value constraint, those of them that 128 bits of two's
-- complement hold (this project's choice).
abbrev pub held_where : Bool → Range → Range
held_where false held = held
held_where true held = record {
  low = later is_at_most held.low wide_range.low;
  high = earlier is_at_most held.high wide_range.high;
}

abbrev pub held_of : Option (Extensible Value) → Range → Range
held_of c held = held_where (is_some c) held

-- Whether a value constraint, if there is one, admits a number: 128 bits hold it, and it is within the bounds if these
-- have no extension marker (X.680 51.4 and 52).
abbrev pub admits_whole : Option (Extensible Value) → ℤ → Bool
admits_whole None v = true
admits_whole (Some c) v = is_within wide_range v && (has_additions c || is_within (range_of c.constraint.value) v)

-- The sizes of a size constraint, if there is one, and whether it has an extension marker (X.680 51.5 and 52).
abbrev pub sizes_of : Option (Extensible Size) → SizeTerm
sizes_of None = record { counts = record { low = 0; high = None }; extensible = false }
sizes_of (Some c) = record { counts = counts_of c.constraint.range; extensible = has_additions c }

-- The sizes of the root, and whether there is an extension marker, as a size of the model (X.680 51.5 and 52).
abbrev pub size_of : Sizes → SizeTerm
size_of z = record { counts = counts_of z.root; extensible = z.is_extensible }

-- The fixed size, if there is one without an extension marker (X.696 13, 14 and 27).
abbrev pub one_size : SizeTerm → Option ℕ
one_size z = cond (is_fixed z) (Some z.counts.low) None

-- The characters of a permitted alphabet, if there is one, and whether it has an extension marker (X.680 51.7 and 52).
abbrev pub alphabet_of : Option (Extensible PermittedAlphabet) → Alphabet
alphabet_of None = record { characters = None; extensible = false }
alphabet_of (Some c) = record { characters = Some c.constraint.characters.now; extensible = has_additions c }

-- The meaning of constraints given as a Rust value.
abbrev pub meant : Constraints → Meant
meant c = record {
  bounds = bounds_of c.value;
  is_bounded = is_some c.value;
  size = sizes_of c.size;
  alphabet = alphabet_of c.permitted_alphabet;
}

-- No constraint.
abbrev pub no_constraint : Meant
no_constraint = record {
  bounds = record { range = record { low = None; high = None }; extensible = false };
  is_bounded = false;
  size = record { counts = record { low = 0; high = None }; extensible = false };
  alphabet = record { characters = None; extensible = false };
}

-- A value constraint: the least and the greatest number, if they are given, and whether there is an extension marker
-- (X.680 51.4 and 52).
abbrev pub bounded_by : Option ℤ → Option ℤ → Bool → Meant
bounded_by low high is_extensible = record no_constraint {
  bounds = record { range = record { low = low; high = high }; extensible = is_extensible };
  is_bounded = true;
}

-- The numbers from one bound to another, without an extension marker.
abbrev pub from_to : ℤ → ℤ → Meant
from_to low high = bounded_by (Some low) (Some high) false

-- A size constraint: the least size, the greatest if it is given, and whether there is an extension marker (X.680 51.5
-- and 52).
abbrev pub sized : ℕ → Option ℕ → Bool → Meant
sized low high is_extensible = record no_constraint {
  size = record { counts = record { low = low; high = high }; extensible = is_extensible };
}

-- INTEGER under constraints, in a user-defined type that holds these numbers (X.680 19).
abbrev pub integer_under : Meant → Range → Schema
integer_under c held = integer c.bounds (held_where c.is_bounded held)

-- BIT STRING under constraints, in a user-defined type that holds these counts of bits (X.680 22).
abbrev pub bit_string_under : Meant → Counts → Schema
bit_string_under c held = bit_string c.size held

-- OCTET STRING under constraints, in a user-defined type that holds these counts of octets (X.680 23).
abbrev pub octet_string_under : Meant → Counts → Schema
octet_string_under c held = octet_string c.size held

-- A restricted character string under constraints, in a user-defined type that holds these counts of characters (X.680
-- 41).
abbrev pub character_string_under : StringKind → Meant → Counts → Schema
character_string_under k c held = character_string k c.size c.alphabet held

-- SEQUENCE OF a type under constraints, in a user-defined type that holds these counts of elements (X.680 26).
abbrev pub sequence_of_under : Meant → Counts → Schema → Schema
sequence_of_under c held s = sequence_of c.size held s

-- SET OF a type under constraints, in a user-defined type that holds these counts of elements (X.680 28).
abbrev pub set_of_under : Meant → Counts → Schema → Schema
set_of_under c held s = set_of c.size held s
