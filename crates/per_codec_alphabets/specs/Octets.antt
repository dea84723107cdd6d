-- Character strings that are encoded as the octets of their characters.
use Rattle.std.specs.Prelude.{◌==◌, ltb, not, Bool, true, false, ◌&&◌, Option, Some, None, is_some}
use Rattle.asn1_model.specs.Per.{character_bits}
use Rattle.asn1_model.specs.Schema.{StringKind}
use Rattle.asn1_model.specs.Strings.{characters_of, is_of_octets, largest}
use Rattle.asn1_schema_constraints.specs.Sets.{has_additions}
use Rattle.asn1_schema_constraints.specs.declared.extensions.Extensible.{Extensible}
use Rattle.asn1_schema_constraints.specs.declared.extensions.PermittedAlphabet.{PermittedAlphabet}
use Rattle.asn1_schema_constraints.specs.declared.parts.Size.{Size}

-- Whether each character of a kind has one octet as its code in the aligned variant, its number, if no constraint is
-- PER-visible (X.691 30.5.2 and 30.5.4).
abbrev pub have_octet_codes : StringKind → Bool
have_octet_codes k = not (is_of_octets k) && character_bits true (characters_of k) == 8
    && ltb (largest (characters_of k)) 256

-- Whether a permitted alphabet is PER-visible: there is one, and it has no extension marker.
abbrev pub alphabet_counts : Option (Extensible PermittedAlphabet) → Bool
alphabet_counts None = false
alphabet_counts (Some c) = not (has_additions c)

-- In the aligned variant, without a size constraint and without a PER-visible permitted alphabet, a string of such a
-- kind is encoded as the octets of its characters after a general length determinant (X.691 30.5). Some other strings
-- are encoded so too, as VisibleString (FROM ("A".."Z" | "a".."z")); this does not recognize them.
abbrev pub is_encoded_as_octets : Bool → StringKind → Option (Extensible Size) → Option (Extensible PermittedAlphabet)
    → Bool
is_encoded_as_octets al k size alphabet =
    al && have_octet_codes k && not (is_some size) && not (alphabet_counts alphabet)
