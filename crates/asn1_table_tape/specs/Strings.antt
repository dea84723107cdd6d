-- The character strings of a tape.
use Rattle.std.specs.Prelude.{ℕ, List, string_bytes}
use Rattle.asn1_model.specs.Schema as model
use Rattle.asn1_table_tape.specs.declared.strings.CharacterString.{CharacterString}
use Rattle.asn1_table_tape.specs.declared.strings.CharacterString.TheVariants as string

-- The kind of a string (X.680 41).
abbrev pub kind_in : CharacterString → model.StringKind
kind_in (string.Numeric s) = model.numeric
kind_in (string.Printable s) = model.printable
kind_in (string.Visible s) = model.visible
kind_in (string.Ia5 s) = model.ia5
kind_in (string.Bmp s) = model.bmp
kind_in (string.General s) = model.general
kind_in (string.Graphic s) = model.graphic
kind_in (string.Teletex s) = model.teletex
kind_in (string.Utf8 s) = model.utf8

-- Its characters, or the octets of a UTF8String.
abbrev pub text_of : CharacterString → List ℕ
text_of (string.Numeric s) = s
text_of (string.Printable s) = s
text_of (string.Visible s) = s
text_of (string.Ia5 s) = s
text_of (string.Bmp s) = s
text_of (string.General s) = s
text_of (string.Graphic s) = s
text_of (string.Teletex s) = s
text_of (string.Utf8 s) = string_bytes s
