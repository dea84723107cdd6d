-- How a JSON text is laid out.
use Rattle.std.specs.Prelude.{◌≡◌, ℕ, List}
use Rattle.json.specs.Layout.{pretty}
use Rattle.json.specs.Lex.{tokens}
use Rattle.json.specs.Print.{print}
use Rattle.asn1_table_json_writing.specs.declared.output.Style.{Style}
use Rattle.asn1_table_json_writing.specs.declared.output.Style.TheVariants.{Compact, Pretty}

-- A text is that of its tokens (RFC 8259): without spaces, or with a line for each member and element.
abbrev pub IsLaidOut : Style → List ℕ → Type 0
IsLaidOut Compact s = s ≡ print (tokens s)
IsLaidOut Pretty s = s ≡ pretty (tokens s)
