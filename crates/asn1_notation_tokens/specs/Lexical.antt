-- The forms of lexical items (X.680 12).
use Rattle.std.specs.Prelude.{◌≡◌, ◌≢◌, ◌-◌, ℕ, List, Bool, true, ◌||◌, ◌==◌, length, take, drop}
use Rattle.std.specs.Prelude.{codes, slice_get, slice_range, IsSomeAnd}
use Rattle.std.specs.Char.{is_ascii_uppercase, is_ascii_lowercase, is_ascii_digit, is_ascii_alphanumeric}
use Rattle.std.specs.List.{list_all}
use Rattle.std.specs.Str.Parse.{signed_digits_value}
use Rattle.asn1_notation_tokens.specs.declared.items.Item.{Item}
use Rattle.asn1_notation_tokens.specs.declared.items.ItemKind.{ItemKind}
use Rattle.asn1_notation_tokens.specs.declared.items.ItemKind.TheVariants as k
use Rattle.asn1_notation_tokens.specs.declared.symbols.Symbol.{Symbol}
use Rattle.asn1_notation_tokens.specs.declared.symbols.Symbol.TheVariants as s
use Rattle.asn1_notation_tokens.specs.Words.{word_text}

-- The characters of a symbol (X.680 12.20 to 12.24, 12.37).
abbrev pub symbol_text : Symbol → List ℕ
symbol_text s.Assignment = codes "::="
symbol_text s.Range = codes ".."
symbol_text s.Ellipsis = codes "..."
symbol_text s.LeftVersionBrackets = codes "[["
symbol_text s.RightVersionBrackets = codes "]]"
symbol_text s.LeftBrace = codes "{"
symbol_text s.RightBrace = codes "}"
symbol_text s.LeftParenthesis = codes "("
symbol_text s.RightParenthesis = codes ")"
symbol_text s.LeftBracket = codes "["
symbol_text s.RightBracket = codes "]"
symbol_text s.Comma = codes ","
symbol_text s.Semicolon = codes ";"
symbol_text s.Colon = codes ":"
symbol_text s.Dot = codes "."
symbol_text s.Bar = codes "|"
symbol_text s.Caret = codes "^"
symbol_text s.Less = codes "<"
symbol_text s.Greater = codes ">"
symbol_text s.At = codes "@"
symbol_text s.Exclamation = codes "!"
symbol_text s.Minus = codes "-"
symbol_text s.Slash = codes "/"
symbol_text s.Equals = codes "="

-- A text begins with a symbol.
abbrev pub BeginsWithSymbol : List ℕ → Symbol → Type 0
BeginsWithSymbol cs symbol = take (length (symbol_text symbol)) cs ≡ symbol_text symbol

-- A letter, a digit or a hyphen (X.680 12.2.1).
abbrev pub is_name_octet : ℕ → Bool
is_name_octet c = is_ascii_alphanumeric c || (c == 45)

-- A name: letters, digits and hyphens, the last of them no hyphen (X.680 12.2.1).
pub record IsName (cs : List ℕ) : Type 0 where
  pub octets : list_all is_name_octet cs ≡ true
  pub last : IsSomeAnd (slice_get cs (length cs - 1)) (λ c. c ≢ 45)

-- What begins with an octet that passes a test.
abbrev pub BeginsWith : (ℕ → Bool) → List ℕ → Type 0
BeginsWith test cs = IsSomeAnd (slice_get cs 0) (λ c. test c ≡ true)

-- The characters of an item of a kind.
abbrev pub HasForm : ItemKind → List ℕ → Type 0
HasForm k.Reference cs = IsName cs × BeginsWith is_ascii_uppercase cs
HasForm k.Identifier cs = IsName cs × BeginsWith is_ascii_lowercase cs
HasForm k.Field cs = BeginsWith (λ c. c == 38) cs × IsName (drop 1 cs)
HasForm (k.Word word) cs = cs ≡ word_text word
HasForm (k.Number n) cs = (list_all is_ascii_digit cs ≡ true) × (n ≡ signed_digits_value 10 cs)
HasForm k.RealNumber cs = BeginsWith is_ascii_digit cs
HasForm k.BinaryString cs = BeginsWith (λ c. c == 39) cs
HasForm k.HexadecimalString cs = BeginsWith (λ c. c == 39) cs
HasForm k.CharacterString cs = BeginsWith (λ c. c == 34) cs
HasForm (k.Symbol symbol) cs = cs ≡ symbol_text symbol
HasForm k.End cs = ⊥

-- An item of a text: its characters have the form of its kind.
abbrev pub IsItemOf : List ℕ → Item → Type 0
IsItemOf text i = HasForm i.kind (slice_range text i.start i.end)
