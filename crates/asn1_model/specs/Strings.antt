-- Character strings and object identifiers: what they may contain, and the octets of an object identifier.
use Rattle.std.specs.Prelude.{ℕ, ◌+◌, ◌-◌, ◌*◌, ◌^◌, ◌==◌, ltb, leb, max, Bool, true, false, cond, ◌&&◌, ◌||◌, List, []}
use Rattle.std.specs.Prelude.{◌∷◌, ◌++◌, filter, map, flat_map, Option, Some, None, option_map}
use Rattle.std.specs.List.{list_all, list_any}
use Rattle.std.specs.Option.{option_map_or}
use Rattle.std.specs.Str.{is_utf8}
use Rattle.asn1_model.specs.Schema.{Alphabet, StringKind, numeric, printable, visible, ia5, bmp, general, graphic}
use Rattle.asn1_model.specs.Schema.{teletex, utf8}
use Rattle.asn1_model.specs.Numbers.{digits, places}

-- The characters from one number to another.
pub record Run : Type 0 where
  pub first : ℕ
  pub last : ℕ

abbrev pub run : ℕ → ℕ → Run
run a b = record { first = a; last = b }

abbrev pub is_in_run : ℕ → Run → Bool
is_in_run c r = leb r.first c && leb c r.last

-- The characters of each kind of string, in ascending order (X.680 41 and 43). That BMPString has all of 0 to 65535,
-- and that GeneralString, GraphicString and TeletexString hold any octets, is this project's choice.
abbrev pub characters_of : StringKind → List Run
characters_of numeric = run 32 32 ∷ run 48 57 ∷ []
characters_of printable = run 32 32 ∷ run 39 41 ∷ run 43 58 ∷ run 61 61 ∷ run 63 63 ∷ run 65 90 ∷ run 97 122 ∷ []
characters_of visible = run 32 126 ∷ []
characters_of ia5 = run 0 127 ∷ []
characters_of bmp = run 0 65535 ∷ []
characters_of k = run 0 255 ∷ []

abbrev pub how_many : List Run → ℕ
how_many [] = 0
how_many (r ∷ rs) = r.last + 1 - r.first + how_many rs

abbrev pub largest : List Run → ℕ
largest [] = 0
largest (r ∷ []) = r.last
largest (r ∷ s ∷ rs) = largest (s ∷ rs)

-- The index of a character among them, from 0.
abbrev pub place_of : ℕ → List Run → Option ℕ
place_of c [] = None
place_of c (r ∷ rs) =
    cond (is_in_run c r) (Some (c - r.first)) (option_map (λ i. r.last + 1 - r.first + i) (place_of c rs))

abbrev pub is_among : List Run → ℕ → Bool
is_among rs c = list_any (is_in_run c) rs

-- Inserts a character into an ascending list, unless it is there.
abbrev pub put_in : ℕ → List ℕ → List ℕ
put_in c [] = c ∷ []
put_in c (d ∷ ds) = cond (ltb c d) (c ∷ d ∷ ds) (cond (c == d) (d ∷ ds) (d ∷ put_in c ds))

-- Characters in ascending order, each once.
abbrev pub sorted : List ℕ → List ℕ
sorted [] = []
sorted (c ∷ cs) = put_in c (sorted cs)

-- The characters that a constraint permits of the type's, in whatever order it lists them (X.680 51.7, X.691 30.5). A
-- constraint with an extension marker is ignored, by this project's choice.
abbrev pub permitted : StringKind → Alphabet → List Run
permitted k a = cond a.extensible (characters_of k) (option_map_or
    (λ cs. map (λ c. run c c) (sorted (filter (is_among (characters_of k)) cs))) a.characters (characters_of k))

-- Whether a value holds octets instead of characters (X.691 30, types whose characters have no fixed width).
abbrev pub is_of_octets : StringKind → Bool
is_of_octets general = true
is_of_octets graphic = true
is_of_octets teletex = true
is_of_octets utf8 = true
is_of_octets k = false

-- Whether a value of the kind may hold these; for UTF8String they have to be well-formed UTF-8 octets (ISO/IEC 10646
-- annex D), as std defines it.
abbrev pub may_hold : StringKind → List ℕ → Bool
may_hold utf8 os = is_utf8 os
may_hold k cs = list_all (is_among (characters_of k)) cs

abbrev pub with_top_bits : List ℕ → List ℕ
with_top_bits [] = []
with_top_bits (o ∷ []) = o ∷ []
with_top_bits (o ∷ p ∷ os) = (o + 128) ∷ with_top_bits (p ∷ os)

-- A number in the fewest groups of seven bits, the most significant first, with bit 8 set on all but the last (X.690
-- 8.1 and 8.19).
abbrev pub groups_of_seven : ℕ → List ℕ
groups_of_seven n = with_top_bits (digits 128 (max 1 (places 128 n)) n)

-- The contents octets of an object identifier; the first two arcs share a subidentifier (X.690 8.19). An identifier of
-- fewer arcs has none, by this project's choice.
abbrev pub identifier_octets : List ℕ → List ℕ
identifier_octets (a ∷ b ∷ rest) = groups_of_seven (40 * a + b) ++ flat_map groups_of_seven rest
identifier_octets arcs = []

-- Whether arcs have contents octets: the first is at most 2, the second is below 40 unless the first is 2 (X.680 32),
-- and each fits 32 bits, by this project's choice.
abbrev pub is_identifier : List ℕ → Bool
is_identifier (a ∷ b ∷ rest) = leb a 2 && (a == 2 || ltb b 40) && list_all (λ arc. ltb arc (2 ^ 32)) (b ∷ rest)
is_identifier arcs = false

abbrev pub is_octet : ℕ → Bool
is_octet o = ltb o 256
