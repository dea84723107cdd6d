-- Types and values for rows, and short ways to write them.
use Rattle.std.specs.Prelude.{◌≡◌, ℕ, zero, suc, ◌+◌, ◌-◌, ◌^◌, ℤ, pos, negsuc, Bool, true, false, List, [], ◌∷◌, map}
use Rattle.std.specs.Prelude.{replicate, Option, Some, None}
use Rattle.asn1_model.specs.Value.{Value, truth, nothing, number, bit_list, octet_list, text, members, bag, fields}
use Rattle.asn1_model.specs.Value.{chosen, Values, no_more, member, values_of, Parts, end, absent, present}
use Rattle.asn1_model.specs.Schema.{Tag, Bounds, Size, Alphabet, StringKind, visible, utf8, required}
use Rattle.asn1_model.specs.Schema.{optional, by_default, Schema, cut, boolean, null, integer, enumerated, bit_string}
use Rattle.asn1_model.specs.Schema.{octet_string, character_string, sequence_of, set_of, sequence, set, group, choice}
use Rattle.asn1_model.specs.Schema.{Components, no_component, component, Alternatives, no_alternative, alternative}
use Rattle.asn1_model.specs.Rules.{Rules, canonical}
pub use Rattle.asn1_model.specs.Schema.{any_count, any_size, any_number, any_alphabet, context}

-- what a row says: the canonical octets, or that there are none
abbrev pub Writes : Rules → Schema → Value → List ℕ → Type 0
Writes r s v w = canonical r s v ≡ Some w

abbrev pub WritesNothing : Rules → Schema → Value → Type 0
WritesNothing r s v = canonical r s v ≡ None

abbrev pub minus : ℕ → ℤ
minus zero = pos 0
minus (suc n) = negsuc n

-- ---- constraints

abbrev pub from_to : Option ℤ → Option ℤ → Bool → Bounds
from_to a b e = record { range = record { low = a; high = b }; extensible = e }

abbrev pub sizes : ℕ → ℕ → Size
sizes a b = record { counts = record { low = a; high = Some b }; extensible = false }

abbrev pub sizes_or_more : ℕ → ℕ → Size
sizes_or_more a b = record { counts = record { low = a; high = Some b }; extensible = true }

abbrev pub letters : List ℕ → Alphabet
letters cs = record { characters = Some cs; extensible = false }

-- ---- types

abbrev pub whole : Schema
whole = integer (from_to None None false) any_number

abbrev pub between : ℤ → ℤ → Schema
between a b = integer (from_to (Some a) (Some b) false) any_number

abbrev pub at_least : ℤ → Schema
at_least a = integer (from_to (Some a) None false) any_number

abbrev pub small : Schema
small = between (minus 5) (pos 5)

abbrev pub bit_text : Size → Schema
bit_text z = bit_string z any_count

abbrev pub octet_text : Size → Schema
octet_text z = octet_string z any_count

abbrev pub string : StringKind → Size → Schema
string k z = character_string k z any_alphabet any_count

abbrev pub list : Size → Schema → Schema
list z s = sequence_of z any_count s

abbrev pub bag_of : Schema → Schema
bag_of s = set_of any_size any_count s

-- components in a row, with context tags
abbrev pub needs : ℕ → Schema → Components → Components
needs n s cs = component (context n ∷ []) required s cs

abbrev pub may_have : ℕ → Schema → Components → Components
may_have n s cs = component (context n ∷ []) optional s cs

abbrev pub has_default : ℕ → Schema → Value → Components → Components
has_default n s d cs = component (context n ∷ []) (by_default d) s cs

abbrev pub closed : Components → Schema
closed cs = sequence cs false no_component

abbrev pub open_behind : Components → Components → Schema
open_behind cs adds = sequence cs true adds

-- alternatives with these tags, in a row
abbrev pub or_tagged : ℕ → Schema → Alternatives → Alternatives
or_tagged n s others = alternative (context n) s others

abbrev pub one_of : Alternatives → Schema
one_of roots = choice roots false no_alternative

-- ---- values

abbrev pub yes : Value
yes = truth true

abbrev pub no : Value
no = truth false

abbrev pub num : ℕ → Value
num n = number (pos n)

abbrev pub below : ℕ → Value
below n = number (minus n)

abbrev pub roots : Parts → Value
roots ps = fields ps end

abbrev pub ones : ℕ → List Bool
ones n = replicate n true

-- the bits of octets written as 0 and 1
abbrev pub bits_of : List ℕ → Value
bits_of ds = bit_list (map (λ d. elim d [ zero ↦ false | suc n ↦ true ]) ds)

-- ---- types with names, used by several rows

-- INTEGER (0..255), and the same with an extension marker
abbrev pub octet_number : Schema
octet_number = between (pos 0) (pos 255)

abbrev pub extensible_number : Schema
extensible_number = integer (from_to (Some (pos 0)) (Some (pos 255)) true) any_number

-- INTEGER (0..65535)
abbrev pub word_number : Schema
word_number = between (pos 0) (pos 65535)

-- INTEGER (256..1234567)
abbrev pub wide_number : Schema
wide_number = between (pos 256) (pos 1234567)

-- INTEGER (0..MAX)
abbrev pub from_zero : Schema
from_zero = at_least (pos 0)

-- INTEGER (MIN..5)
abbrev pub at_most_5 : Schema
at_most_5 = integer (from_to None (Some (pos 5)) false) any_number

-- INTEGER (MIN..MAX): a value constraint, so 128 bits hold all of its numbers; and the same with an extension marker
abbrev pub min_to_max : Schema
min_to_max =
    integer (from_to None None false) (record { low = Some (minus (2 ^ 127)); high = Some (pos (2 ^ 127 - 1)) })

abbrev pub extensible_min_to_max : Schema
extensible_min_to_max = integer (from_to None None true) any_number

-- ENUMERATED {yes (1000), no (-1000)}
abbrev pub yes_or_no : Schema
yes_or_no = enumerated (minus 1000 ∷ pos 1000 ∷ []) false []

-- ENUMERATED {red, ...} and ENUMERATED {red, ..., blue}
abbrev pub colour_old : Schema
colour_old = enumerated (pos 0 ∷ []) true []

abbrev pub colour_new : Schema
colour_new = enumerated (pos 0 ∷ []) true (pos 1 ∷ [])

-- consecutive numbers: how many, and the first
abbrev pub numbers_from : ℕ → ℕ → List ℤ
numbers_from first zero = []
numbers_from first (suc n) = pos first ∷ numbers_from (first + 1) n

-- enumeration values at which the number of octets changes
abbrev pub signed_items : List ℤ
signed_items = minus 129 ∷ minus 128 ∷ minus 1 ∷ pos 127 ∷ pos 128 ∷ pos 255 ∷ []

-- BIT STRING, OCTET STRING, and OCTET STRING (SIZE (1..3, ...))
abbrev pub any_bits : Schema
any_bits = bit_text any_size

abbrev pub any_octets : Schema
any_octets = octet_text any_size

abbrev pub extensible_octets : Schema
extensible_octets = octet_text (sizes_or_more 1 3)

-- VisibleString with these characters alone
abbrev pub visible_of : List ℕ → Schema
visible_of cs = character_string visible any_size (letters cs) any_count

-- SEQUENCE {a BOOLEAN, b S}, whose second component starts at bit 1
abbrev pub flagged : Schema → Schema
flagged s = closed (needs 0 boolean (needs 1 s no_component))

-- SEQUENCE {a INTEGER DEFAULT 0, b INTEGER OPTIONAL}
abbrev pub defaulted : Schema
defaulted = closed (has_default 0 whole (num 0) (may_have 1 whole no_component))

-- SEQUENCE {a INTEGER, b SEQUENCE {a INTEGER, b SEQUENCE {a INTEGER, b INTEGER OPTIONAL} OPTIONAL}}
abbrev pub chained : Schema
chained =
    closed (needs 0 whole
    (needs 1 (closed (needs 0 whole (may_have 1 (closed (needs 0 whole (may_have 1 whole no_component))) no_component)))
    no_component))

-- optional numbers, and absent parts, as many as given
abbrev pub optional_numbers : ℕ → ℕ → Components
optional_numbers first zero = no_component
optional_numbers first (suc n) = may_have first whole (optional_numbers (first + 1) n)

abbrev pub absent_parts : ℕ → Parts → Parts
absent_parts zero ps = ps
absent_parts (suc n) ps = absent (absent_parts n ps)

-- SEQUENCE {age INTEGER, name UTF8String}
abbrev pub person : Schema
person = closed (needs 0 whole (needs 1 (string utf8 any_size) no_component))

-- SEQUENCE {flag BOOLEAN, fixed SEQUENCE (SIZE (2)) OF OCTET STRING (SIZE (3)), ranged SEQUENCE (SIZE (1..2)) OF OCTET
-- STRING (SIZE (3)), trailer INTEGER (0..255)}
abbrev pub two_lists : Schema
two_lists =
    closed (needs 0 boolean
    (needs 1 (list (sizes 2 2) (octet_text (sizes 3 3))) (needs 2 (list (sizes 1 2) (octet_text (sizes 3 3)))
    (needs 3 octet_number no_component))))

-- SEQUENCE (SIZE (1..2)) OF BOOLEAN
abbrev pub one_or_two : Schema
one_or_two = list (sizes 1 2) boolean

-- SEQUENCE OF NULL
abbrev pub many_nulls : Schema
many_nulls = list any_size null

-- CHOICE {[0] BOOLEAN, [444] BOOLEAN} and CHOICE {[0] INTEGER, [1] INTEGER, [4294967295] INTEGER}
abbrev pub two_booleans : Schema
two_booleans = one_of (or_tagged 0 boolean (or_tagged 444 boolean no_alternative))

abbrev pub three_numbers : Schema
three_numbers = one_of (or_tagged 0 whole (or_tagged 1 whole (or_tagged 4294967295 whole no_alternative)))

-- CHOICE of one alternative, NULL, with this tag
abbrev pub only_tagged : Tag → Schema
only_tagged t = one_of (alternative t null no_alternative)

-- CHOICE {a [0] INTEGER, b [1] INTEGER, ..., c [2] INTEGER}, and a choice that has it as an alternative
abbrev pub extensible_choice : Schema
extensible_choice =
    choice (or_tagged 0 whole (or_tagged 1 whole no_alternative)) true (or_tagged 2 whole no_alternative)

abbrev pub choice_of_choice : Schema
choice_of_choice =
    choice (or_tagged 0 boolean (or_tagged 2 extensible_choice no_alternative)) true
    (or_tagged 1 boolean no_alternative)

-- a given number of alternatives, each NULL
abbrev pub null_alternatives : ℕ → ℕ → Alternatives
null_alternatives first zero = no_alternative
null_alternatives first (suc n) = or_tagged first null (null_alternatives (first + 1) n)

-- SET {a [444] INTEGER OPTIONAL, b [5] INTEGER OPTIONAL, c [APPLICATION 9] INTEGER OPTIONAL}, in the order of the tags
abbrev pub set_of_three : Schema
set_of_three =
    set (component (record { class = 1; number = 9 } ∷ []) optional whole
    (may_have 5 whole (may_have 444 whole no_component))) false
    no_component

-- CHOICE {[7] BOOLEAN, [1] NULL}, and SET {x that choice, y [3] INTEGER (0..255)}
abbrev pub null_or_boolean : Schema
null_or_boolean = one_of (or_tagged 1 null (or_tagged 7 boolean no_alternative))

abbrev pub set_with_choice : Schema
set_with_choice =
    set (component (context 1 ∷ context 7 ∷ []) required null_or_boolean (needs 3 octet_number no_component)) false
    no_component

-- SEQUENCE {a BOOLEAN, ..., b INTEGER (0..255) OPTIONAL}, and the same without b
abbrev pub new_type : Schema
new_type = open_behind (needs 0 boolean no_component) (may_have 1 octet_number no_component)

abbrev pub old_type : Schema
old_type = open_behind (needs 0 boolean no_component) no_component

-- SEQUENCE {a BOOLEAN, ..., r BOOLEAN}
abbrev pub required_new : Schema
required_new = open_behind (needs 0 boolean no_component) (needs 1 boolean no_component)

-- SEQUENCE {a BOOLEAN, ..., d INTEGER DEFAULT 3}
abbrev pub default_added : Schema
default_added = open_behind (needs 0 boolean no_component) (has_default 1 whole (num 3) no_component)

-- SEQUENCE {a BOOLEAN, ..., n NULL OPTIONAL}
abbrev pub null_added : Schema
null_added = open_behind (needs 0 boolean no_component) (may_have 1 null no_component)

-- SEQUENCE {a BOOLEAN, ..., b NULL OPTIONAL, c NULL OPTIONAL}
abbrev pub two_added : Schema
two_added = open_behind (needs 0 boolean no_component) (may_have 1 null (may_have 2 null no_component))

-- SEQUENCE {s S DEFAULT {a TRUE}}, where S is the older or the newer type
abbrev pub default_old : Schema
default_old = closed (has_default 0 old_type (fields (present yes end) end) no_component)

abbrev pub default_new : Schema
default_new = closed (has_default 0 new_type (fields (present yes end) (absent end)) no_component)

-- SEQUENCE {a BOOLEAN, ..., [[x INTEGER (0..255) OPTIONAL]]}, and the same with x INTEGER DEFAULT 5
abbrev pub grouped : Schema
grouped =
    open_behind (needs 0 boolean no_component) (may_have 1 (group (may_have 1 octet_number no_component)) no_component)

abbrev pub default_grouped : Schema
default_grouped =
    open_behind (needs 0 boolean no_component)
    (may_have 1 (group (has_default 1 whole (num 5) no_component)) no_component)

-- SEQUENCE {it INTEGER, is OCTET STRING OPTIONAL, late INTEGER OPTIONAL, ..., today OCTET STRING}
abbrev pub dated : Schema
dated =
    open_behind (needs 0 whole (may_have 1 any_octets (may_have 2 whole no_component)))
    (needs 3 any_octets no_component)

-- SEQUENCE {a OCTET STRING OPTIONAL, ..., n NULL OPTIONAL}
abbrev pub octets_and_null : Schema
octets_and_null = open_behind (may_have 0 any_octets no_component) (may_have 1 null no_component)

-- SEQUENCE {l SEQUENCE (SIZE (1..2)) OF BOOLEAN, ...}
abbrev pub listed : Schema
listed = open_behind (needs 0 one_or_two no_component) no_component

-- SEQUENCE {..., and a given number of optional NULL additions}
abbrev pub null_additions : ℕ → ℕ → Components
null_additions first zero = no_component
null_additions first (suc n) = may_have first null (null_additions (first + 1) n)

-- Nest ::= CHOICE {leaf [0] NULL, more [1] Nest}, unfolded to a given number of levels, and SEQUENCE {a BOOLEAN, ...,
-- n Nest OPTIONAL}
abbrev pub nest : ℕ → Schema
nest zero = cut
nest (suc n) = one_of (or_tagged 0 null (or_tagged 1 (nest n) no_alternative))

abbrev pub nest_added : Schema
nest_added = open_behind (needs 0 boolean no_component) (may_have 1 (nest 128) no_component)

-- a leaf nested a given number of times
abbrev pub nested : ℕ → Value
nested zero = chosen false 0 nothing
nested (suc n) = chosen false 1 (nested n)

-- ---- values with names

-- TRUE and a second part
abbrev pub yes_and : Value → Value
yes_and v = roots (present yes (present v end))

-- a TRUE root and one addition, present or absent
abbrev pub yes_with : Value → Value
yes_with v = fields (present yes end) (present v end)

abbrev pub yes_without : Value
yes_without = fields (present yes end) (absent end)

abbrev pub yes_alone : Value
yes_alone = fields (present yes end) end

-- a SEQUENCE OF or a SET OF these
abbrev pub list_of : List Value → Value
list_of vs = members (values_of vs)

abbrev pub bag_with : List Value → Value
bag_with vs = bag (values_of vs)

-- copies of a value
abbrev pub copies : ℕ → Value → Values
copies zero v = no_more
copies (suc n) v = member v (copies n v)

abbrev pub nulls : ℕ → Values
nulls n = copies n nothing

abbrev pub null_list : ℕ → Value
null_list n = members (nulls n)

-- 11111111 010000
abbrev pub bits_14 : Value
bits_14 = bits_of (1 ∷ 1 ∷ 1 ∷ 1 ∷ 1 ∷ 1 ∷ 1 ∷ 1 ∷ 0 ∷ 1 ∷ 0 ∷ 0 ∷ 0 ∷ 0 ∷ [])

-- a given number of bits that are set
abbrev pub set_bits : ℕ → Value
set_bits n = bit_list (ones n)

abbrev pub octets : List ℕ → Value
octets os = octet_list os

abbrev pub foo : Value
foo = text (0x66 ∷ 0x6F ∷ 0x6F ∷ [])

abbrev pub john : Value
john = text (0x4A ∷ 0x6F ∷ 0x68 ∷ 0x6E ∷ [])
