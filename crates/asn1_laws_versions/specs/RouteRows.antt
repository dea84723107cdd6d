-- Rows: routes of values through two versions of a type, computed from the definitions.
use Rattle.std.specs.Prelude.{◌≡◌, ℕ, pos, List, [], ◌∷◌, ◌++◌, Option, Some, None}
use Rattle.asn1_model.specs.Value.{Value, nothing, item, fields, absent, present, end}
use Rattle.asn1_model.specs.Schema.{Schema, null, no_component}
use Rattle.asn1_model.specs.Rules.{Rules, uper, aper_strict, oer, coer}
use Rattle.asn1_model.specs.Types.{Writes, open_behind, may_have, needs, whole, one_or_two, new_type, old_type}
use Rattle.asn1_model.specs.Types.{required_new, default_old, default_new, colour_old, colour_new, listed, nest_added}
use Rattle.asn1_model.specs.Types.{nested, roots, yes, no, num, list_of, yes_with, yes_without, yes_alone}
use Rattle.asn1_laws_versions.specs.Answers.{Answer, not_an_encoding, no_target}
use Rattle.asn1_laws_versions.specs.Routes.{older, newer, Hop, no_hop, newer_alone, an_older, at_first, value_written}
use Rattle.asn1_laws_versions.specs.Routes.{GoesThrough, FailsAt, IsLastWritten}
use Rattle.asn1_laws_versions.specs.Relays.{Halt, unread, untranslated, emptied, older_to, RelaysOlder}

-- A hop of the newer version.
abbrev pub newer_to : Rules → Hop
newer_to target = record { version = newer; to = target }

-- No cause for refusal holds at any hop, and the last one writes these octets.
abbrev pub Goes : Schema → Schema → Rules → List Hop → Value → List ℕ → Type 0
Goes old new from hops v out =
    GoesThrough old new (at_first from) hops v × IsLastWritten old new (at_first from) hops v out

-- This is the first hop where a cause for refusal holds, and this is its answer.
abbrev pub Fails : Schema → Schema → Rules → List Hop → Value → ℕ → Answer → Type 0
Fails old new from hops v i a = FailsAt old new (at_first from) hops v i a

-- SEQUENCE {l SEQUENCE (SIZE (1..2)) OF BOOLEAN, ..., b INTEGER OPTIONAL}
abbrev pub listed_new : Schema
listed_new = open_behind (needs 0 one_or_two no_component) (may_have 1 whole no_component)

-- {l {TRUE, TRUE, TRUE}}, and its encoding in COER
abbrev pub three : Value
three = fields (present (list_of (yes ∷ yes ∷ yes ∷ [])) end) (absent end)

abbrev pub three_octets : List ℕ
three_octets = 0x00 ∷ 0x01 ∷ 0x03 ∷ 0xFF ∷ 0xFF ∷ 0xFF ∷ []

-- {a TRUE, b 7}, and its encoding in UPER
abbrev pub seven : Value
seven = yes_with (num 7)

abbrev pub seven_octets : List ℕ
seven_octets = 0xC0 ∷ 0x40 ∷ 0x41 ∷ 0xC0 ∷ []

-- A relay of the older version, from UPER to COER.
abbrev pub RelaysSome : Schema → Schema → ℕ → List Value → List ℕ → ℕ → List ℕ → List ℕ → Option Halt → Type 0
RelaysSome old new limit vs w number out rest halt = RelaysOlder uper coer old new limit vs w number out rest halt

-- {s {a TRUE, b 7}}
abbrev pub in_default : Value
in_default = roots (present seven end)

-- red and blue
abbrev pub red : Value
red = item (pos 0)

abbrev pub blue : Value
blue = item (pos 1)

abbrev pub RouteRows : Type 0
RouteRows =
    -- SEQUENCE {a BOOLEAN, ..., b INTEGER (0..255) OPTIONAL}; the older version lacks b
    (value_written old_type new_type no_hop newer seven ≡ Some seven)
    × (value_written old_type new_type newer_alone older seven ≡ Some yes_alone)
    × (value_written old_type new_type an_older newer seven ≡ Some yes_without)
    × Writes uper new_type seven seven_octets
    × Goes old_type new_type uper (newer_to coer ∷ []) seven (0x80 ∷ 0xFF ∷ 0x02 ∷ 0x07 ∷ 0x80 ∷ 0x01 ∷ 0x07 ∷ [])
    × Goes old_type new_type uper (newer_to coer ∷ older_to uper ∷ []) seven (0x40 ∷ [])
    × Goes old_type new_type uper (newer_to coer ∷ older_to uper ∷ newer_to coer ∷ []) seven (0x00 ∷ 0xFF ∷ [])
    -- the loss leaves a component at its default: UPER reads it, strict rules do not, nor after another hop
    × Goes default_old default_new uper (older_to coer ∷ []) in_default (0x00 ∷ [])
    × Fails default_old default_new coer (older_to coer ∷ []) in_default 0 not_an_encoding
    × Fails default_old default_new aper_strict (older_to coer ∷ []) in_default 0 not_an_encoding
    × Fails default_old default_new uper (newer_to coer ∷ older_to uper ∷ []) in_default 1 not_an_encoding
    -- what the older version has written is read by strict rules
    × Goes default_old default_new uper (older_to coer ∷ older_to coer ∷ newer_to coer ∷ older_to oer ∷ []) in_default
    (0x00 ∷ [])
    -- the newer version requires a part that the older one lacks
    × Goes old_type required_new uper (older_to uper ∷ []) (yes_with no) (0x40 ∷ [])
    × Fails old_type required_new uper (older_to uper ∷ newer_to coer ∷ []) (yes_with no) 1 not_an_encoding
    -- ENUMERATED {red, ..., blue}; the older version lacks blue
    × Goes colour_old colour_new uper (newer_to coer ∷ []) blue (0x01 ∷ [])
    × Fails colour_old colour_new uper (older_to coer ∷ []) blue 0 not_an_encoding
    × Fails colour_old colour_new uper (newer_to coer ∷ older_to uper ∷ older_to uper ∷ []) blue 1 not_an_encoding
    × Goes colour_old colour_new uper (older_to coer ∷ []) red (0x00 ∷ [])
    -- 129 nested levels, one of which the older version sees
    × Fails old_type nest_added coer (newer_to coer ∷ []) (yes_with (nested 127)) 0 not_an_encoding
    × Goes old_type nest_added coer (older_to coer ∷ newer_to coer ∷ []) (yes_with (nested 127)) (0x00 ∷ 0xFF ∷ [])
    -- three elements of SIZE (1..2) are written only by COER
    × Writes coer listed_new three three_octets
    × Fails listed listed_new coer (older_to coer ∷ newer_to uper ∷ older_to coer ∷ []) three 1 no_target
    -- two messages within the limit, and one above it
    × RelaysSome old_type new_type 4 (seven ∷ seven ∷ []) (seven_octets ++ seven_octets) 2
    (0x00 ∷ 0xFF ∷ 0x00 ∷ 0xFF ∷ []) [] None
    × RelaysSome old_type new_type 3 (seven ∷ []) seven_octets 0 [] seven_octets (Some unread)
    -- red, followed by blue, which is not read; a missing encoding, and an empty one
    × RelaysSome colour_old colour_new 9 (red ∷ blue ∷ []) (0x00 ∷ 0x80 ∷ []) 1 (0x00 ∷ []) (0x80 ∷ []) (Some unread)
    × RelaysOlder coer uper listed listed_new 9 (three ∷ []) three_octets 0 [] three_octets (Some untranslated)
    × RelaysSome null null 9 (nothing ∷ []) (0x00 ∷ []) 0 [] (0x00 ∷ []) (Some emptied)
