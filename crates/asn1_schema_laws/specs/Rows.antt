-- Rows: the records of some values, worked out by hand and computed here from the definitions.
use Rattle.std.specs.Prelude.{◌≡◌, ℕ, pos, true, false, [], ◌∷◌, Some, None}
use Rattle.asn1_model.specs.Value.{nothing, members, bag, fields, chosen, member, no_more, end, absent, present}
use Rattle.asn1_model.specs.Schema.{Schema, boolean, null, set, choice, no_component, no_alternative}
use Rattle.asn1_model.specs.Types.{from_to, any_number, any_count, any_size, sizes, context, needs, may_have, closed}
use Rattle.asn1_model.specs.Types.{or_tagged, one_of, yes, no, num, roots}
use Rattle.asn1_model.specs.Types.{octet_number, defaulted, one_or_two, bag_of, new_type, grouped}
use Rattle.asn1_schema_laws.specs.Records as call
use Rattle.asn1_schema_laws.specs.Presents.{presents}

-- SEQUENCE {on BOOLEAN, level INTEGER (0..255) OPTIONAL, step NULL}
abbrev pub setting : Schema
setting = closed (needs 0 boolean (may_have 1 octet_number (needs 2 null no_component)))

-- the record of a number from 0 to 255, and of one without bounds
abbrev pub octet : ℕ → call.Record
octet n = call.whole (from_to (Some (pos 0)) (Some (pos 255)) false) any_number (pos n)

abbrev pub unbounded : ℕ → call.Record
unbounded n = call.whole (from_to None None false) any_number (pos n)

-- CHOICE {a [0] BOOLEAN, ..., b [1] NULL}
abbrev pub added_null : Schema
added_null = choice (or_tagged 0 boolean no_alternative) true (or_tagged 1 null no_alternative)

-- components: present, absent, required and missing, and encoded at a default
abbrev pub ComponentRows : Type 0
ComponentRows =
    (presents setting (roots (present yes (present (num 7) (present nothing end)))) ≡ call.sequence_begins false 1
    ∷ call.flag true ∷ call.presence_bit true ∷ octet 7 ∷ call.nil ∷ call.ends ∷ [])
    × (presents setting (roots (present no (absent (present nothing end)))) ≡ call.sequence_begins false 1
    ∷ call.flag false ∷ call.presence_bit false ∷ call.nil ∷ call.ends ∷ [])
    × (presents setting (roots (absent (absent (present nothing end)))) ≡ call.sequence_begins false 1 ∷ call.mismatch
    ∷ call.presence_bit false ∷ call.nil ∷ call.ends ∷ [])
    × (presents setting (roots (present yes end)) ≡ call.sequence_begins false 1 ∷ call.flag true ∷ call.mismatch ∷ [])
    × (presents defaulted (roots (present (num 0) (absent end))) ≡ call.sequence_begins false 2 ∷ call.presence_bit true
    ∷ unbounded 0 ∷ call.is_default ∷ call.presence_bit false ∷ call.ends ∷ [])
    × (presents defaulted (roots (present (num 3) (absent end))) ≡ call.sequence_begins false 2 ∷ call.presence_bit true
    ∷ unbounded 3 ∷ call.presence_bit false ∷ call.ends ∷ [])
    × (presents (set (needs 0 boolean (may_have 1 null no_component)) false no_component)
    (roots (present yes (absent end))) ≡ call.set_begins false 1 ∷ call.flag true ∷ call.presence_bit false ∷ call.ends
    ∷ [])

-- SEQUENCE OF, SET OF and CHOICE
abbrev pub MemberRows : Type 0
MemberRows =
    (presents one_or_two (members (member yes (member no no_more))) ≡ call.list_begins (sizes 1 2) any_count 2
    ∷ call.further true ∷ call.flag true ∷ call.further true ∷ call.flag false ∷ call.further false ∷ call.ends
    ∷ [])
    × (presents (bag_of null) (bag (member nothing no_more)) ≡ call.bag_begins any_size any_count 1
    ∷ call.further true ∷ call.nil ∷ call.further false ∷ call.ends ∷ [])
    × (presents (one_of (or_tagged 0 boolean (or_tagged 1 null no_alternative))) (chosen false 1 nothing)
    ≡ call.choice_begins (context 0 ∷ context 1 ∷ []) false [] false 1 ∷ call.nil ∷ call.ends ∷ [])
    × (presents added_null (chosen true 0 nothing) ≡ call.choice_begins (context 0 ∷ []) true (context 1 ∷ []) true 0
    ∷ call.nil ∷ call.ends ∷ [])
    × (presents added_null (chosen false 1 nothing) ≡ call.choice_begins (context 0 ∷ []) true (context 1 ∷ []) false
    1 ∷ call.mismatch ∷ [])
    × (presents boolean (num 1) ≡ call.mismatch ∷ [])

-- additions and groups of them
abbrev pub AdditionRows : Type 0
AdditionRows =
    (presents new_type (fields (present yes end) (present (num 7) end)) ≡ call.sequence_begins true 0 ∷ call.flag true
    ∷ call.additions_begin 1 ∷ call.addition true ∷ octet 7 ∷ call.addition_ends ∷ call.ends ∷ [])
    × (presents new_type (fields (present yes end) (absent end)) ≡ call.sequence_begins true 0 ∷ call.flag true
    ∷ call.additions_begin 1 ∷ call.addition false ∷ call.ends ∷ [])
    × (presents grouped (fields (present yes end) (present (roots (present (num 7) end)) end))
    ≡ call.sequence_begins true 0 ∷ call.flag true ∷ call.additions_begin 1 ∷ call.addition true
    ∷ call.group_begins 1 ∷ call.presence_bit true ∷ octet 7 ∷ call.ends ∷ call.addition_ends ∷ call.ends ∷ [])
    × (presents grouped (fields (present yes end) (present (roots (absent end)) end)) ≡ call.sequence_begins true 0
    ∷ call.flag true ∷ call.additions_begin 1 ∷ call.addition true ∷ call.group_begins 1 ∷ call.presence_bit false
    ∷ call.ends ∷ call.addition_ends ∷ call.is_empty ∷ call.ends ∷ [])
