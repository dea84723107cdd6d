-- Rows: well-formed types, and two versions of a type.
use Rattle.std.specs.Prelude.{◌≡◌, ℕ, zero, suc, pos, true, false, List, [], ◌∷◌, ◌++◌, Option, Some, None, option_map}
use Rattle.asn1_model.specs.Value.{Value, depth, item, chosen, absent, present, end}
use Rattle.asn1_model.specs.Schema.{Tag, Schema, cut, numeric, utf8, boolean, null, enumerated, character_string}
use Rattle.asn1_model.specs.Schema.{sequence, set, group, choice, no_component, component, required, optional}
use Rattle.asn1_model.specs.Schema.{Alternatives, no_alternative}
use Rattle.asn1_model.specs.Lawful.{is_lawful}
use Rattle.asn1_model.specs.Versions.{Extends, drop, grow, IsClash}
use Rattle.asn1_model.specs.Types.{minus, any_count, any_size, sizes, letters, between, octet_text, list, context}
use Rattle.asn1_model.specs.Types.{needs, may_have, closed, open_behind, or_tagged, one_of, num, roots, colour_old}
use Rattle.asn1_model.specs.Types.{colour_new, defaulted, extensible_choice, new_type, old_type}
use Rattle.asn1_model.specs.Types.{required_new, default_old}
use Rattle.asn1_model.specs.Types.{default_new, grouped, nest, nest_added, nested, yes_with, yes_without, yes_alone}
use Rattle.asn1_model.specs.Types.{null_alternatives, bag_of, bag_with, set_of_three, set_with_choice, whole}
use Rattle.asn1_model.specs.Types.{has_default, only_tagged, null_or_boolean, yes}

-- The nested levels that the older version reads.
abbrev pub seen : Schema → Schema → Value → Option ℕ
seen old new v = option_map depth (drop old new v)

-- CHOICE {a [0] INTEGER, b [1] INTEGER, ...}
abbrev pub choice_old : Schema
choice_old = choice (or_tagged 0 whole (or_tagged 1 whole no_alternative)) true no_alternative

-- SEQUENCE {a BOOLEAN, ..., [[the one component of this sequence]]}
abbrev pub group_of : Schema → Schema
group_of (sequence cs e adds) = open_behind (needs 0 boolean no_component) (may_have 1 (group cs) no_component)
group_of s = s

-- T ::= SEQUENCE {n T DEFAULT {}}, unfolded to a given number of levels, and its values {} and {n {}}
abbrev pub unfolded : ℕ → Schema
unfolded zero = cut
unfolded (suc n) = closed (has_default 0 (unfolded n) (roots (absent end)) no_component)

abbrev pub spelled : Value
spelled = roots (present (roots (absent end)) end)

-- SEQUENCE {t T DEFAULT the value}
abbrev pub sequence_default : ℕ → Value → Schema
sequence_default n d = closed (has_default 0 (unfolded n) d no_component)

-- SEQUENCE {a SET OF INTEGER DEFAULT {.., ..}, ...}
abbrev pub bag_default : ℕ → ℕ → Schema
bag_default m n = open_behind (has_default 0 (bag_of whole) (bag_with (num m ∷ num n ∷ [])) no_component) no_component

-- SEQUENCE {a SEQUENCE {b BOOLEAN, ...} DEFAULT {b TRUE}}, and with d INTEGER DEFAULT 3 after the extension marker,
-- DEFAULT {b TRUE, d ..}
abbrev pub plain_default : Schema
plain_default = closed (has_default 0 old_type yes_alone no_component)

abbrev pub spelled_default : ℕ → Schema
spelled_default n =
    closed (has_default 0 (open_behind (needs 0 boolean no_component) (has_default 1 whole (num 3) no_component))
    (yes_with (num n)) no_component)

-- SEQUENCE {..., [[c CHOICE {a [0] NULL, ..., the added alternatives}, z [9] NULL]]}, where the given tags are those
-- of c
abbrev pub choice_in_group : List Tag → Alternatives → Schema
choice_in_group ts adds =
    open_behind no_component (component (ts ++ context 9 ∷ []) optional
    (group (component ts required (choice (or_tagged 0 null no_alternative) true adds)
    (needs 9 null no_component))) no_component)

abbrev pub choice_in_group_old : Schema
choice_in_group_old = choice_in_group (context 0 ∷ []) no_alternative

-- the same with n [1] NULL in the CHOICE
abbrev pub choice_in_group_new : Schema
choice_in_group_new = choice_in_group (context 0 ∷ context 1 ∷ []) (or_tagged 1 null no_alternative)

abbrev pub LawfulRows : Type 0
LawfulRows =
    (is_lawful new_type ≡ true) × (is_lawful grouped ≡ true) × (is_lawful (nest 128) ≡ true)
    × (is_lawful defaulted ≡ true)
    × (is_lawful extensible_choice ≡ true) × (is_lawful colour_new ≡ true)
    × (is_lawful (closed (needs 0 boolean (needs 0 boolean no_component))) ≡ false)
    × (is_lawful (one_of no_alternative) ≡ false)
    × (is_lawful (one_of (or_tagged 1 null (or_tagged 0 null no_alternative))) ≡ false)
    × (is_lawful (between (pos 5) (pos 4)) ≡ false)
    × (is_lawful (enumerated (pos 1 ∷ pos 1 ∷ []) false []) ≡ false)
    × (is_lawful (enumerated (pos 0 ∷ []) true (pos 0 ∷ [])) ≡ false)
    × (is_lawful (enumerated [] true (pos 0 ∷ [])) ≡ false)
    × (is_lawful (sequence (needs 0 boolean no_component) false (needs 1 boolean no_component)) ≡ false)
    × (is_lawful (open_behind no_component (needs 1 (group (needs 0 boolean no_component)) no_component)) ≡ false)
    -- an alphabet may have characters outside the type's, and lists its characters in any order
    × (is_lawful (character_string numeric any_size (letters (0x30 ∷ 0x61 ∷ [])) any_count) ≡ true)
    × (is_lawful (character_string utf8 any_size (letters (0xE9 ∷ [])) any_count) ≡ true)
    × (is_lawful (character_string numeric any_size (letters (0x31 ∷ 0x30 ∷ 0x31 ∷ [])) any_count) ≡ true)
    -- groups: with components, with distinct tags, and only among additions
    × (is_lawful (open_behind no_component
    (may_have 1 (group (needs 0 boolean (needs 0 boolean no_component))) no_component)) ≡ false)
    × (is_lawful (open_behind no_component (may_have 1 (group no_component) no_component)) ≡ false)
    × (is_lawful (closed (may_have 1 (group (needs 0 boolean no_component)) no_component)) ≡ false)
    × (is_lawful (list any_size (group (needs 0 boolean no_component))) ≡ false)
    -- SET components in the order of the tags, an untagged CHOICE by its smallest one
    × (is_lawful set_of_three ≡ true)
    × (is_lawful set_with_choice ≡ true)
    × (is_lawful (set (needs 5 boolean (needs 3 boolean no_component)) false no_component) ≡ false)
    × (is_lawful (set (needs 3 boolean
    (component (context 1 ∷ context 7 ∷ []) required null_or_boolean no_component)) false no_component) ≡ false)
    -- an untagged CHOICE begins with the tags of all its alternatives and no other, or it is given one tag; a group
    -- begins with those of its components; no other type has several tags
    × (is_lawful (closed (component (context 1 ∷ context 7 ∷ []) required null_or_boolean no_component)) ≡ true)
    × (is_lawful (closed (component (context 1 ∷ context 5 ∷ []) required null_or_boolean no_component)) ≡ false)
    × (is_lawful (closed (needs 5 null_or_boolean no_component)) ≡ true)
    × (is_lawful (closed (component (context 1 ∷ context 7 ∷ []) required boolean no_component)) ≡ false)
    × (is_lawful (open_behind no_component (may_have 1 (group (needs 2 boolean no_component)) no_component)) ≡ false)
    × (is_lawful (open_behind (needs 0 boolean no_component) (needs 0 boolean no_component)) ≡ false)
    -- CHOICE: an added alternative only after an extension marker, and all tags distinct
    × (is_lawful (choice (null_alternatives 0 2) false (null_alternatives 2 1)) ≡ false)
    × (is_lawful (choice (null_alternatives 0 2) true (null_alternatives 1 1)) ≡ false)
    × (is_lawful (choice (null_alternatives 5 2) true (or_tagged 3 null (or_tagged 2 null no_alternative))) ≡ true)
    × (is_lawful (choice no_alternative true (null_alternatives 0 1)) ≡ false)
    × (is_lawful (octet_text (sizes 5 4)) ≡ false)
    × (is_lawful (enumerated (pos 0 ∷ []) false (pos 1 ∷ [])) ≡ false)
    × (is_lawful (enumerated (pos 0 ∷ minus 1 ∷ []) false []) ≡ false)
    -- a default may encode a component at its own default, or an empty group: the recursive T, then DEFAULT {a 0} and
    -- {a TRUE, [[]]}
    × (is_lawful (unfolded 3) ≡ true)
    × (is_lawful (sequence_default 3 (roots (present spelled end))) ≡ true)
    × (is_lawful (sequence_default 3 spelled) ≡ true)
    × (is_lawful (sequence_default 3 (roots (absent end))) ≡ true)
    × (is_lawful (closed (has_default 0 defaulted (roots (present (num 0) (absent end))) no_component)) ≡ true)
    × (is_lawful (closed (has_default 0 defaulted (roots (absent (absent end))) no_component)) ≡ true)
    × (is_lawful (closed (has_default 0 defaulted (roots (present (num 1) (absent end))) no_component)) ≡ true)
    × (is_lawful (closed (has_default 0 grouped (yes_with (roots (absent end))) no_component)) ≡ true)
    × (is_lawful (closed (has_default 0 grouped yes_without no_component)) ≡ true)
    × (is_lawful default_old ≡ true)
    × (is_lawful default_new ≡ true)
    -- a default is a value of its type: not SEQUENCE {a INTEGER (0..4) DEFAULT 5}, DEFAULT TRUE, or {a} of a SEQUENCE
    -- without components
    × (is_lawful (closed (has_default 0 (between (pos 0) (pos 4)) (num 5) no_component)) ≡ false)
    × (is_lawful (closed (has_default 0 (between (pos 0) (pos 4)) (num 4) no_component)) ≡ true)
    × (is_lawful (closed (has_default 0 whole yes no_component)) ≡ false)
    × (is_lawful (closed (has_default 0 (closed no_component) yes_alone no_component)) ≡ false)
    × (is_lawful (closed (has_default 0 colour_old (item (pos 1)) no_component)) ≡ false)
    -- there are four classes of tags
    × (is_lawful (only_tagged (record { class = 3; number = 0 })) ≡ true)
    × (is_lawful (only_tagged (record { class = 4; number = 0 })) ≡ false)
    × (is_lawful (closed (component (record { class = 4; number = 0 } ∷ []) required boolean no_component)) ≡ false)
    -- the versions below
    × (is_lawful (bag_default 1 2) ≡ true)
    × (is_lawful (bag_default 2 1) ≡ true)
    × (is_lawful choice_in_group_old ≡ true)
    × (is_lawful choice_in_group_new ≡ true)

abbrev pub VersionRows : Type 0
VersionRows =
    Extends old_type new_type
    × Extends default_old default_new
    × Extends old_type required_new
    × Extends colour_old colour_new
    × (drop old_type new_type (yes_with (num 7)) ≡ Some yes_alone)
    × (grow old_type new_type yes_alone ≡ Some yes_without)
    × IsClash default_old default_new (roots (present (yes_with (num 7)) end))
    × (drop default_old default_new (roots (present yes_without end)) ≡ Some (roots (absent end)))
    × (grow old_type required_new yes_alone ≡ None)
    × (drop colour_old colour_new (item (pos 1)) ≡ None)
    × (drop colour_old colour_new (item (pos 0)) ≡ Some (item (pos 0)))
    × (seen old_type new_type (yes_with (num 7)) ≡ Some 1)
    × (seen old_type nest_added (yes_with (nested 127)) ≡ Some 1)
    × (seen nest_added nest_added (yes_with (nested 127)) ≡ Some 129)
    -- a required addition counts only if its SEQUENCE is present
    × (grow (closed (may_have 0 old_type no_component)) (closed (may_have 0 required_new no_component))
    (roots (absent end)) ≡ Some (roots (absent end)))
    × (grow (closed (may_have 0 old_type no_component)) (closed (may_have 0 required_new no_component))
    (roots (present yes_alone end)) ≡ None)
    -- an alternative that the older version lacks: no result where it is seen, and no effect inside what is lost
    × (drop choice_old extensible_choice (chosen true 0 (num 1)) ≡ None)
    × (drop choice_old extensible_choice (chosen false 0 (num 1)) ≡ Some (chosen false 0 (num 1)))
    × (drop old_type (open_behind (needs 0 boolean no_component) (may_have 1 extensible_choice no_component))
    (yes_with (chosen true 0 (num 1))) ≡ Some yes_alone)
    -- a group that the loss leaves empty
    × IsClash (group_of default_old) (group_of default_new) (yes_with (roots (present (yes_with (num 7)) end)))
    -- what is at its default in the newer version is lost without a conflict
    × (drop default_old default_new (roots (absent end)) ≡ Some (roots (absent end)))
    -- not versions of each other: further roots, further additions without an extension marker, fewer additions,
    -- another bound
    × (Extends (closed no_component) (closed (needs 0 boolean no_component)) → ⊥)
    × (Extends new_type old_type → ⊥)
    × (Extends (between (pos 0) (pos 4)) (between (pos 0) (pos 5)) → ⊥)
    × (Extends old_type (closed (needs 0 boolean no_component)) → ⊥)
    × (Extends (choice (null_alternatives 0 2) true no_alternative) (choice (null_alternatives 0 3) true no_alternative)
    → ⊥)
    -- the same default: in another order of a SET OF, and with components encoded at their own defaults; not another
    -- default
    × Extends (bag_default 1 2) (bag_default 2 1)
    × (Extends (bag_default 1 2) (bag_default 1 1) → ⊥)
    × Extends plain_default (spelled_default 3)
    × (Extends plain_default (spelled_default 4) → ⊥)
    -- an untagged CHOICE that gains a tag, in a group before another component; no tag is removed
    × Extends choice_in_group_old choice_in_group_new
    × (Extends choice_in_group_new choice_in_group_old → ⊥)
    × (Extends (closed (needs 0 boolean no_component)) (closed (needs 1 boolean no_component)) → ⊥)
