-- The normal form of a value: what is equal to its default is absent (X.691 19.5 and X.696 16 in their canonical
-- forms), and so is, by this project's choice, a group of absent additions. Also some functions on tables and bounds.
use Rattle.std.specs.Prelude.{ℕ, zero, suc, ◌+◌, ℤ, Bool, true, false, cond, ◌||◌, List, [], ◌∷◌, Option, Some, None}
use Rattle.std.specs.Prelude.{is_some, option_map}
use Rattle.asn1_model.specs.Value.{Value, members, bag, fields, chosen, Parts, end, absent, present, same, same_number}
use Rattle.asn1_model.specs.Value.{are_absent, map_members}
use Rattle.asn1_model.specs.Schema.{Bounds, Presence, required, by_default, Schema, sequence_of, set_of, sequence, set}
use Rattle.asn1_model.specs.Schema.{group, choice, Components, no_component, component, Alternatives, no_alternative}
use Rattle.asn1_model.specs.Schema.{alternative}
use Rattle.asn1_model.specs.Form.{Form, Freedom, Detail, varied, only_if, default_spelled_out, empty_group}

-- A group with no component present.
abbrev pub is_empty_group : Schema → Value → Bool
is_empty_group (group cs) (fields ps qs) = are_absent ps
is_empty_group s v = false

-- Whether a value in normal form is that of the default.
abbrev pub is_default_by : (Value → Value) → Presence → Value → Bool
is_default_by form (by_default d) w = same w (form d)
is_default_by form o w = false

unfoldable mutual
  -- The normal form, computed from the leaves up; every encoder writes it.
  pub normal : Schema → Value → Value
  normal (sequence_of z h s) (members vs) = members (map_members (λ v. normal s v) vs)
  normal (set_of z h s) (bag vs) = bag (map_members (λ v. normal s v) vs)
  normal (sequence cs e adds) (fields ps qs) = fields (normal_parts cs ps) (normal_parts adds qs)
  normal (set cs e adds) (fields ps qs) = fields (normal_parts cs ps) (normal_parts adds qs)
  normal (group cs) (fields ps qs) = fields (normal_parts cs ps) qs
  normal (choice roots e adds) (chosen false i v) = chosen false i (normal_alternative roots i v)
  normal (choice roots e adds) (chosen true i v) = chosen true i (normal_alternative adds i v)
  normal s v = v

  -- Each part in its normal form, absent if that is its default or an empty group.
  pub normal_parts : Components → Parts → Parts
  normal_parts (component t o s cs) (present v ps) =
      cond (is_default_by (λ d. normal s d) o (normal s v) || is_empty_group s (normal s v))
      (absent (normal_parts cs ps)) (present (normal s v) (normal_parts cs ps))
  normal_parts (component t o s cs) (absent ps) = absent (normal_parts cs ps)
  normal_parts cs ps = ps

  -- The value of the chosen alternative in normal form.
  pub normal_alternative : Alternatives → ℕ → Value → Value
  normal_alternative (alternative t s others) zero v = normal s v
  normal_alternative (alternative t s others) (suc i) v = normal_alternative others i v
  normal_alternative no_alternative i v = v

-- Whether a part is its default.
abbrev pub is_at_default : Presence → Schema → Value → Bool
is_at_default o s v = is_default_by (λ d. normal s d) o (normal s v)

-- Whether a part is a group with nothing left in it.
abbrev pub is_group_left_out : Schema → Value → Bool
is_group_left_out s v = is_empty_group s (normal s v)

-- The index of an item among the numbers of a table, from 0 (X.691 14).
abbrev pub item_index : ℤ → List ℤ → Option ℕ
item_index v [] = None
item_index v (d ∷ ds) = cond (same_number v d) (Some zero) (option_map suc (item_index v ds))

-- Whether there is a value constraint.
abbrev pub is_bounded : Bounds → Bool
is_bounded b = is_some b.range.low || is_some b.range.high || b.extensible

abbrev pub is_required : Presence → Bool
is_required required = true
is_required o = false

-- Prepends a presence bit, unless the component has none.
abbrev pub presence_bit_unless : Bool → Bool → List Bool → List Bool
presence_bit_unless true m ms = ms
presence_bit_unless false m ms = m ∷ ms

-- For each component that may be absent, whether it is present, in the order of the table (X.691 19.2, X.696 16).
abbrev pub presence_bits : Components → Parts → List Bool
presence_bits no_component ps = []
presence_bits (component t o s cs) (present v ps) = presence_bit_unless (is_required o) true (presence_bits cs ps)
presence_bits (component t o s cs) (absent ps) = presence_bit_unless (is_required o) false (presence_bits cs ps)
presence_bits (component t o s cs) end = presence_bit_unless (is_required o) false (presence_bits cs end)

abbrev pub alternative_count : Alternatives → ℕ
alternative_count no_alternative = 0
alternative_count (alternative t s others) = alternative_count others + 1

-- A component that is present. What the normal form leaves out is encoded only for a reader with the freedom (X.691
-- 19.5, X.696 16).
unfoldable pub spelled : {A : Type 0} → Presence → Schema → Value → Form Freedom Detail A → Form Freedom Detail A
spelled o s v x = cond (is_at_default o s v)
    (varied default_spelled_out false (λ b. only_if b x))
    (cond (is_group_left_out s v) (varied empty_group false (λ b. only_if b x)) x)
