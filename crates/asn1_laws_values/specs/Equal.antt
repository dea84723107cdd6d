-- When two values of a type are equal: an absent component is equal to one at its default (X.680 25), an absent group
-- of additions to one with no component present, and the order of the elements of a SET OF is irrelevant (X.680 28).
use Rattle.std.specs.Prelude.{ℕ, zero, suc, ◌==◌, Bool, true, false, ◌&&◌, ◌||◌}
use Rattle.asn1_model.specs.Value.{Value, members, bag, fields, chosen, Values, no_more, member, Parts, absent, present}
use Rattle.asn1_model.specs.Value.{same, same_parts, are_absent, taken_out}
use Rattle.asn1_model.specs.Schema.{Presence, by_default, Schema, sequence_of, set_of, sequence, set, group, choice}
use Rattle.asn1_model.specs.Schema.{Components, component, Alternatives, no_alternative, alternative}
use Rattle.std.specs.Option.{option_map_or}

-- Equality of lists, given that of elements.
abbrev pub equal_members : (Value → Value → Bool) → Values → Values → Bool
equal_members equal no_more no_more = true
equal_members equal (member v vs) (member w ws) = equal v w && equal_members equal vs ws
equal_members equal vs ws = false

-- Equality of SET OF values: each element of one is matched with its own equal element of the other.
abbrev pub equal_bags : (Value → Value → Bool) → Values → Values → Bool
equal_bags equal no_more no_more = true
equal_bags equal (member v vs) ws =
    option_map_or (λ rest. equal_bags equal vs rest) (taken_out (λ w. equal v w) ws) false
equal_bags equal vs ws = false

-- Whether a value is equal to the default.
abbrev pub is_the_default : (Value → Value → Bool) → Presence → Value → Bool
is_the_default equal (by_default d) v = equal v d
is_the_default equal o v = false

unfoldable mutual
  -- Whether two values of a type are equal.
  pub are_equal : Schema → Value → Value → Bool
  are_equal (sequence_of z h s) (members vs) (members ws) = equal_members (λ v w. are_equal s v w) vs ws
  are_equal (set_of z h s) (bag vs) (bag ws) = equal_bags (λ v w. are_equal s v w) vs ws
  are_equal (sequence cs e adds) (fields ps qs) (fields rs ss) = equal_parts cs ps rs && equal_parts adds qs ss
  are_equal (set cs e adds) (fields ps qs) (fields rs ss) = equal_parts cs ps rs && equal_parts adds qs ss
  are_equal (group cs) (fields ps qs) (fields rs ss) = equal_parts cs ps rs && same_parts qs ss
  are_equal (choice roots e adds) (chosen false i v) (chosen false j w) = (i == j) && equal_alternatives roots i v w
  are_equal (choice roots e adds) (chosen true i v) (chosen true j w) = (i == j) && equal_alternatives adds i v w
  are_equal s v w = same v w

  -- Equality of parts: equal values, or both absent, or absent in one and equivalent to absent in the other.
  pub equal_parts : Components → Parts → Parts → Bool
  equal_parts (component t o s cs) (present v ps) (present w qs) =
      (are_equal s v w || ((is_the_default (λ a b. are_equal s a b) o v || has_nothing s v)
      && (is_the_default (λ a b. are_equal s a b) o w || has_nothing s w)))
      && equal_parts cs ps qs
  equal_parts (component t o s cs) (present v ps) (absent qs) =
      (is_the_default (λ a b. are_equal s a b) o v || has_nothing s v) && equal_parts cs ps qs
  equal_parts (component t o s cs) (absent ps) (present w qs) =
      (is_the_default (λ a b. are_equal s a b) o w || has_nothing s w) && equal_parts cs ps qs
  equal_parts (component t o s cs) (absent ps) (absent qs) = equal_parts cs ps qs
  equal_parts cs ps qs = same_parts ps qs

  -- Equality of the chosen alternative.
  pub equal_alternatives : Alternatives → ℕ → Value → Value → Bool
  equal_alternatives (alternative t s others) zero v w = are_equal s v w
  equal_alternatives (alternative t s others) (suc i) v w = equal_alternatives others i v w
  equal_alternatives no_alternative i v w = same v w

  -- A group of additions with no component present.
  pub has_nothing : Schema → Value → Bool
  has_nothing (group cs) (fields ps qs) = are_nothing cs ps
  has_nothing s v = false

  -- Parts that are absent, or equivalent to absent.
  pub are_nothing : Components → Parts → Bool
  are_nothing (component t o s cs) (present v ps) =
      (is_the_default (λ a b. are_equal s a b) o v || has_nothing s v) && are_nothing cs ps
  are_nothing (component t o s cs) (absent ps) = are_nothing cs ps
  are_nothing cs ps = are_absent ps
