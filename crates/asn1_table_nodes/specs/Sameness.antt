-- Equal elements and parts of two defaults.
use Rattle.std.specs.Prelude.{Bool, true, false, ◌||◌, Option, Some, None}
use Rattle.asn1_model.specs.Value.{Value, Values, no_more, member, are_all, same}

-- A value is the same as one of some values.
abbrev pub is_among : Values → Value → Bool
is_among no_more w = false
is_among (member v vs) w = same v w || is_among vs w

-- Each of the second values is the same as one of the first.
abbrev pub are_among : Values → Values → Bool
are_among vs ws = are_all (λ w. is_among vs w) ws

-- Two parts are the same, or both absent.
abbrev pub is_same_part : Option Value → Option Value → Bool
is_same_part None None = true
is_same_part (Some v) (Some w) = same v w
is_same_part o p = false
