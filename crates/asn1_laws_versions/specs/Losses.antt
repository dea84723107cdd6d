-- What is lost of a value if the older version of its type reads it, in terms of the value itself: which components
-- the loss leaves at their default, and how many nested levels the older version sees.
use Rattle.std.specs.Prelude.{◌≡◌, ◌⊎◌, ℕ, zero, suc, ◌+◌, max, true, false, Some}
use Rattle.asn1_model.specs.Value.{Value, members, bag, fields, chosen, Values, no_more, member, Parts, absent, present}
use Rattle.asn1_model.specs.Value.{depth, depth_of_parts}
use Rattle.asn1_model.specs.Schema.{Presence, Schema, sequence_of, set_of, sequence, set, group, choice, Components}
use Rattle.asn1_model.specs.Schema.{component, Alternatives, alternative}
use Rattle.asn1_model.specs.Normal.{is_at_default}
use Rattle.asn1_model.specs.Versions.{carried}

-- A component's value, reduced to what the older version knows, is the default of the component.
abbrev pub IsLeftAtDefault : Presence → Schema → Schema → Value → Type 0
IsLeftAtDefault o s s' v = (w : Value) × (carried false s s' v ≡ Some w) × (is_at_default o s w ≡ true)

abbrev pub OfSome : (Value → Type 0) → Values → Type 0
OfSome P no_more = ⊥
OfSome P (member v vs) = P v ⊎ OfSome P vs

unfoldable mutual
  -- A component that the older version knows is in the value, inside nothing that the older version lacks, and is left
  -- at its default.
  pub LeavesDefault : Schema → Schema → Value → Type 0
  LeavesDefault (sequence_of z h s) (sequence_of z' h' s') (members vs) = OfSome (λ v. LeavesDefault s s' v) vs
  LeavesDefault (set_of z h s) (set_of z' h' s') (bag vs) = OfSome (λ v. LeavesDefault s s' v) vs
  LeavesDefault (sequence cs e adds) (sequence cs' e' adds') (fields ps qs) =
      PartsLeaveDefault cs cs' ps ⊎ PartsLeaveDefault adds adds' qs
  LeavesDefault (set cs e adds) (set cs' e' adds') (fields ps qs) =
      PartsLeaveDefault cs cs' ps ⊎ PartsLeaveDefault adds adds' qs
  LeavesDefault (group cs) (group cs') (fields ps qs) = PartsLeaveDefault cs cs' ps
  LeavesDefault (choice roots e adds) (choice roots' e' adds') (chosen false i v) =
      AlternativeLeavesDefault roots roots' i v
  LeavesDefault (choice roots e adds) (choice roots' e' adds') (chosen true i v) =
      AlternativeLeavesDefault adds adds' i v
  LeavesDefault s s' v = ⊥

  -- One of the parts is left at its default, or a component within one.
  pub PartsLeaveDefault : Components → Components → Parts → Type 0
  PartsLeaveDefault (component t o s cs) (component t' o' s' cs') (present v ps) =
      IsLeftAtDefault o s s' v ⊎ LeavesDefault s s' v ⊎ PartsLeaveDefault cs cs' ps
  PartsLeaveDefault (component t o s cs) (component t' o' s' cs') (absent ps) = PartsLeaveDefault cs cs' ps
  PartsLeaveDefault cs cs' ps = ⊥

  pub AlternativeLeavesDefault : Alternatives → Alternatives → ℕ → Value → Type 0
  AlternativeLeavesDefault (alternative t s others) (alternative t' s' others') zero v = LeavesDefault s s' v
  AlternativeLeavesDefault (alternative t s others) (alternative t' s' others') (suc i) v =
      AlternativeLeavesDefault others others' i v
  AlternativeLeavesDefault others others' i v = ⊥

-- The greatest count of the elements.
abbrev pub most_of : (Value → ℕ) → Values → ℕ
most_of f no_more = 0
most_of f (member v vs) = max (f v) (most_of f vs)

unfoldable mutual
  -- The number of nested levels of a value, not counting those inside what the older version lacks. A group of
  -- additions has only components.
  pub seen_depth : Schema → Schema → Value → ℕ
  seen_depth (sequence_of z h s) (sequence_of z' h' s') (members vs) = most_of (λ v. seen_depth s s' v) vs + 1
  seen_depth (set_of z h s) (set_of z' h' s') (bag vs) = most_of (λ v. seen_depth s s' v) vs + 1
  seen_depth (sequence cs e adds) (sequence cs' e' adds') (fields ps qs) =
      max (seen_depth_of_parts cs cs' ps) (seen_depth_of_parts adds adds' qs) + 1
  seen_depth (set cs e adds) (set cs' e' adds') (fields ps qs) =
      max (seen_depth_of_parts cs cs' ps) (seen_depth_of_parts adds adds' qs) + 1
  seen_depth (group cs) (group cs') (fields ps qs) = max (seen_depth_of_parts cs cs' ps) (depth_of_parts qs) + 1
  seen_depth (choice roots e adds) (choice roots' e' adds') (chosen false i v) =
      seen_depth_of_alternative roots roots' i v + 1
  seen_depth (choice roots e adds) (choice roots' e' adds') (chosen true i v) =
      seen_depth_of_alternative adds adds' i v + 1
  seen_depth s s' v = depth v

  -- The deepest of the parts that are present and that the older version knows.
  pub seen_depth_of_parts : Components → Components → Parts → ℕ
  seen_depth_of_parts (component t o s cs) (component t' o' s' cs') (present v ps) =
      max (seen_depth s s' v) (seen_depth_of_parts cs cs' ps)
  seen_depth_of_parts (component t o s cs) (component t' o' s' cs') (absent ps) = seen_depth_of_parts cs cs' ps
  seen_depth_of_parts cs cs' ps = 0

  pub seen_depth_of_alternative : Alternatives → Alternatives → ℕ → Value → ℕ
  seen_depth_of_alternative (alternative t s others) (alternative t' s' others') zero v = seen_depth s s' v
  seen_depth_of_alternative (alternative t s others) (alternative t' s' others') (suc i) v =
      seen_depth_of_alternative others others' i v
  seen_depth_of_alternative others others' i v = 0
