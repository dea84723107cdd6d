-- Two versions of a type: the newer has further additions, alternatives and items after its extension markers, and is
-- otherwise as the older one (X.680 52).
use Rattle.std.specs.Prelude.{◌≡◌, ℕ, zero, suc, Bool, true, false, cond, ◌||◌, List, ◌++◌, All, Contains, Option, Some}
use Rattle.std.specs.Prelude.{None, is_some, option_map, option_and_then}
use Rattle.asn1_model.specs.Value.{Value, item, members, bag, fields, chosen, Values, no_more, member, Parts, end}
use Rattle.asn1_model.specs.Value.{absent, present, same}
use Rattle.asn1_model.specs.Schema.{Presence, required, optional, by_default, Schema, cut, boolean, null, integer}
use Rattle.asn1_model.specs.Schema.{enumerated, bit_string, octet_string, character_string, object_identifier}
use Rattle.asn1_model.specs.Schema.{sequence_of, set_of, sequence, set, group, choice, Components, no_component}
use Rattle.asn1_model.specs.Schema.{component, Alternatives, no_alternative, alternative}
use Rattle.asn1_model.specs.Normal.{normal, item_index}

abbrev pub map_each : (Value → Option Value) → Values → Option Values
map_each f no_more = Some no_more
map_each f (member v vs) = option_and_then (λ w. option_map (λ ws. member w ws) (map_each f vs)) (f v)

-- All parts absent; None if one of them is required.
abbrev pub all_absent : Components → Option Parts
all_absent no_component = Some end
all_absent (component t required s cs) = None
all_absent (component t o s cs) = option_map absent (all_absent cs)

-- Root and additions, if both exist.
abbrev pub both_parts : Option Parts → Option Parts → Option Value
both_parts (Some ps) (Some qs) = Some (fields ps qs)
both_parts ps qs = None

unfoldable mutual
  -- A value of the older version as one of the newer (true), or of the newer one as one of the older (false). To the
  -- newer one: None if a part that only it has is required in a SEQUENCE or SET that is present. To the older one:
  -- None if it lacks an alternative or an item that is not inside a part that is left out.
  pub carried : Bool → Schema → Schema → Value → Option Value
  carried false (enumerated roots e adds) (enumerated roots' e' adds') (item v) =
      cond (is_some (item_index v roots) || is_some (item_index v adds)) (Some (item v)) None
  carried newer (sequence_of z h s) (sequence_of z' h' s') (members vs) =
      option_map members (map_each (λ v. carried newer s s' v) vs)
  carried newer (set_of z h s) (set_of z' h' s') (bag vs) = option_map bag (map_each (λ v. carried newer s s' v) vs)
  carried newer (sequence cs e adds) (sequence cs' e' adds') (fields ps qs) =
      both_parts (carried_parts newer cs cs' ps) (carried_parts newer adds adds' qs)
  carried newer (set cs e adds) (set cs' e' adds') (fields ps qs) =
      both_parts (carried_parts newer cs cs' ps) (carried_parts newer adds adds' qs)
  carried newer (group cs) (group cs') (fields ps qs) = both_parts (carried_parts newer cs cs' ps) (Some qs)
  carried newer (choice roots e adds) (choice roots' e' adds') (chosen false i v) =
      option_map (λ w. chosen false i w) (carried_alternative newer roots roots' i v)
  carried newer (choice roots e adds) (choice roots' e' adds') (chosen true i v) =
      option_map (λ w. chosen true i w) (carried_alternative newer adds adds' i v)
  carried newer s s' v = Some v

  -- The parts that only the newer version has are absent in its value, and do not exist in the older one.
  pub carried_parts : Bool → Components → Components → Parts → Option Parts
  carried_parts newer (component t o s cs) (component t' o' s' cs') (present v ps) =
      option_and_then (λ w. option_map (λ qs. present w qs) (carried_parts newer cs cs' ps)) (carried newer s s' v)
  carried_parts newer (component t o s cs) (component t' o' s' cs') (absent ps) =
      option_map absent (carried_parts newer cs cs' ps)
  carried_parts false no_component cs' ps = Some end
  carried_parts true no_component cs' end = all_absent cs'
  carried_parts newer cs cs' ps = None

  pub carried_alternative : Bool → Alternatives → Alternatives → ℕ → Value → Option Value
  carried_alternative newer (alternative t s others) (alternative t' s' others') zero v = carried newer s s' v
  carried_alternative newer (alternative t s others) (alternative t' s' others') (suc i) v =
      carried_alternative newer others others' i v
  carried_alternative newer others others' i v = None

-- A value of the older version as one of the newer: the parts that only the newer one has are absent.
abbrev pub grow : Schema → Schema → Value → Option Value
grow old new v = carried true old new v

-- The normal form of a value of the newer version, without the parts that the older one lacks.
abbrev pub drop : Schema → Schema → Value → Option Value
drop old new v = carried false old new (normal new v)

-- The loss leaves a part that the older version knows at its default, or a group empty, so that the result is not in
-- normal form.
abbrev pub IsClash : Schema → Schema → Value → Type 0
IsClash old new v = (w : Value) × (drop old new v ≡ Some w) × ¬ (normal old w ≡ w)

-- The elements of the first are the first of the second.
abbrev pub Begins : {X : Type 0} → List X → List X → Type 0
Begins {X} xs ys = (zs : List X) × (xs ++ zs ≡ ys)

-- Both required, both optional, or both with the same default: the default of the older version, carried over, is the
-- same value as that of the newer, whatever the order of a SET OF in it, and whether or not it encodes components at
-- their own defaults (X.680 25).
abbrev pub KeepsPresence : Schema → Schema → Presence → Presence → Type 0
KeepsPresence s s' required required = Unit {0}
KeepsPresence s s' optional optional = Unit {0}
KeepsPresence s s' (by_default d) (by_default d') =
    (w : Value) × (grow s s' (normal s d) ≡ Some w) × (same w (normal s' d') ≡ true)
KeepsPresence s s' o o' = ⊥

unfoldable mutual
  -- The second type is a newer version of the first: the same kinds, bounds, sizes, alphabets, extension markers and
  -- root tables, with further additions, items and alternatives only after extension markers.
  pub Extends : Schema → Schema → Type 0
  Extends cut cut = Unit {0}
  Extends boolean boolean = Unit {0}
  Extends null null = Unit {0}
  Extends (integer b h) (integer b' h') = (b ≡ b') × (h ≡ h')
  Extends (enumerated roots e adds) (enumerated roots' e' adds') = (roots ≡ roots') × (e ≡ e') × Begins adds adds'
  Extends (bit_string z h) (bit_string z' h') = (z ≡ z') × (h ≡ h')
  Extends (octet_string z h) (octet_string z' h') = (z ≡ z') × (h ≡ h')
  Extends (character_string k z a h) (character_string k' z' a' h') = (k ≡ k') × (z ≡ z') × (a ≡ a') × (h ≡ h')
  Extends object_identifier object_identifier = Unit {0}
  Extends (sequence_of z h s) (sequence_of z' h' s') = (z ≡ z') × (h ≡ h') × Extends s s'
  Extends (set_of z h s) (set_of z' h' s') = (z ≡ z') × (h ≡ h') × Extends s s'
  Extends (sequence cs e adds) (sequence cs' e' adds') = ExtendsEach false cs cs' × (e ≡ e') × ExtendsEach e adds adds'
  Extends (set cs e adds) (set cs' e' adds') = ExtendsEach false cs cs' × (e ≡ e') × ExtendsEach e adds adds'
  Extends (group cs) (group cs') = ExtendsEach false cs cs'
  Extends (choice roots e adds) (choice roots' e' adds') =
      ExtendsAlternatives false roots roots' × (e ≡ e') × ExtendsAlternatives e adds adds'
  Extends s s' = ⊥

  -- One by one, followed by further ones if these are allowed. Each tag of the older version is one of the newer: an
  -- untagged CHOICE and a group gain the tags of what they gain, at any position.
  pub ExtendsEach : Bool → Components → Components → Type 0
  ExtendsEach more no_component no_component = Unit {0}
  ExtendsEach true no_component (component t' o' s' cs') = Unit {0}
  ExtendsEach more (component t o s cs) (component t' o' s' cs') =
      All (Contains t') t × KeepsPresence s s' o o' × Extends s s' × ExtendsEach more cs cs'
  ExtendsEach more cs cs' = ⊥

  -- The same for alternatives, whose tags are equal.
  pub ExtendsAlternatives : Bool → Alternatives → Alternatives → Type 0
  ExtendsAlternatives more no_alternative no_alternative = Unit {0}
  ExtendsAlternatives true no_alternative (alternative t' s' others') = Unit {0}
  ExtendsAlternatives more (alternative t s others) (alternative t' s' others') =
      (t ≡ t') × Extends s s' × ExtendsAlternatives more others others'
  ExtendsAlternatives more others others' = ⊥
