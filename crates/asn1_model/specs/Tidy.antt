-- Tests for types and values in normal form: a value passes exactly if it is its own normal form. Laws and the tables
-- of types compute with these tests; the definitions of what is written and read do not use them.
use Rattle.std.specs.Prelude.{ℕ, zero, suc, Bool, true, false, ◌&&◌, not, IsTrue}
use Rattle.asn1_model.specs.Value.{Value, members, bag, fields, chosen, Parts, absent, present, are_all}
use Rattle.asn1_model.specs.Schema.{Presence, by_default, Schema, sequence_of, set_of, sequence, set, group, choice}
use Rattle.asn1_model.specs.Schema.{Components, no_component, component, Alternatives, no_alternative, alternative}
use Rattle.asn1_model.specs.Normal.{is_at_default, is_group_left_out}

unfoldable mutual
  -- Whether a value has nothing that the normal form leaves out.
  pub is_normal : Schema → Value → Bool
  is_normal (sequence_of z h s) (members vs) = are_all (λ v. is_normal s v) vs
  is_normal (set_of z h s) (bag vs) = are_all (λ v. is_normal s v) vs
  is_normal (sequence cs e adds) (fields ps qs) = are_normal cs ps && are_normal adds qs
  is_normal (set cs e adds) (fields ps qs) = are_normal cs ps && are_normal adds qs
  is_normal (group cs) (fields ps qs) = are_normal cs ps
  is_normal (choice roots e adds) (chosen false i v) = is_normal_alternative roots i v
  is_normal (choice roots e adds) (chosen true i v) = is_normal_alternative adds i v
  is_normal s v = true

  pub are_normal : Components → Parts → Bool
  are_normal (component t o s cs) (present v ps) =
      not (is_at_default o s v) && not (is_group_left_out s v) && is_normal s v && are_normal cs ps
  are_normal (component t o s cs) (absent ps) = are_normal cs ps
  are_normal cs ps = true

  pub is_normal_alternative : Alternatives → ℕ → Value → Bool
  is_normal_alternative (alternative t s others) zero v = is_normal s v
  is_normal_alternative (alternative t s others) (suc i) v = is_normal_alternative others i v
  is_normal_alternative no_alternative i v = true

-- Whether a default is in normal form. It is one abstract value however it is written (X.680 25), so this excludes no
-- type.
abbrev pub has_normal_default : Schema → Presence → Bool
has_normal_default s (by_default d) = is_normal s d
has_normal_default s o = true

unfoldable mutual
  -- Whether each default in a type is in normal form. If one is not, two unfoldings of a recursive type may differ.
  pub is_tidy : Schema → Bool
  is_tidy (sequence_of z h s) = is_tidy s
  is_tidy (set_of z h s) = is_tidy s
  is_tidy (sequence cs e adds) = are_tidy cs && are_tidy adds
  is_tidy (set cs e adds) = are_tidy cs && are_tidy adds
  is_tidy (group cs) = are_tidy cs
  is_tidy (choice roots e adds) = are_tidy_alternatives roots && are_tidy_alternatives adds
  is_tidy s = true

  pub are_tidy : Components → Bool
  are_tidy no_component = true
  are_tidy (component t o s cs) = has_normal_default s o && is_tidy s && are_tidy cs

  pub are_tidy_alternatives : Alternatives → Bool
  are_tidy_alternatives no_alternative = true
  are_tidy_alternatives (alternative t s others) = is_tidy s && are_tidy_alternatives others

-- `is_tidy` as a proposition.
abbrev pub IsTidy : Schema → Type 0
IsTidy s = IsTrue (is_tidy s)
