-- Types that leave a strict reader no freedom.
use Rattle.std.specs.Prelude.{Bool, true, false, not, ◌&&◌}
use Rattle.asn1_model.specs.Schema.{Schema, sequence_of, set_of, sequence, set, group, choice, Components, no_component}
use Rattle.asn1_model.specs.Schema.{component, Alternatives, no_alternative, alternative}

unfoldable mutual
  -- Whether a type contains no SET OF and no SEQUENCE or SET with an extension marker, at any depth.
  pub is_rigid : Schema → Bool
  is_rigid (sequence_of z held s) = is_rigid s
  is_rigid (set_of z held s) = false
  is_rigid (sequence cs e adds) = not e && are_rigid cs
  is_rigid (set cs e adds) = not e && are_rigid cs
  is_rigid (group cs) = are_rigid cs
  is_rigid (choice roots e adds) = are_rigid_alternatives roots && are_rigid_alternatives adds
  is_rigid s = true

  -- Whether the types of all components are rigid.
  pub are_rigid : Components → Bool
  are_rigid no_component = true
  are_rigid (component t o s cs) = is_rigid s && are_rigid cs

  -- Whether the types of all alternatives are rigid.
  pub are_rigid_alternatives : Alternatives → Bool
  are_rigid_alternatives no_alternative = true
  are_rigid_alternatives (alternative t s others) = is_rigid s && are_rigid_alternatives others
