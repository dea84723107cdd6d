-- Types without SET OF (X.680 28).
use Rattle.std.specs.Prelude.{Bool, true, false, ◌&&◌}
use Rattle.asn1_model.specs.Schema.{Schema, sequence_of, set_of, sequence, set, group, choice}
use Rattle.asn1_model.specs.Schema.{Components, no_component, component, Alternatives, no_alternative, alternative}

abbrev mutual
  -- Whether a type contains no SET OF.
  pub has_no_bag : Schema → Bool
  has_no_bag (sequence_of z h s) = has_no_bag s
  has_no_bag (set_of z h s) = false
  has_no_bag (sequence cs e adds) = have_no_bag cs && have_no_bag adds
  has_no_bag (set cs e adds) = have_no_bag cs && have_no_bag adds
  has_no_bag (group cs) = have_no_bag cs
  has_no_bag (choice roots e adds) = are_no_bags roots && are_no_bags adds
  has_no_bag s = true

  -- Whether components contain no SET OF.
  pub have_no_bag : Components → Bool
  have_no_bag no_component = true
  have_no_bag (component t o s cs) = has_no_bag s && have_no_bag cs

  -- Whether alternatives contain no SET OF.
  pub are_no_bags : Alternatives → Bool
  are_no_bags no_alternative = true
  are_no_bags (alternative t s others) = has_no_bag s && are_no_bags others
