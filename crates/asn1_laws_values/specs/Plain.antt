-- Plain types: BOOLEAN, INTEGER between two bounds, and SEQUENCE of mandatory components of plain types, all without
-- extension markers.
use Rattle.std.specs.Prelude.{Bool, true, false, not, ◌&&◌}
use Rattle.asn1_model.specs.Value.{Value, truth, number, fields, Parts, end, present}
use Rattle.asn1_model.specs.Schema.{required, Schema, boolean, integer, sequence, Components, no_component, component}
use Rattle.asn1_model.specs.Numbers.{is_within, fits_128}
use Rattle.std.specs.Prelude.{is_some}

unfoldable mutual
  pub is_plain : Schema → Bool
  is_plain boolean = true
  is_plain (integer b held) = is_some b.range.low && is_some b.range.high && not b.extensible
  is_plain (sequence cs false no_component) = are_plain cs
  is_plain s = false

  pub are_plain : Components → Bool
  are_plain no_component = true
  are_plain (component t required s cs) = is_plain s && are_plain cs
  are_plain cs = false

-- whether a value is one of a plain type: a number is within its bounds and within 128 bits
unfoldable mutual
  pub fits : Schema → Value → Bool
  fits boolean (truth b) = true
  fits (integer b held) (number v) = is_within held v && fits_128 v && is_within b.range v
  fits (sequence cs e adds) (fields ps end) = each_fits cs ps
  fits s v = false

  pub each_fits : Components → Parts → Bool
  each_fits no_component end = true
  each_fits (component t o s cs) (present v ps) = fits s v && each_fits cs ps
  each_fits cs ps = false
