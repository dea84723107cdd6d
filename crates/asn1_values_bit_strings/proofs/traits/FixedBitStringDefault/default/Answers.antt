use Rattle.std.proofs.Common.{◌∙◌}
use Rattle.asn1_values_bit_strings.proofs.Fixing.{zeros_first}
use Rattle.asn1_values_bit_strings.proofs.traits.FixedBitStringDefault.default.Goals as goal

pub returns : goal.returns
returns g c = c.new.ensures ∙ zeros_first g.row.N
