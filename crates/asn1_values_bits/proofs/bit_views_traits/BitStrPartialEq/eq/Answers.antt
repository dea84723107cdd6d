use Rattle.std.proofs.Common.{◌∙◌, sym, ap}
use Rattle.std.specs.Ordering.{is_eq}
use Rattle.asn1_values_bits.specs.BitStr.{bits_of}
use Rattle.asn1_values_bits.specs.BitOrder.{bits_ties}
use Rattle.asn1_values_bits.proofs.bit_views_traits.BitStrPartialEq.eq.Goals as goal

pub returns : goal.returns
returns c = c.is_eq.ensures ∙ ap is_eq c.compare.ensures ∙ sym (bits_ties (bits_of c.args.self.now) (bits_of c.args.other.now))
