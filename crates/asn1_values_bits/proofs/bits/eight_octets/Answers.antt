use Rattle.asn1_values_bits.proofs.Window.{eight_read, eight_small}
use Rattle.asn1_values_bits.proofs.bits.eight_octets.Goals as goal

pub returns : goal.returns
returns c = eight_read c.args.octets.now c.args.start c.from_be_bytes.result c.requires (eight_small c.args.octets.now c.args.start c.type_inv.octets) c.from_be_bytes.ensures
