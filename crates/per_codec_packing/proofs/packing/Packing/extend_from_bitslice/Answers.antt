use Rattle.asn1_values_bits.specs.BitStr.{bits_of}
use Rattle.per_codec_packing.proofs.Kept.{with_bits, bits_added}
use Rattle.per_codec_packing.proofs.packing.Packing.extend_from_bitslice.Goals as goal

pub invariant_of-self-2 : goal.invariant_of-self-2
invariant_of-self-2 c = with_bits c.self.inside.bits c.self.inside.paddings.items c.self.inside.is_placed c.self.invariant (bits_of c.args.bits)
    c.extend_from_bitslice.new.self c.in_ok-extend_from_bitslice.ensures.ok

pub returns-clause-ok : goal.returns-clause-ok
returns-clause-ok c = bits_added c.self.inside.bits c.self.inside.paddings.items c.self.inside.is_placed c.self.invariant c.args.self.now
    c.self.view_is (bits_of c.args.bits) c.extend_from_bitslice.new.self c.in_ok-extend_from_bitslice.ensures.ok
