use Rattle.per_codec_packing.proofs.Kept.{with_bits, grown, bits_added}
use Rattle.per_codec_packing.proofs.packing.Packing.resize.Goals as goal

pub invariant_of-self-2 : goal.invariant_of-self-2
invariant_of-self-2 c =
    let more = grown c.self.inside.bits c.self.inside.paddings.items c.self.inside.is_placed c.self.invariant c.args.self.now c.self.view_is
    c.args.len c.args.bit c.resize.new.self c.requires c.in_ok-resize.ensures.ok in
    with_bits c.self.inside.bits c.self.inside.paddings.items c.self.inside.is_placed c.self.invariant _ c.resize.new.self more

pub returns-clause-ok : goal.returns-clause-ok
returns-clause-ok c =
    let more = grown c.self.inside.bits c.self.inside.paddings.items c.self.inside.is_placed c.self.invariant c.args.self.now c.self.view_is
    c.args.len c.args.bit c.resize.new.self c.requires c.in_ok-resize.ensures.ok in
    bits_added c.self.inside.bits c.self.inside.paddings.items c.self.inside.is_placed c.self.invariant c.args.self.now c.self.view_is _ c.resize.new.self more
