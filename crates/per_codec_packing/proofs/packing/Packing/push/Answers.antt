use Rattle.std.proofs.Common.{[], ◌∷◌}
use Rattle.per_codec_packing.proofs.Kept.{with_bits, bits_added}
use Rattle.per_codec_packing.proofs.packing.Packing.push.Goals as goal

pub invariant_of-self-2 : goal.invariant_of-self-2
invariant_of-self-2 c = with_bits c.self.inside.bits c.self.inside.paddings.items c.self.inside.is_placed c.self.invariant (c.args.bit ∷ []) c.push.new.self c.in_ok-push.ensures.ok

pub returns-clause-ok : goal.returns-clause-ok
returns-clause-ok c = bits_added c.self.inside.bits c.self.inside.paddings.items c.self.inside.is_placed c.self.invariant c.args.self.now
    c.self.view_is (c.args.bit ∷ []) c.push.new.self c.in_ok-push.ensures.ok
