use Rattle.std.proofs.Common.{◌<◌, length, subst}
use Rattle.per_codec_packing.proofs.Kept.{with_set, bits_alone, changed}
use Rattle.per_codec_packing.proofs.packing.Packing.set.Goals as goal

pub set-requires : goal.set-requires
set-requires c = subst (λ l. c.args.index < length l) (bits_alone c.self.inside.bits c.self.inside.paddings.items c.self.inside.is_placed c.self.invariant c.args.self.now c.self.view_is) c.requires

pub invariant_of-self : goal.invariant_of-self
invariant_of-self c = with_set c.self.inside.bits c.self.inside.paddings.items c.self.inside.is_placed c.self.invariant c.args.index c.args.bit c.set.new.self c.set.ensures

pub returns : goal.returns
returns c = changed c.self.inside.bits c.self.inside.paddings.items c.self.inside.is_placed c.self.invariant c.args.self.now c.self.view_is c.args.index c.args.bit c.set.new.self c.set.ensures
