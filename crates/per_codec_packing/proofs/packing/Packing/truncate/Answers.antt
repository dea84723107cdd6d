use Rattle.per_codec_packing.proofs.Cutting.{still_kept, cut_shown}
use Rattle.per_codec_packing.proofs.packing.Packing.truncate.Goals as goal

pub invariant_of-self : goal.invariant_of-self
invariant_of-self c = still_kept c.self.inside.bits c.self.inside.paddings.items c.self.inside.is_placed c.self.invariant c.args.self.now
    c.self.view_is c.args.bits c.args.paddings c.requires.within c.requires.place c.truncate.new.self c.truncate-2.new.self.items c.truncate.ensures c.truncate-2.ensures.items

pub returns : goal.returns
returns c = cut_shown c.self.inside.bits c.self.inside.paddings.items c.self.inside.is_placed c.self.invariant c.args.self.now c.self.view_is
    c.args.bits c.args.paddings c.requires.within c.requires.place c.truncate.new.self c.truncate-2.new.self.items c.truncate.ensures c.truncate-2.ensures.items
