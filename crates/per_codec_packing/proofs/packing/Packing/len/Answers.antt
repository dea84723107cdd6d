use Rattle.std.proofs.Common.{length, ap, sym, ◌∙◌}
use Rattle.per_codec_packing.proofs.Kept.{bits_alone}
use Rattle.per_codec_packing.proofs.packing.Packing.len.Goals as goal

pub returns-clause-bits : goal.returns-clause-bits
returns-clause-bits c = c.len.ensures ∙ ap length (sym (bits_alone c.self.inside.bits c.self.inside.paddings.items c.self.inside.is_placed c.self.invariant c.args.self.now c.self.view_is))
