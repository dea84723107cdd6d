use Rattle.std.proofs.Common.{◌%◌, ap, sym, ◌∙◌}
use Rattle.per_codec_packing.proofs.Kept.{at_octet}
use Rattle.per_codec_packing.proofs.packing.Packing.push_padding.Goals as goal

pub returns-then-len-eq0-clause-ok : goal.returns-then-len-eq0-clause-ok
returns-then-len-eq0-clause-ok c = at_octet c.self.inside.bits c.self.inside.paddings.items c.self.inside.is_placed c.self.invariant c.args.self.now
    c.self.view_is c.if-self.true (ap (λ n. n % 8) (sym c.len.ensures) ∙ c.if-len-eq0.true)
