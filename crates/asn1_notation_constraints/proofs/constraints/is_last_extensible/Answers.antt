use Rattle.std.proofs.Common.{arith}
use Rattle.asn1_notation_constraints.proofs.Turns.{last_read}
use Rattle.asn1_notation_constraints.proofs.constraints.is_last_extensible.Goals as goal

pub returns-in-len1-up : goal.returns-in-len1-up
returns-in-len1-up c =
    last_read c.args.parts.now c.args.constraints.now c.index-parts-last.result c.requires (omega (arith, c.in-len1-up.len_at_least)) c.index-parts-last.is
