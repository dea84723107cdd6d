use Rattle.std.proofs.Common.{◌∙◌, arith}
use Rattle.std.proofs.lemmas.Result.{on_ok_weaker}
use Rattle.asn1_values_bits.proofs.Kept.{low_half}
use Rattle.asn1_values_bits.proofs.bit_buffer.BitBuffer.push_bits.Goals as goal

pub returns-then-width-le64-clause-ok : goal.returns-then-width-le64-clause-ok
returns-then-width-le64-clause-ok c = on_ok_weaker c.push_word.result (λ e. e ∙ low_half c.args.self.now c.args.width c.args.value (omega (arith, c.if-width-le64.true))) c.push_word.ensures.ok
