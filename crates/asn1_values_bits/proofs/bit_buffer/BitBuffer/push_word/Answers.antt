use Rattle.std.proofs.Common.{◌∙◌, arith}
use Rattle.std.proofs.lemmas.Result.{on_ok_weaker}
use Rattle.asn1_values_bits.proofs.Kept.{masked}
use Rattle.asn1_values_bits.proofs.bit_buffer.BitBuffer.push_word.Goals as goal

pub returns-then-width-le8-clause-ok : goal.returns-then-width-le8-clause-ok
returns-then-width-le8-clause-ok c = on_ok_weaker c.push_few.result (λ e. e ∙ masked c.args.self.now c.args.width c.args.value (omega (arith, c.if-width-le8.true))) c.push_few.ensures.ok
