use Rattle.std.proofs.Common.{ap, ◌∙◌, take}
use Rattle.std.proofs.lemmas.Result.{on_err_weaker}
use Rattle.asn1_model.specs.Numbers.{binary}
use Rattle.asn1_values_bits.proofs.Binary.{length-binary}
use Rattle.asn1_values_bits.proofs.Kept.{first_of}
use Rattle.asn1_values_bits.proofs.Refused.{cut_off}
use Rattle.asn1_values_bits.proofs.bit_buffer.BitBuffer.push_many.Goals as goal

pub returns-clause-err : goal.returns-clause-err
returns-clause-err c =
    cut_off c.push_whole-pushed.result c.cut_if_refused.result c.args.self.now c.push_whole-pushed.new.self c.cut_if_refused.new.self
    c.len-before.result c.cut_if_refused.ensures.same c.cut_if_refused.ensures.err
    (on_err_weaker c.push_whole-pushed.result
    (λ e. ap (take c.len-before.result) e ∙ first_of c.args.self.now c.fill_octet.new.self (binary c.in_ok-left.left c.args.value)
    (binary c.args.width c.args.value) c.len-before.result c.in_ok-left.left c.args.width c.len-before.ensures c.in_ok-left.ensures.bits
    (length-binary c.in_ok-left.left c.args.value) (length-binary c.args.width c.args.value) c.in_ok-left.ensures.fewer)
    c.push_whole-pushed.ensures.err)
