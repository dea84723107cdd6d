use Rattle.std.proofs.lemmas.Result.{on_err_weaker}
use Rattle.asn1_values_bits.specs.BitStr.{bits_of}
use Rattle.asn1_values_bits.proofs.Refused.{cut_off, cut_through}
use Rattle.asn1_values_bits.proofs.bit_buffer.BitBuffer.extend_shifted.Goals as goal

pub returns-clause-err : goal.returns-clause-err
returns-clause-err c =
    cut_off c.extend_whole-extended.result c.cut_if_refused.result c.args.self.now c.extend_whole-extended.new.self c.cut_if_refused.new.self
    c.len-before.result c.cut_if_refused.ensures.same c.cut_if_refused.ensures.err
    (on_err_weaker c.extend_whole-extended.result
    (cut_through c.args.self.now c.push_view-2.new.self c.extend_whole-extended.new.self (bits_of c.split_at.result.0) c.len-before.result c.len-before.ensures c.in_ok-push_view.ensures.ok)
    c.extend_whole-extended.ensures.err)
