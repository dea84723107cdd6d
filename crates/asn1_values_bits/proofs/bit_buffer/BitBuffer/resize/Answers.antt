use Rattle.std.proofs.Common.{◌≡◌, ◌≤◌, ◌-◌, ◌^◌, ◌++◌, ℕ, true, false, arith, ap, sym, ◌∙◌, take, replicate}
use Rattle.std.proofs.lemmas.List.{length-replicate}
use Rattle.std.proofs.lemmas.Result.{IfOk-at_ok, IfErr-at_err}
use Rattle.asn1_model.specs.Numbers.{binary}
use Rattle.asn1_values_bits.proofs.Binary.{binary_same, same_next}
use Rattle.asn1_values_bits.proofs.Kept.{first_of}
use Rattle.asn1_values_bits.proofs.Refused.{though_refused}
use Rattle.asn1_values_bits.proofs.bit_buffer.BitBuffer.resize.Goals as goal
use Rattle.asn1_values_bits.proofs.bit_buffer.BitBuffer.resize.Goals.{then-bit, else-bit}

pub loop-left-preserved : goal.loop-left-preserved
loop-left-preserved c =
    let few : ℕ = c.min-few.result in
    let small : few ≤ 128 = omega (arith, c.min-few.ensures) in
    let added : c.cut_if_refused.new.self ≡ c.loop-left.self ++ binary few c.if-bit.value = c.in_ok-cut_if_refused.ensures.ok ∙
    IfOk-at_ok (λ _. c.push_bits-pushed.new.self ≡ c.loop-left.self ++ binary few c.if-bit.value) (sym c.in_ok-cut_if_refused.ensures.same) c.push_bits-pushed.ensures.ok in
    let ones : c.args.bit ≡ true → c.if-bit.value ≡ 2 ^ 128 - 1 = λ e. elim c.if-bit.branch [ then-bit w ↦ w.value-is | else-bit w ↦ absurd (cc) ] in
    let zeros : c.args.bit ≡ false → c.if-bit.value ≡ 0 = λ e. elim c.if-bit.branch [ then-bit w ↦ absurd (cc) | else-bit w ↦ w.value-is ] in (
      omega arith,
      same_next c.loop-left.self c.cut_if_refused.new.self c.args.bit few c.loop-left.left c.if-bit.value (omega (arith, c.min-few.ensures)) added
          (binary_same few c.if-bit.value c.args.bit small ones zeros) ∙ c.loop-left.invariant.1,
    )

pub returns-in_err-cut_if_refused-clause-err : goal.returns-in_err-cut_if_refused-clause-err
returns-in_err-cut_if_refused-clause-err c =
    though_refused c.from_residual.result (c.in_err-cut_if_refused.ensures.err
    ∙ ap (take c.len-before.result) (IfErr-at_err (λ _. c.push_bits-pushed.new.self ≡ c.loop-left.self) (sym c.in_err-cut_if_refused.ensures.same) c.push_bits-pushed.ensures.err)
    ∙ first_of c.args.self.now c.loop-left.self (replicate c.loop-left.left c.args.bit) (replicate (c.args.len - c.len-before.result) c.args.bit)
    c.len-before.result c.loop-left.left (c.args.len - c.len-before.result) c.len-before.ensures c.loop-left.invariant.1
    (length-replicate c.loop-left.left c.args.bit) (length-replicate (c.args.len - c.len-before.result) c.args.bit) c.loop-left.invariant.0)
