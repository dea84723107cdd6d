use Rattle.std.proofs.Common.{◌≡◌, ◌+◌, ◌-◌, ◌*◌, ◌/◌, ◌%◌, ◌^◌, ◌++◌, ℕ, bit_and, length, take, drop, ap, ◌∙◌, arith, length-append}
use Rattle.std.proofs.lemmas.List.{length-take-le, length-drop}
use Rattle.std.proofs.lemmas.Nat.{one_shl, and_mask}
use Rattle.asn1_model.specs.Numbers.{binary}
use Rattle.asn1_values_bits.proofs.Binary.{length-binary, binary_low}
use Rattle.asn1_values_bits.proofs.Putting.{put_on}
use Rattle.asn1_values_bits.proofs.bit_buffer.BitBuffer.put_word.Goals as goal

pub overflow_shr-value : goal.overflow_shr-value
overflow_shr-value c = omega (arith, c.min-few.ensures)

pub overflow_add-place : goal.overflow_add-place
overflow_add-place c = record { fits = omega (arith, c.min-few.ensures) }

pub loop-left-preserved : goal.loop-left-preserved
loop-left-preserved c =
    let few : ℕ = c.min-few.result in
    let left : ℕ = c.loop-left.left in
    let piece : ℕ = c.args.value / 2 ^ (left - few) in
    let masked : binary few (bit_and piece (1 * 2 ^ few % 2 ^ 64 - 1)) ≡ binary few piece =
    ap (λ k. binary few (bit_and piece (k - 1))) (one_shl few 64 (omega (arith, c.min-few.ensures))) ∙ ap (binary few) (and_mask piece few) ∙ binary_low few piece in
    let new_is : c.put_few.new.self ≡ take c.loop-left.place c.loop-left.self ++ (binary few piece ++ drop (c.loop-left.place + few) c.loop-left.self) =
    c.put_few.ensures ∙ ap (λ k. take c.loop-left.place c.loop-left.self ++ (k ++ drop (c.loop-left.place + few) c.loop-left.self)) masked in
    record {
      place_is = omega (arith, c.min-few.ensures);
      part = omega arith;
      size = ap length new_is ∙ length-append (take c.loop-left.place c.loop-left.self) (binary few piece ++ drop (c.loop-left.place + few) c.loop-left.self)
          ∙ (omega (
            arith,
            c.min-few.ensures,
            length-append (binary few piece) (drop (c.loop-left.place + few) c.loop-left.self),
            length-binary few
                piece,
            length-drop (c.loop-left.place + few) c.loop-left.self,
            length-take-le c.loop-left.place c.loop-left.self (omega arith),
          ));
      written = put_on c.loop-left.self c.args.self.now c.put_few.new.self _ c.loop-left.place few left c.args.value (c.args.at + c.args.width)
          (omega (arith, c.min-few.ensures)) c.loop-left.invariant.place_is (omega arith) new_is c.loop-left.invariant.written;
    }
