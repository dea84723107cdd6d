use Rattle.std.proofs.Common.{◌≡◌, ℕ, ◌+◌, ◌%◌, ◌^◌, ◌<◌, take, ap, ◌∙◌, subst, arith}
use Rattle.std.proofs.lemmas.Nat.{one_shl}
use Rattle.asn1_model.specs.Per
use Rattle.asn1_values_bits.specs.BitStr.{bits_of}
use Rattle.per_codec_reading.proofs.NumberFronts.{plain_read}
use Rattle.per_codec_reading.proofs.numbers.take_plain.Goals as goal

pub returns-clause-stands : goal.returns-clause-stands
returns-clause-stands c =
    let p : ℕ = c.free_bits-padding.result in
    let w : ℕ = c.args.bits + p in
    let n : ℕ = c.first_number-both.result in
    let m = c.free_bits-padding.ensures in
    let few : p < 64 = omega arith in
    let s : c.in_ok-checked_add.field-0 ≡ c.args.cursor.now.0 + c.args.bits = c.in_ok-checked_add.ensures.1 ∙ ap (λ x. x + c.args.bits) c.position.ensures in
    let e : p ≡ Per.missing (c.args.cursor.now.0 + c.args.bits) = m ∙ ap Per.missing s in
    let zero : n % 2 ^ p ≡ 0 = subst (λ x. n % x ≡ 0) (one_shl p 64 few) c.if-both-padding-ne0.false in
    λ free. plain_read free c.args.bits p c.args.most n c.args.cursor.now c.take.new.self (bits_of c.in-Ok._bits) e
    (c.first_number-both.ensures.digits ∙ ap (take w) c.bits.ensures) c.first_number-both.ensures.fits c.in-Ok.ensures.count c.in-Ok.ensures.bits c.if-number-most.false zero
