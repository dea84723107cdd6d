use Rattle.std.proofs.Common.{◌≡◌, ◌≤◌, ◌^◌, ◌*◌, ◌%◌, arith}
use Rattle.std.proofs.lemmas.Nat.{one_shl}
use Rattle.std.proofs.lemmas.Int.{ints}
use Rattle.std.proofs.Math.Nat.{pow-le-pow_right}
use Rattle.asn1_values_bits.proofs.bits.range_from_len.Goals as goal

pub overflow_cast-result-2 : goal.overflow_cast-result-2
overflow_cast-result-2 c =
    let e : 1 * 2 ^ c.args.bit_length % 2 ^ 128 ≡ 2 ^ c.args.bit_length = one_shl c.args.bit_length 128 (omega arith) in
    let small : 2 ^ c.args.bit_length ≤ 2 ^ 126 = pow-le-pow_right {n = 2} (omega arith) {i = c.args.bit_length} {j = 126} (omega arith) in
    rw e (omega (arith, ints))

pub returns : goal.returns
returns c =
    let e : 1 * 2 ^ c.args.bit_length % 2 ^ 128 ≡ 2 ^ c.args.bit_length = one_shl c.args.bit_length 128 (omega arith) in
    let small : 2 ^ c.args.bit_length ≤ 2 ^ 126 = pow-le-pow_right {n = 2} (omega arith) {i = c.args.bit_length} {j = 126} (omega arith) in
    rw e (omega (arith, ints))
