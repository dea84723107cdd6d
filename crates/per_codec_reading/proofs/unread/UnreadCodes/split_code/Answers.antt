use Rattle.std.proofs.Common.{◌≡◌, ◌+◌, ◌-◌, ◌*◌, ◌/◌, ◌%◌, ◌^◌, ℕ, [], ◌++◌, bit_and, arith}
use Rattle.asn1_model.specs.Numbers.{binary}
use Rattle.asn1_values_bits.specs.BitStr.{bits_of}
use Rattle.asn1_values_bits.proofs.Kept.{next_digits}
use Rattle.per_codec_reading.proofs.CodesAhead.{code_digits, codes_behind}
use Rattle.per_codec_reading.proofs.unread.UnreadCodes.split_code.Goals as goal

pub returns-clause-digits : goal.returns-clause-digits
returns-clause-digits c =
    let w : ℕ = c.args.width in
    let d : ℕ = c.args.self.due in
    let n : ℕ = c.args.self.number in
    let code : ℕ = bit_and (n / 2 ^ ((d - 1) * w)) (1 * 2 ^ w % 2 ^ 64 - 1) in
    let e : binary w code ++ binary ((d - 1) * w) n ≡ binary (w + (d - 1) * w) n = next_digits 64 [] ((d - 1) * w) w n (omega (arith, c.requires.narrow)) in
    code_digits w d n code (bits_of c.args.self.rest) c.requires.due e

pub returns-clause-rest : goal.returns-clause-rest
returns-clause-rest c =
    let w : ℕ = c.args.width in
    let d : ℕ = c.args.self.due in
    let n : ℕ = c.args.self.number in
    let code : ℕ = bit_and (n / 2 ^ ((d - 1) * w)) (1 * 2 ^ w % 2 ^ 64 - 1) in
    let e : binary w code ++ binary ((d - 1) * w) n ≡ binary (w + (d - 1) * w) n = next_digits 64 [] ((d - 1) * w) w n (omega (arith, c.requires.narrow)) in
    codes_behind w d n code (bits_of c.args.self.rest) c.requires.due e
