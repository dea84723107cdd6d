use Rattle.std.proofs.Common.{◌≡◌, ◌*◌, ◌≤◌, ℕ, ◌++◌, refl, ap, ◌∙◌, arith}
use Rattle.asn1_model.specs.Numbers.{binary}
use Rattle.asn1_values_bits.specs.BitStr.{bits_of}
use Rattle.per_codec_reading.proofs.CodesAhead.{few_bits, refilled}
use Rattle.per_codec_reading.proofs.unread.UnreadCodes.filled.Goals as goal

pub overflow_cast-result : goal.overflow_cast-result
overflow_cast-result c =
    let few : c.min-due.result ≤ 8 = omega (arith, c.min-due.ensures) in
    record { fits = few_bits c.min-due.result c.args.width c.first_number.result few c.requires.narrow c.first_number.ensures.fits }

pub returns-clause-same : goal.returns-clause-same
returns-clause-same c =
    let w : ℕ = c.args.width in
    let none : 0 ≡ c.args.self.due = omega (arith, c.if-self-gt0.false) in
    refilled w c.min-due.result (c.min-due.result * w) c.first_number.result c.args.self.number (bits_of c.args.self.rest)
    (bits_of c.split_at.result.1) refl c.first_number.ensures.digits c.split_at.ensures.rest
    ∙ ap (λ k. binary (k * w) c.args.self.number ++ bits_of c.args.self.rest) none
