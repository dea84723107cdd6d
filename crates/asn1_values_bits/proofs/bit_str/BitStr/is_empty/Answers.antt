use Rattle.std.proofs.Common.{◌≡◌, length, arith, ap, ◌∙◌}
use Rattle.std.proofs.lemmas.List.{nil_from_length}
use Rattle.asn1_values_bits.specs.BitStr.{bits_of}
use Rattle.asn1_values_bits.proofs.Views.{length-bits_of}
use Rattle.asn1_values_bits.proofs.bit_str.BitStr.is_empty.Goals as goal

pub returns : goal.returns
returns c =
    let n : length (bits_of c.args.self.now) ≡ c.args.self.now.len = length-bits_of c.args.self.now in
    (λ h. let z : c.args.self.now.len ≡ 0 = grind arith in nil_from_length (bits_of c.args.self.now) (n ∙ z), λ e. let z : c.args.self.now.len ≡ 0 = omega (arith, ap length e, n) in grind arith)
