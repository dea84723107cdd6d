use Rattle.std.proofs.Common.{◌≡◌, length, arith, ap, ◌∙◌}
use Rattle.std.proofs.lemmas.List.{nil_from_length}
use Rattle.asn1_values_bits.proofs.Kept.{kept_length}
use Rattle.asn1_values_bits.proofs.bit_buffer.BitBuffer.is_empty.Goals as goal

pub returns : goal.returns
returns c =
    let n : length c.args.self.now ≡ c.self.inside.len = kept_length c.self.inside.len c.self.inside.octets.items c.args.self.now c.self.invariant c.self.view_is in
    (λ h. let z : c.self.inside.len ≡ 0 = grind arith in nil_from_length c.args.self.now (n ∙ z), λ e. let z : c.self.inside.len ≡ 0 = omega (arith, ap length e, n) in grind arith)
