use Rattle.std.proofs.Common.{◌≡◌, ◌*◌, arith, sym, ap, ◌∙◌, length, ◌++◌, replicate, false}
use Rattle.std.proofs.lemmas.List.{append-nil}
use Rattle.asn1_model.specs.Numbers.{octet_bits, missing}
use Rattle.asn1_values_bits.proofs.Binary.{length-octet_bits}
use Rattle.asn1_values_bits.proofs.Kept.{keeps, kept_view}
use Rattle.asn1_values_bits.proofs.bit_buffer.BitBuffer.from_vec.Goals as goal

whole : (c : goal.After-len-len) → octet_bits c.args.octets.items ≡ octet_bits c.args.octets.items ++ replicate (missing (c.len-len.result * 8)) false
whole c =
    let z : missing (c.len-len.result * 8) ≡ 0 = omega arith in
    sym (ap (λ k. octet_bits c.args.octets.items ++ replicate k false) z ∙ append-nil (octet_bits c.args.octets.items))

long : (c : goal.After-len-len) → length (octet_bits c.args.octets.items) ≡ c.len-len.result * 8
long c = let ok = c.args.octets.ok in length-octet_bits c.args.octets.items ∙ (omega arith)

pub invariant_of-result : goal.invariant_of-result
invariant_of-result c = keeps (c.len-len.result * 8) c.args.octets.items (octet_bits c.args.octets.items) (long c) (whole c)

pub returns : goal.returns
returns c = kept_view (c.len-len.result * 8) c.args.octets.items (octet_bits c.args.octets.items) (long c) (whole c)
