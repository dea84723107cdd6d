use Rattle.std.proofs.Common.{◌≡◌, ◌++◌, ◌∙◌, ap}
use Rattle.asn1_model.specs.Numbers.{octet_bits}
use Rattle.per_codec_packing.proofs.Kept.{one_octet, with_bits, bits_added}
use Rattle.per_codec_packing.proofs.packing.Packing.extend_from_bytes.Goals as goal

pub invariant_of-self-then-bytes-eq1 : goal.invariant_of-self-then-bytes-eq1
invariant_of-self-then-bytes-eq1 c = with_bits c.self.inside.bits c.self.inside.paddings.items c.self.inside.is_placed c.self.invariant _ c.push_bits.new.self c.in_ok-push_bits.ensures.ok

pub returns-then-bytes-eq1-clause-ok : goal.returns-then-bytes-eq1-clause-ok
returns-then-bytes-eq1-clause-ok c =
    let bits = octet_bits c.args.bytes.now in
    let added : c.push_bits.new.self ≡ c.self.inside.bits ++ bits = c.in_ok-push_bits.ensures.ok ∙ ap (λ l. c.self.inside.bits ++ l) (one_octet c.args.bytes.now 0 c.if-bytes-eq1.true) in
    bits_added c.self.inside.bits c.self.inside.paddings.items c.self.inside.is_placed c.self.invariant c.args.self.now c.self.view_is bits c.push_bits.new.self added

pub invariant_of-self-2 : goal.invariant_of-self-2
invariant_of-self-2 c = with_bits c.self.inside.bits c.self.inside.paddings.items c.self.inside.is_placed c.self.invariant
    (octet_bits c.args.bytes.now) c.extend_from_bytes.new.self c.in_ok-extend_from_bytes.ensures.ok

pub returns-clause-ok : goal.returns-clause-ok
returns-clause-ok c = bits_added c.self.inside.bits c.self.inside.paddings.items c.self.inside.is_placed c.self.invariant c.args.self.now
    c.self.view_is (octet_bits c.args.bytes.now) c.extend_from_bytes.new.self c.in_ok-extend_from_bytes.ensures.ok
