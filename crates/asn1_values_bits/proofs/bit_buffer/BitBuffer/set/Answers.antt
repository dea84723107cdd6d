use Rattle.std.proofs.Common.{◌≡◌, ◌/◌, ◌++◌, ◌∙◌, arith, set, replicate, false, length, length-set}
use Rattle.asn1_model.specs.Numbers.{octet_bits, missing}
use Rattle.asn1_values_bits.proofs.Change.{kept_changed}
use Rattle.asn1_values_bits.proofs.Kept.{kept_bits, kept_length, keeps, kept_view}
use Rattle.asn1_values_bits.proofs.bit_buffer.BitBuffer.set.Goals as goal

shown : (c : goal.After-self-1) → octet_bits (set c.self.inside.octets.items (c.args.index / 8) c.with_bit.result)
    ≡ set c.args.self.now c.args.index c.args.bit ++ replicate (missing c.self.inside.len) false
shown c =
    let n : length c.args.self.now ≡ c.self.inside.len = kept_length c.self.inside.len c.self.inside.octets.items c.args.self.now c.self.invariant c.self.view_is in
    kept_changed c.self.inside.octets.items c.args.self.now c.self.inside.len c.args.index c.index-octet.result.now c.with_bit.result c.args.bit
    (kept_bits c.self.inside.len c.self.inside.octets.items c.args.self.now c.self.invariant c.self.view_is) n (omega arith) c.index-octet.ensures c.with_bit.ensures

long : (c : goal.After-self-1) → length (set c.args.self.now c.args.index c.args.bit) ≡ c.self.inside.len
long c = length-set c.args.self.now c.args.index c.args.bit ∙ kept_length c.self.inside.len c.self.inside.octets.items c.args.self.now c.self.invariant c.self.view_is

pub invariant_of-self : goal.invariant_of-self
invariant_of-self c = keeps c.self.inside.len _ (set c.args.self.now c.args.index c.args.bit) (long c) (shown c)

pub returns : goal.returns
returns c = kept_view c.self.inside.len _ (set c.args.self.now c.args.index c.args.bit) (long c) (shown c)
