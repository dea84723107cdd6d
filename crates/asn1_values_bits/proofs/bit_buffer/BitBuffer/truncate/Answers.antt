use Rattle.std.proofs.Common.{◌≡◌, ◌*◌, ◌^◌, ◌%◌, ◌/◌, ◌<◌, ℕ, arith, ap, ◌∙◌, length, ◌++◌, replicate, false, set, take}
use Rattle.std.proofs.lemmas.List.{length-take-le}
use Rattle.std.proofs.lemmas.Nat.{shr_split}
use Rattle.asn1_model.specs.Numbers.{octet_bits, missing}
use Rattle.asn1_values_bits.proofs.Kept.{keeps, kept_view, kept_length, cut_whole, cut_within}
use Rattle.asn1_values_bits.proofs.bit_buffer.BitBuffer.truncate.Goals as goal

cut : (c : goal.After-self-1) → octet_bits c.truncate.new.self.items ≡ take c.args.len c.args.self.now ++ replicate (missing c.args.len) false
cut c =
    let size = c.self.invariant.size in
    cut_whole c.self.inside.len c.args.len (c.args.len / 8) c.self.inside.octets.items c.truncate.new.self.items c.args.self.now c.self.view_is
    (omega arith) (omega arith) (omega arith) c.truncate.ensures.items

long : (c : goal.After-self-1) → length (take c.args.len c.args.self.now) ≡ c.args.len
long c = length-take-le c.args.len c.args.self.now (omega (arith, kept_length c.self.inside.len c.self.inside.octets.items c.args.self.now c.self.invariant c.self.view_is))

pub invariant_of-self : goal.invariant_of-self
invariant_of-self c = keeps c.args.len c.truncate.new.self.items (take c.args.len c.args.self.now) (long c) (cut c)

pub returns-then-len-eq0 : goal.returns-then-len-eq0
returns-then-len-eq0 c = kept_view c.args.len c.truncate.new.self.items (take c.args.len c.args.self.now) (long c) (cut c)

shown : (c : goal.After-self-3-1) →
    octet_bits (set c.truncate-2.new.self.items (c.args.len / 8)
    (c.index.result.now / 2 ^ c.free_bits-free.result * 2 ^ c.free_bits-free.result % 256)) ≡ take c.args.len c.args.self.now ++ replicate (missing c.args.len) false
shown c =
    let size = c.self.invariant.size in
    let free : ℕ = c.free_bits-free.result in
    let x : ℕ = c.index.result.now in
    let some : 0 < free = omega (arith, c.free_bits-free.ensures) in
    let few : free < 8 = omega (arith, c.free_bits-free.ensures) in
    let small : x < 256 = omega arith in
    let fits : x / 2 ^ free * 2 ^ free % 256 ≡ x / 2 ^ free * 2 ^ free = omega (arith, shr_split x free) in
    cut_within c.self.inside.len c.args.len (c.args.len / 8) free x (x / 2 ^ free * 2 ^ free % 256) c.self.inside.octets.items c.truncate-2.new.self.items c.args.self.now c.self.view_is (omega arith)
    (omega (arith, c.free_bits-free.ensures)) some few (omega arith) c.truncate-2.ensures.items c.index.ensures fits
    ∙ ap (λ k. take c.args.len c.args.self.now ++ replicate k false) c.free_bits-free.ensures

size_of : (c : goal.After-self-3-1) → length (take c.args.len c.args.self.now) ≡ c.args.len
size_of c = length-take-le c.args.len c.args.self.now (omega (arith, kept_length c.self.inside.len c.self.inside.octets.items c.args.self.now c.self.invariant c.self.view_is))

pub invariant_of-self-2 : goal.invariant_of-self-2
invariant_of-self-2 c = keeps c.args.len _ (take c.args.len c.args.self.now) (size_of c) (shown c)

pub returns : goal.returns
returns c = kept_view c.args.len _ (take c.args.len c.args.self.now) (size_of c) (shown c)
