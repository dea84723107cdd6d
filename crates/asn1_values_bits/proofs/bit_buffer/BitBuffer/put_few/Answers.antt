use Rattle.std.proofs.Common.{◌≡◌, ◌+◌, ◌-◌, ◌*◌, ◌/◌, ◌%◌, ◌^◌, ◌<◌, ◌++◌, ℕ, bit_or, bit_and, length, replicate, false, take, drop, set, ap, ◌∙◌, arith, length-append}
use Rattle.std.proofs.lemmas.List.{length-take-le, length-drop}
use Rattle.asn1_model.specs.Numbers.{binary, octet_bits, missing}
use Rattle.asn1_values_bits.proofs.Binary.{length-binary}
use Rattle.asn1_values_bits.proofs.Kept.{kept_bits, kept_length, keeps, kept_view}
use Rattle.asn1_values_bits.proofs.Putting.{mixed, mixed_is, mixed_small, octet_put, kept_put}
use Rattle.asn1_values_bits.proofs.bit_buffer.BitBuffer.put_few.Goals as goal

pub overflow_cast-high-2 : goal.overflow_cast-high-2
overflow_cast-high-2 c =
    let past : ℕ = 8 - c.args.place % 8 - c.args.count in
    let eight : c.args.place % 8 + (c.args.count + past) ≡ 8 = omega arith in
    let small : c.index.result.now < 256 = omega arith in
    record {
      fits = rw (mixed_is c.index.result.now c.args.bits (c.args.place % 8) c.args.count past eight small c.requires.fits)
          (mixed_small c.index.result.now c.args.bits (c.args.place % 8) c.args.count past eight small c.requires.fits);
    }

shown : (c : goal.After-self-1) →
    octet_bits (set c.self.inside.octets.items (c.args.place / 8)
    (bit_or (bit_or (c.index.result.now / 2 ^ (c.args.count + (8 - c.args.place % 8 - c.args.count)) * 2 ^ c.args.count % 2 ^ 16) c.args.bits *
    2 ^ (8 - c.args.place % 8 - c.args.count) % 2 ^ 16) (bit_and c.index.result.now (1 * 2 ^ (8 - c.args.place % 8 - c.args.count) % 2 ^ 16 - 1))))
    ≡ (take c.args.place c.args.self.now ++ (binary c.args.count c.args.bits ++ drop (c.args.place + c.args.count) c.args.self.now)) ++ replicate (missing c.self.inside.len) false
shown c =
    let past : ℕ = 8 - c.args.place % 8 - c.args.count in
    let eight : c.args.place % 8 + (c.args.count + past) ≡ 8 = omega arith in
    let small : c.index.result.now < 256 = omega arith in
    let n : length c.args.self.now ≡ c.self.inside.len = kept_length c.self.inside.len c.self.inside.octets.items c.args.self.now c.self.invariant c.self.view_is in
    let size = c.self.invariant.size in
    kept_put c.self.inside.octets.items _ c.args.self.now (binary c.args.count c.args.bits) c.self.inside.len c.args.place c.args.count
    (kept_bits c.self.inside.len c.self.inside.octets.items c.args.self.now c.self.invariant c.self.view_is) n (omega arith)
    (octet_put c.self.inside.octets.items c.args.place (c.args.place / 8) (c.args.place % 8) c.args.count past c.index.result.now _ c.args.bits (omega arith) eight (omega arith) c.index.ensures
    (ap (binary 8) (mixed_is c.index.result.now c.args.bits (c.args.place % 8) c.args.count past eight small c.requires.fits) ∙
    mixed c.index.result.now c.args.bits (c.args.place % 8) c.args.count past eight c.requires.fits))

long : (c : goal.After-self-1) → length (take c.args.place c.args.self.now ++ (binary c.args.count c.args.bits ++ drop (c.args.place + c.args.count) c.args.self.now)) ≡ c.self.inside.len
long c =
    length-append (take c.args.place c.args.self.now) (binary c.args.count c.args.bits ++ drop (c.args.place + c.args.count) c.args.self.now)
    ∙ (omega (
      arith,
      length-append (binary c.args.count c.args.bits) (drop (c.args.place + c.args.count) c.args.self.now),
      length-binary c.args.count c.args.bits,
      length-drop (c.args.place + c.args.count) c.args.self.now,
      length-take-le c.args.place c.args.self.now (omega arith),
      kept_length c.self.inside.len c.self.inside.octets.items c.args.self.now c.self.invariant c.self.view_is,
    ))

pub invariant_of-self : goal.invariant_of-self
invariant_of-self c = keeps c.self.inside.len _ _ (long c) (shown c)

pub returns : goal.returns
returns c = kept_view c.self.inside.len _ _ (long c) (shown c)
