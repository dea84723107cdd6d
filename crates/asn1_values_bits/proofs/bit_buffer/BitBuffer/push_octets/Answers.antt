use Rattle.std.proofs.Common.{◌≡◌, arith, sym, ap, ◌∙◌, length, ◌++◌, replicate, false, length-append}
use Rattle.std.proofs.lemmas.List.{append-nil}
use Rattle.asn1_model.specs.Numbers.{octet_bits, missing}
use Rattle.asn1_values_bits.proofs.Binary.{length-octet_bits, octet_bits-append}
use Rattle.asn1_values_bits.proofs.Kept.{keeps, kept_view, kept_bits, kept_length}
use Rattle.asn1_values_bits.proofs.bit_buffer.BitBuffer.push_octets.Goals as goal

more : (c : goal.After-self-1) → octet_bits c.extend_from_slice.new.self.items ≡ (c.args.self.now ++ octet_bits c.args.octets.now) ++ replicate (missing c.in-Some-checked_add.len) false
more c =
    let size : length c.args.self.now ≡ c.self.inside.len = kept_length c.self.inside.len c.self.inside.octets.items c.args.self.now c.self.invariant c.self.view_is in
    let here : missing c.self.inside.len ≡ 0 = omega (arith, c.requires) in
    let end : missing c.in-Some-checked_add.len ≡ 0 = omega (arith, c.requires, c.in-Some.ensures, c.in-Some-checked_add.ensures) in
    let old : octet_bits c.self.inside.octets.items ≡ c.args.self.now =
    kept_bits c.self.inside.len c.self.inside.octets.items c.args.self.now c.self.invariant c.self.view_is ∙ ap (λ k. c.args.self.now ++ replicate k false) here ∙ append-nil c.args.self.now in
    ap octet_bits c.in_ok-extend_from_slice.ensures.items ∙ octet_bits-append c.self.inside.octets.items c.args.octets.now ∙ ap (λ l. l ++ octet_bits c.args.octets.now) old
    ∙ sym (ap (λ k. (c.args.self.now ++ octet_bits c.args.octets.now) ++ replicate k false) end ∙ append-nil (c.args.self.now ++ octet_bits c.args.octets.now))

long : (c : goal.After-self-1) → length (c.args.self.now ++ octet_bits c.args.octets.now) ≡ c.in-Some-checked_add.len
long c = length-append c.args.self.now (octet_bits c.args.octets.now) ∙
    (omega (
      arith,
      c.in-Some.ensures,
      c.in-Some-checked_add.ensures,
      length-octet_bits c.args.octets.now,
      kept_length c.self.inside.len
          c.self.inside.octets.items c.args.self.now c.self.invariant c.self.view_is,
    ))

pub invariant_of-self-2 : goal.invariant_of-self-2
invariant_of-self-2 c = keeps c.in-Some-checked_add.len c.extend_from_slice.new.self.items (c.args.self.now ++ octet_bits c.args.octets.now) (long c) (more c)

pub returns-clause-ok : goal.returns-clause-ok
returns-clause-ok c = kept_view c.in-Some-checked_add.len c.extend_from_slice.new.self.items (c.args.self.now ++ octet_bits c.args.octets.now) (long c) (more c)
