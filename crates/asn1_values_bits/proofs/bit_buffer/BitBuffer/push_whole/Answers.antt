use Rattle.std.proofs.Common.{◌≡◌, ◌+◌, ◌/◌, refl, take, arith, ap, ◌∙◌, length, ◌++◌, replicate, false, length-append}
use Rattle.std.proofs.lemmas.List.{append-nil}
use Rattle.asn1_model.specs.Numbers.{binary, octet_bits, missing}
use Rattle.asn1_values_bits.proofs.Binary.{length-binary}
use Rattle.asn1_values_bits.proofs.Kept.{keeps, kept_view, kept_bits, kept_length}
use Rattle.asn1_values_bits.proofs.Whole.{whole_written}
use Rattle.asn1_values_bits.proofs.bit_buffer.BitBuffer.push_whole.Goals as goal

longer : (c : goal.After-self-1) → length (c.args.self.now ++ binary c.args.width c.args.value) ≡ c.in-Some.len
longer c = length-append c.args.self.now (binary c.args.width c.args.value) ∙
    (omega (arith, c.in-Some.ensures, length-binary c.args.width c.args.value, kept_length c.self.inside.len c.self.inside.octets.items c.args.self.now c.self.invariant c.self.view_is))

now : (c : goal.After-self-1) → octet_bits c.extend_from_slice.new.self.items ≡ (c.args.self.now ++ binary c.args.width c.args.value) ++ replicate (missing c.in-Some.len) false
now c =
    let size : length c.args.self.now ≡ c.self.inside.len = kept_length c.self.inside.len c.self.inside.octets.items c.args.self.now c.self.invariant c.self.view_is in
    let here : missing c.self.inside.len ≡ 0 = omega (arith, c.requires.whole) in
    let end : missing c.args.width ≡ missing c.in-Some.len = omega (arith, c.requires.whole, c.in-Some.ensures) in
    let old : octet_bits c.self.inside.octets.items ≡ c.args.self.now =
    kept_bits c.self.inside.len c.self.inside.octets.items c.args.self.now c.self.invariant c.self.view_is ∙ ap (λ k. c.args.self.now ++ replicate k false) here ∙ append-nil c.args.self.now in
    whole_written 16 c.self.inside.octets.items c.extend_from_slice.new.self.items c.args.self.now c.args.width ((c.args.width + 7) / 8) c.args.value
    _ old c.requires.narrow (omega arith) refl (c.in_ok-extend_from_slice.ensures.items ∙ ap (λ l. c.self.inside.octets.items ++ take ((c.args.width + 7) / 8) l) c.to_be_bytes-octets.ensures)
    ∙ ap (λ k. (c.args.self.now ++ binary c.args.width c.args.value) ++ replicate k false) end

pub invariant_of-self-2 : goal.invariant_of-self-2
invariant_of-self-2 c = keeps c.in-Some.len c.extend_from_slice.new.self.items (c.args.self.now ++ binary c.args.width c.args.value) (longer c) (now c)

pub returns-clause-ok : goal.returns-clause-ok
returns-clause-ok c = kept_view c.in-Some.len c.extend_from_slice.new.self.items (c.args.self.now ++ binary c.args.width c.args.value) (longer c) (now c)
