use Rattle.std.proofs.Common.{◌≡◌, ◌+◌, ◌-◌, ◌*◌, ◌++◌, ℕ, List, [], take, drop, arith, ap, sym, ◌∙◌, length, replicate, false, length-append}
use Rattle.std.specs.Vec.{with_items}
use Rattle.std.proofs.lemmas.List.{append-nil, drop_all, take_all, take_at, length-drop, length-take-le, length-replicate, with_items_is}
use borrow.Rule.Slice.PartMut.{put_mid}
use Rattle.asn1_model.specs.Numbers.{octet_bits, missing}
use Rattle.asn1_values_bits.specs.BitStr.{bits_of}
use Rattle.asn1_values_bits.proofs.Binary.{octet_bits-append}
use Rattle.asn1_values_bits.proofs.Kept.{keeps, kept_view, kept_bits, kept_length}
use Rattle.asn1_values_bits.proofs.Views.{length-bits_of}
use Rattle.asn1_values_bits.proofs.bit_buffer.BitBuffer.push_shifted.Goals as goal

pub overflow_mul-count : goal.overflow_mul-count
overflow_mul-count c = record { fits = omega (arith, c.requires.within, length-bits_of c.args.bits, c.args.bits.short) }

-- the end of a list written over
end_written : (s new : List ℕ) (start : ℕ) → put_mid start (length s - start) s new ≡ take start s ++ new
end_written s new start =
    let none : drop (length s - start) (drop start s) ≡ [] = drop_all (length s - start) (drop start s) (omega (arith, length-drop start s)) in
    ap (λ l. take start s ++ l) (ap (λ l. new ++ l) none ∙ append-nil new)

abbrev written : goal.After-self-2-1 → List ℕ
written c = put_mid c.len-start.result (length c.as_mut_slice-octets.result.now - c.len-start.result) c.as_mut_slice-octets.result.now c.copy_to.new.octets

resized : (c : goal.After-self-2-1) → c.as_mut_slice-octets.result.now ≡ c.self.inside.octets.items ++ replicate c.args.count 0
resized c =
    let os : List ℕ = c.self.inside.octets.items in
    let ok = c.self.inside.octets.ok in
    let n : ℕ = c.len-start.result + c.args.count in
    let all : take n os ≡ os = take_all n os (omega arith) in
    let some : n - c.self.inside.octets.len ≡ c.args.count = omega arith in
    c.as_mut_slice-octets.ensures.value ∙ c.in_ok-resize.ensures.items ∙ ap (λ l. l ++ replicate (n - c.self.inside.octets.len) 0) all ∙ ap (λ k. os ++ replicate k 0) some

long : (c : goal.After-self-2-1) → length c.copy_to.new.octets ≡ c.args.count
long c =
    let s : List ℕ = c.as_mut_slice-octets.result.now in
    let start : ℕ = c.len-start.result in
    let ok = c.self.inside.octets.ok in
    let all : length s ≡ start + c.args.count = ap length (resized c) ∙ length-append c.self.inside.octets.items (replicate c.args.count 0) ∙
    (omega (arith, length-replicate {A = ℕ} c.args.count 0)) in
    c.copy_to.auto.octets ∙ length-take-le (length s - start) (drop start s) (omega (arith, length-drop start s)) ∙ (omega (arith, all))

written_is : (c : goal.After-self-2-1) → written c ≡ c.self.inside.octets.items ++ c.copy_to.new.octets
written_is c =
    end_written c.as_mut_slice-octets.result.now c.copy_to.new.octets c.len-start.result
    ∙ ap (λ l. l ++ c.copy_to.new.octets) (ap (take c.len-start.result) (resized c) ∙ take_at c.self.inside.octets.items (replicate c.args.count 0) c.len-start.result (omega arith))

more : (c : goal.After-self-2-1) → octet_bits (with_items c.resize.new.self (written c)).items
    ≡ (c.args.self.now ++ take (c.args.count * 8) (bits_of c.args.bits)) ++ replicate (missing c.in-Some.len) false
more c =
    let size : length c.args.self.now ≡ c.self.inside.len = kept_length c.self.inside.len c.self.inside.octets.items c.args.self.now c.self.invariant c.self.view_is in
    let here : missing c.self.inside.len ≡ 0 = omega (arith, c.requires.whole) in
    let end : missing c.in-Some.len ≡ 0 = omega (arith, c.requires.whole, c.in-Some.ensures) in
    let old : octet_bits c.self.inside.octets.items ≡ c.args.self.now =
    kept_bits c.self.inside.len c.self.inside.octets.items c.args.self.now c.self.invariant c.self.view_is ∙ ap (λ k. c.args.self.now ++ replicate k false) here ∙ append-nil c.args.self.now in
    let copied : octet_bits c.copy_to.new.octets ≡ take (c.args.count * 8) (bits_of c.args.bits) = c.copy_to.ensures ∙
    ap (λ k. take (k * 8) (bits_of c.args.bits)) (sym c.copy_to.auto.octets ∙ long c) in
    ap octet_bits (with_items_is c.resize.new.self (written c) (ap length (written_is c) ∙
    length-append c.self.inside.octets.items c.copy_to.new.octets ∙ (omega (arith, long c, c.in_ok-resize.ensures.len))) ∙ written_is c)
    ∙ octet_bits-append c.self.inside.octets.items c.copy_to.new.octets ∙ ap (λ l. l ++ octet_bits c.copy_to.new.octets) old ∙ ap (λ l. c.args.self.now ++ l) copied
    ∙ sym (ap (λ k. (c.args.self.now ++ take (c.args.count * 8) (bits_of c.args.bits)) ++ replicate k false) end ∙ append-nil (c.args.self.now ++ take (c.args.count * 8) (bits_of c.args.bits)))

grown : (c : goal.After-self-2-1) → length (c.args.self.now ++ take (c.args.count * 8) (bits_of c.args.bits)) ≡ c.in-Some.len
grown c =
    length-append c.args.self.now (take (c.args.count * 8) (bits_of c.args.bits))
    ∙ (omega (
      arith,
      c.in-Some.ensures,
      length-take-le (c.args.count * 8) (bits_of c.args.bits) c.requires.within,
      kept_length c.self.inside.len
          c.self.inside.octets.items c.args.self.now c.self.invariant c.self.view_is,
    ))

pub invariant_of-self-2 : goal.invariant_of-self-2
invariant_of-self-2 c = keeps c.in-Some.len (with_items c.resize.new.self (written c)).items (c.args.self.now ++ take (c.args.count * 8) (bits_of c.args.bits)) (grown c) (more c)

pub returns-clause-ok : goal.returns-clause-ok
returns-clause-ok c = kept_view c.in-Some.len (with_items c.resize.new.self (written c)).items (c.args.self.now ++ take (c.args.count * 8) (bits_of c.args.bits)) (grown c) (more c)
