use Rattle.std.proofs.Common.{◌≡◌, ◌∙◌, ◌-◌, ◌+◌, ◌*◌, ◌^◌, ◌%◌, ◌<◌, ℕ, refl, ap, arith, length, min, take, set, sym, ◌++◌, length-set, List}
use Rattle.std.proofs.lemmas.List.{length-drop}
use Rattle.std.proofs.lemmas.Nat.{shl_whole, shl_below}
use Rattle.asn1_model.specs.Numbers.{octet_bits}
use Rattle.asn1_values_bits.specs.BitStr.{bits_of}
use Rattle.asn1_values_bits.proofs.Views.{octet_made, to_come}
use Rattle.asn1_values_bit_strings.proofs.Fixing.{small_set, filled, filled_octets}
use Rattle.asn1_values_bit_strings.proofs.fixed_bit_string.fill.Goals as goal

pub overflow_cast-octet-in-loop-octet : goal.overflow_cast-octet-in-loop-octet
overflow_cast-octet-in-loop-octet c =
    let few : ℕ = c.min-few.result in
    let eight : few + (8 - few) ≡ 8 = omega (arith, c.min-few.ensures) in
    let whole : c.first_number.result * 2 ^ (8 - few) % 2 ^ 128 ≡ c.first_number.result * 2 ^ (8 - few) = shl_whole c.first_number.result few (8 - few) 128 c.first_number.ensures.fits (omega arith) in
    let below : c.first_number.result * 2 ^ (8 - few) < 2 ^ 8 = rw eight at (shl_below c.first_number.result few (8 - few) c.first_number.ensures.fits) in
    record { fits = rw whole below }

pub loop-octet-preserved : goal.loop-octet-preserved
loop-octet-preserved c =
    let few : ℕ = c.min-few.result in
    let os : List ℕ = c.loop-octet.octet-items in
    let i : ℕ = c.loop-octet.octet-index in
    let y : ℕ = c.first_number.result * 2 ^ (8 - few) % 2 ^ 128 in
    let n : ℕ = length os in
    let eight : few + (8 - few) ≡ 8 = omega (arith, c.min-few.ensures) in
    let whole : y ≡ c.first_number.result * 2 ^ (8 - few) = shl_whole c.first_number.result few (8 - few) 128 c.first_number.ensures.fits (omega arith) in
    let below : c.first_number.result * 2 ^ (8 - few) < 2 ^ 8 = rw eight at (shl_below c.first_number.result few (8 - few) c.first_number.ensures.fits) in
    let few_is : few ≡ min (length (bits_of c.loop-octet.rest)) 8 = c.min-few.ensures ∙ ap (λ k. min k 8) c.len.ensures in
    let long : length (set os i y) ≡ n = length-set os i y in
    let within : i < n = omega (arith, c.loop-octet-test.true, c.loop-octet.auto.octet-items) in
    record {
      small = small_set os i y within (omega (arith, whole, below)) c.loop-octet.invariant.small;
      room = omega (arith, ap length c.split_at.ensures.rest, length-drop few (bits_of c.loop-octet.rest), c.loop-octet.invariant.room, few_is, long);
      made = ap (λ k. octet_bits (take (i + 1) (set os i y)) ++ to_come (k - (i + 1)) (bits_of c.split_at.result.1)) long
          ∙ ap (λ l. octet_bits (take (i + 1) (set os i y)) ++ to_come (n - (i + 1)) l) c.split_at.ensures.rest
          ∙ octet_made os i n few c.first_number.result y (bits_of c.loop-octet.rest) (to_come n (bits_of c.args.bits)) within refl
          c.loop-octet.invariant.room few_is c.first_number.ensures.digits whole c.loop-octet.invariant.made
          ∙ sym (ap (λ k. to_come k (bits_of c.args.bits)) long);
    }

made_all : (c : goal.After-loop-octet) → octet_bits c.loop-octet.octet-items ≡ to_come (length c.args.octets.now) (bits_of c.args.bits)
made_all c = filled c.loop-octet.octet-items (bits_of c.loop-octet.rest) (to_come (length c.args.octets.now) (bits_of c.args.bits))
    c.loop-octet.octet-index (omega (arith, c.loop-octet-test.false, c.loop-octet.auto.octet-items)) c.loop-octet.invariant.room
    (c.loop-octet.invariant.made ∙ ap (λ k. to_come k (bits_of c.args.bits)) c.loop-octet.auto.octet-items)

pub returns-clause-octets : goal.returns-clause-octets
returns-clause-octets c = filled_octets c.loop-octet.octet-items (length c.args.octets.now) (bits_of c.args.bits)
    (λ k l. c.loop-octet.invariant.small k (omega (arith, c.loop-octet-test.false, c.loop-octet.auto.octet-items))) (made_all c)

pub returns-clause-bits : goal.returns-clause-bits
returns-clause-bits c = made_all c
