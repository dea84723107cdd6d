use Rattle.std.proofs.Common.{refl, sym, ◌≡◌, ◌+◌, ◌-◌, ◌*◌, ◌^◌, ◌%◌, ◌<◌, ℕ, ◌++◌, ap, ◌∙◌, arith, length, min}
use Rattle.std.proofs.lemmas.Nat.{shl_whole, shl_below}
use Rattle.asn1_model.specs.Numbers.{packed}
use Rattle.asn1_values_bits.specs.BitStr.{bits_of}
use Rattle.asn1_values_bits.specs.Octets.{padded}
use Rattle.asn1_values_bits.proofs.Refused.{though_refused}
use Rattle.asn1_values_identifiers.proofs.Begins.{begins_same, begins_through}
use Rattle.oer_codec_writing.proofs.BitTexts.{bits_moved}
use Rattle.oer_codec_writing.proofs.bit_string.push_by_octets.Goals as goal

pub overflow_cast-octet-in-loop-rest : goal.overflow_cast-octet-in-loop-rest
overflow_cast-octet-in-loop-rest c =
    let few : ℕ = c.min-few.result in
    let eight : few + (8 - few) ≡ 8 = omega (arith, c.min-few.ensures) in
    let whole : c.first_number.result * 2 ^ (8 - few) % 2 ^ 128 ≡ c.first_number.result * 2 ^ (8 - few) = shl_whole c.first_number.result few (8 - few) 128 c.first_number.ensures.fits (omega arith) in
    let below : c.first_number.result * 2 ^ (8 - few) < 2 ^ 8 = rw eight at (shl_below c.first_number.result few (8 - few) c.first_number.ensures.fits) in
    record { fits = rw whole below }

pub loop-rest-preserved : goal.loop-rest-preserved
loop-rest-preserved c =
    let few : ℕ = c.min-few.result in
    let b = bits_of c.loop-rest.rest in
    let whole : c.first_number.result * 2 ^ (8 - few) % 2 ^ 128 ≡ c.first_number.result * 2 ^ (8 - few) =
    shl_whole c.first_number.result few (8 - few) 128 c.first_number.ensures.fits (omega (arith, c.min-few.ensures)) in
    let few_is : few ≡ min (length b) 8 = c.min-few.ensures ∙ ap (λ k. min k 8) c.len-in-loop-rest.ensures in
    record {
      text = bits_moved (c.args.octets.now.items ++ packed (padded (bits_of c.args.value))) c.loop-rest.octets.items c.push.new.self.items b
          (bits_of c.split_at.result.1) few c.first_number.result _ c.loop-rest.invariant.text (omega (arith, c.loop-rest-test.true, c.len.ensures))
          few_is c.first_number.ensures.digits c.first_number.ensures.fits whole c.in_ok-push.ensures.items c.split_at.ensures.rest;
      kept = begins_through _ _ _ c.loop-rest.invariant.kept (_, sym c.in_ok-push.ensures.items);
    }

pub loop-rest-init : goal.loop-rest-init
loop-rest-init c = record { text = refl; kept = begins_same _ _ refl }

pub returns-in_err-push-clause-kept : goal.returns-in_err-push-clause-kept
returns-in_err-push-clause-kept c = though_refused _ (begins_through _ _ _ c.loop-rest.invariant.kept (begins_same _ _ c.in_err-push.ensures.items))
