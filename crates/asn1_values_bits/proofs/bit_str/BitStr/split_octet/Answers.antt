use Rattle.std.proofs.Common.{◌≡◌, ◌+◌, ◌-◌, ◌*◌, ◌^◌, ◌%◌, ◌<◌, ℕ, ◌∷◌, ap, sym, ◌∙◌, arith, length, min, drop}
use Rattle.std.proofs.lemmas.List.{length-drop}
use Rattle.std.proofs.lemmas.Nat.{shl_whole, shl_below}
use Rattle.asn1_model.specs.Numbers.{packed}
use Rattle.asn1_values_bits.specs.BitStr.{bits_of}
use Rattle.asn1_values_bits.specs.Octets.{padded}
use Rattle.asn1_values_bits.proofs.Leading.{octet_leads}
use Rattle.asn1_values_bits.proofs.bit_str.BitStr.split_octet.Goals as goal

pub overflow_cast-octet : goal.overflow_cast-octet
overflow_cast-octet c =
    let few : ℕ = c.min-few.result in
    let eight : few + (8 - few) ≡ 8 = omega (arith, c.min-few.ensures) in
    let whole : c.first_bits.result * 2 ^ (8 - few) % 2 ^ 64 ≡ c.first_bits.result * 2 ^ (8 - few) = shl_whole c.first_bits.result few (8 - few) 64 c.first_bits.ensures.fits (omega arith) in
    let below : c.first_bits.result * 2 ^ (8 - few) < 2 ^ 8 = rw eight at (shl_below c.first_bits.result few (8 - few) c.first_bits.ensures.fits) in
    record { fits = rw whole below }

pub returns-clause-octets : goal.returns-clause-octets
returns-clause-octets c =
    let few : ℕ = c.min-few.result in
    let b = bits_of c.args.self.now in
    let whole : c.first_bits.result * 2 ^ (8 - few) % 2 ^ 64 ≡ c.first_bits.result * 2 ^ (8 - few) =
    shl_whole c.first_bits.result few (8 - few) 64 c.first_bits.ensures.fits (omega (arith, c.min-few.ensures)) in
    let few_is : few ≡ min (length b) 8 = c.min-few.ensures ∙ ap (λ k. min k 8) c.len.ensures in
    octet_leads b few c.first_bits.result c.requires few_is c.first_bits.ensures.digits c.first_bits.ensures.fits
    ∙ ap (λ x. x ∷ packed (padded (drop few b))) (sym whole)
    ∙ ap (λ l. c.first_bits.result * 2 ^ (8 - few) % 2 ^ 64 ∷ packed (padded l)) (sym c.split_at.ensures.rest)

pub returns-clause-fewer : goal.returns-clause-fewer
returns-clause-fewer c = omega (arith, c.min-few.ensures, c.len.ensures, ap length c.split_at.ensures.rest, length-drop c.min-few.result (bits_of c.args.self.now), c.requires)
