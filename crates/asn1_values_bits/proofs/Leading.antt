-- The first octet of bits that are padded.
use Rattle.std.proofs.Common.{◌≡◌, ℕ, suc, ◌+◌, ◌-◌, ◌*◌, ◌/◌, ◌^◌, ◌<◌, Bool, false, cond, List, ◌∷◌, ◌++◌, length, min, drop, take, map, replicate, ap, sym, ◌∙◌, arith}
use Rattle.std.proofs.lemmas.List.{length-drop}
use Rattle.std.proofs.lemmas.Nat.{shl_below}
use Rattle.asn1_model.specs.Numbers.{binary, packed, missing}
use Rattle.asn1_values_bits.specs.Octets.{padded}
use Rattle.asn1_values_bits.proofs.Packed.{number_binary}
use Rattle.asn1_values_bits.proofs.Views.{to_come, next_octet}
use Rattle.std.specs.Int.Digits.{number_from_digits_after}

pub packed-next : (o : ℕ) (r : List Bool) → o < 256 → packed (binary 8 o ++ r) ≡ o ∷ packed r
packed-next o r h =
    let value : number_from_digits_after 2 0 (map (λ b. cond b 1 0) (binary 8 o)) ≡ o = number_binary 8 o 0 ∙ (omega arith) in
    ap (λ x. x ∷ packed r) value

-- a number of the first bits, at most eight, as an octet
pub octet_leads : (bs : List Bool) (few v : ℕ) → 0 < length bs → few ≡ min (length bs) 8 → binary few v ≡ take few bs → v < 2 ^ few →
    packed (padded bs) ≡ v * 2 ^ (8 - few) ∷ packed (padded (drop few bs))
octet_leads bs few v some f e h =
    let n : ℕ = (length bs + 7) / 8 - 1 in
    let eight : few + (8 - few) ≡ 8 = omega arith in
    let small : v * 2 ^ (8 - few) < 2 ^ 8 = rw eight at (shl_below v few (8 - few) h) in
    let zeros : missing (length bs) ≡ suc n * 8 - length bs = omega arith in
    let here : padded bs ≡ to_come (suc n) bs = ap (λ k. bs ++ replicate k false) zeros in
    let left : missing (length (drop few bs)) ≡ n * 8 - length (drop few bs) = omega (arith, length-drop few bs) in
    let rest : padded (drop few bs) ≡ to_come n (drop few bs) = ap (λ k. drop few bs ++ replicate k false) left in
    ap packed (here ∙ sym (next_octet n few v bs (omega arith) f e))
    ∙ packed-next (v * 2 ^ (8 - few)) (to_come n (drop few bs)) small
    ∙ ap (λ l. v * 2 ^ (8 - few) ∷ packed l) (sym rest)
