use Rattle.std.proofs.Common.{◌≡◌, ◌-◌, ◌*◌, ℕ, List, arith, ap, ◌∙◌, sym, take, drop, length}
use Rattle.std.proofs.lemmas.List.{length-drop, take_all}
use Rattle.asn1_model.specs.Numbers.{binary, octet_bits}
use Rattle.asn1_values_bits.proofs.Binary.{length-octet_bits}
use Rattle.asn1_values_bits.proofs.Reading.{octet_bits-drop}
use Rattle.asn1_values_bits.proofs.Shown.{high_end}
use Rattle.asn1_values_bits.proofs.bits.octets_from.Goals as goal

pub returns-then-left-ge8-clause-bits : goal.returns-then-left-ge8-clause-bits
returns-then-left-ge8-clause-bits c = high_end 64 c.eight_octets.result (omega arith) ∙ c.eight_octets.ensures

pub returns-clause-bits : goal.returns-clause-bits
returns-clause-bits c =
    let os : List ℕ = c.args.octets.now in
    let start : ℕ = c.args.start in
    let n : ℕ = (length os - start) * 8 in
    let v : ℕ = c.few_octets-value.result in
    let whole : take (length os - start) (drop start os) ≡ drop start os = take_all (length os - start) (drop start os) (omega (arith, length-drop start os)) in
    let long : length (take (length os - start) (drop start os)) * 8 ≡ n = omega (arith, length-drop start os, ap length whole) in
    high_end n v (omega arith) ∙ ap (λ k. binary k v) (sym long) ∙ c.few_octets-value.ensures ∙ ap octet_bits whole ∙ octet_bits-drop start os (omega arith)
    ∙ sym (take_all n (drop (start * 8) (octet_bits os)) (omega (arith, length-drop (start * 8) (octet_bits os), length-octet_bits os)))
