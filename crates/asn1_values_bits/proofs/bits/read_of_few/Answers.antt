use Rattle.std.proofs.Common.{◌≡◌, ◌+◌, ◌-◌, ◌*◌, ◌/◌, ◌%◌, ◌^◌, ◌≤◌, ℕ, List, length, take, drop, ap, sym, ◌∙◌, arith}
use Rattle.std.proofs.lemmas.List.{length-drop, length-take-le}
use Rattle.asn1_model.specs.Numbers.{binary, octet_bits}
use Rattle.asn1_values_bits.proofs.Window.{few_read, masked_small, masked_digits}
use Rattle.asn1_values_bits.proofs.bits.read_of_few.Goals as goal

pub returns-clause-fits : goal.returns-clause-fits
returns-clause-fits c = masked_small c.args.count _ c.requires.narrow

pub returns-clause-digits : goal.returns-clause-digits
returns-clause-digits c =
    let os : List ℕ = c.args.octets.now in
    let p : ℕ = c.args.position in
    let s : ℕ = p / 8 in
    let o : ℕ = p % 8 in
    let n : ℕ = c.args.count in
    let u : ℕ = (o + n + 7) / 8 in
    let past : ℕ = u * 8 - o - n in
    let f : ℕ = c.few_octets-all.result in
    let cut : s + u - s ≡ u = omega arith in
    let here : u ≤ length (drop s os) = omega (arith, c.requires.within, length-drop s os) in
    let long : length (take (s + u - s) (drop s os)) * 8 ≡ u * 8 = ap (λ k. length (take k (drop s os)) * 8) cut ∙ ap (λ k. k * 8) (length-take-le u (drop s os) here) in
    masked_digits n (f / 2 ^ past) c.requires.narrow
    ∙ few_read os p s o n u past f (omega arith) (omega arith) (omega (arith, c.requires.within))
    (ap (λ k. binary k f) (sym long) ∙ c.few_octets-all.ensures ∙ ap (λ k. octet_bits (take k (drop s os))) cut)
