use Rattle.std.proofs.Common.{◌≡◌, ◌≤◌, ◌+◌, ◌*◌, ◌/◌, ◌%◌, ℕ, List, arith, ap, ◌∙◌, sym, take, drop, length, inl, inr}
use Rattle.std.proofs.lemmas.Bool.{cases_lt}
use Rattle.std.proofs.lemmas.List.{take-take, drop-drop}
use Rattle.asn1_model.specs.Numbers.{octet_bits}
use Rattle.asn1_values_bits.specs.BitStr.{bits_of, offset_of}
use Rattle.asn1_values_bits.proofs.Views.{length-bits_of}
use Rattle.asn1_values_bits.proofs.Shown.{shown_on}
use Rattle.asn1_values_bits.proofs.bit_str.BitStr.first_octets.Goals as goal

pub returns-then-self-eq0-clause-some : goal.returns-then-self-eq0-clause-some
returns-then-self-eq0-clause-some c some = omega (arith, length-bits_of c.args.self.now, some)

pub returns-then-self-eq0-clause-many : goal.returns-then-self-eq0-clause-many
returns-then-self-eq0-clause-many c many = absurd (omega (arith, length-bits_of c.args.self.now, many))

pub returns-then-self-eq0-clause-few : goal.returns-then-self-eq0-clause-few
returns-then-self-eq0-clause-few c few = omega (arith, length-bits_of c.args.self.now)

pub returns-clause-within : goal.returns-clause-within
returns-clause-within c = omega (arith, c.min-width.ensures, length-bits_of c.args.self.now)

pub returns-clause-many : goal.returns-clause-many
unfolding offset_of
returns-clause-many c many =
    let there : c.args.self.now.first / 8 + 16 ≤ length c.args.self.now.octets.now = omega (arith, c.args.self.now.within, length-bits_of c.args.self.now, many) in
    omega (arith, c.octets_from-number.ensures.sixteen there, c.min-width.ensures, length-bits_of c.args.self.now, many)

pub returns-clause-few : goal.returns-clause-few
returns-clause-few c few =
    let size : ℕ = length c.args.self.now.octets.now in
    let start : ℕ = c.args.self.now.first / 8 in
    elim (cases_lt size (start + 8)) [
      | inl less ↦ omega (arith, c.octets_from-number.ensures.fewer less, c.min-width.ensures, c.args.self.now.within, length-bits_of c.args.self.now, few)
      | inr eight ↦ elim (cases_lt size (start + 16)) [
        | inl less ↦ omega (arith, c.octets_from-number.ensures.eight eight less, c.min-width.ensures, length-bits_of c.args.self.now, few)
        | inr sixteen ↦ omega (arith, c.octets_from-number.ensures.sixteen sixteen, c.min-width.ensures, length-bits_of c.args.self.now, few)
      ]
    ]

pub returns-clause-bits : goal.returns-clause-bits
unfolding bits_of
returns-clause-bits c =
    let os : List ℕ = c.args.self.now.octets.now in
    let first : ℕ = c.args.self.now.first in
    let w : ℕ = c.min-width.result in
    let o : ℕ = first % 8 in
    let start : ℕ = first / 8 * 8 in
    let count : ℕ = c.octets_from-number.result.1 in
    let room : o + w ≤ count = omega (arith, c.min-width.ensures, c.octets_from-number.ensures.some) in
    let short : w ≤ c.args.self.now.len = omega (arith, c.min-width.ensures) in
    let place : start + o ≡ first = omega arith in
    shown_on o w count c.octets_from-number.result.0 (drop start (octet_bits os)) c.octets_from-number.ensures.narrow room c.octets_from-number.ensures.bits
    ∙ ap (take w) (drop-drop o start (octet_bits os) ∙ ap (λ k. drop k (octet_bits os)) place)
    ∙ sym (take-take w c.args.self.now.len (drop first (octet_bits os)) short)
