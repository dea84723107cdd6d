use Rattle.std.proofs.Common.{◌+◌, ◌/◌, ◌%◌, ◌<◌, ℕ, List, false, Some, sym, ap, ◌∙◌, arith, drop, length, get_or}
use Rattle.std.proofs.lemmas.List.{get_or-take, get_or-drop, get_or_default}
use Rattle.std.proofs.lemmas.Option.{slice_get_past, slice_get-get_or}
use Rattle.asn1_model.specs.Numbers.{octet_bits}
use Rattle.asn1_values_bits.specs.BitStr.{bits_of}
use Rattle.asn1_values_bits.proofs.Reading.{bit_within}
use Rattle.asn1_values_bits.proofs.Views.{length-bits_of}
use Rattle.asn1_values_bits.proofs.bit_str.BitStr.get.Goals as goal

pub returns-then-index-self : goal.returns-then-index-self
returns-then-index-self c = sym (slice_get_past (bits_of c.args.self.now) c.args.index (omega (arith, length-bits_of c.args.self.now)))

pub returns : goal.returns
unfolding bits_of
returns c =
    let os : List ℕ = c.args.self.now.octets.now in
    let place : ℕ = c.args.self.now.first + c.args.index in
    let x : ℕ = get_or os (place / 8) 0 in
    let within : place / 8 < length os = omega (arith, c.args.self.now.within) in
    let inside : c.args.index < length (bits_of c.args.self.now) = omega (arith, length-bits_of c.args.self.now) in
    sym (slice_get-get_or (bits_of c.args.self.now) c.args.index false inside
    ∙ ap Some (get_or-take c.args.self.now.len (drop c.args.self.now.first (octet_bits os)) c.args.index false (omega arith)
    ∙ get_or-drop c.args.self.now.first (octet_bits os) c.args.index false
    ∙ bit_within os place (place / 8) (place % 8) x false (omega arith) within (get_or_default os (place / 8) 0 x within) (omega arith)))
