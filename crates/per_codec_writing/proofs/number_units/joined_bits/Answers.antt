use Rattle.std.proofs.Common.{◌≡◌, ◌+◌, ◌-◌, ◌*◌, ◌%◌, ◌^◌, ℕ, List, [], ◌++◌, flat_map, take, get_or, ap, sym, ◌∙◌, arith, bit_or, bit_and}
use Rattle.std.proofs.lemmas.List.{take_more, flat_map_more}
use Rattle.std.proofs.lemmas.Nat.{pow_pos, mod_below}
use Rattle.asn1_model.specs.Numbers.{binary}
use Rattle.asn1_values_bits.proofs.Binary.{binary_join, binary_low}
use Rattle.asn1_values_bits.proofs.Reading.{joined_digits, joined_small}
use Rattle.per_codec_writing.specs.Characters.{low_bits}
use Rattle.per_codec_writing.proofs.number_units.joined_bits.Goals as goal

pub loop-octet-preserved : goal.loop-octet-preserved
loop-octet-preserved c =
    let i : ℕ = c.loop-octet.octet-index in
    let v : ℕ = c.loop-octet.number in
    let n : ℕ = c.loop-octet.count in
    let w : ℕ = c.args.width in
    let os : List ℕ = c.args.octets.now in
    let b : ℕ = c.args.base in
    let x : ℕ = c.saturating_sub-code.result in
    let less : x ≡ get_or os i 0 - b = omega (arith, c.saturating_sub-code.ensures) in
    let joined : bit_or (v * 2 ^ w % 2 ^ 64) (bit_and x (1 * 2 ^ w % 2 ^ 64 - 1)) ≡ v * 2 ^ w + x % 2 ^ w =
    joined_digits n w v x 64 c.loop-octet.invariant.small (omega (arith, c.loop-octet.invariant.few)) (omega arith) in
    record {
      digits = ap (binary (n + w)) joined ∙ sym (binary_join n w v (x % 2 ^ w) (mod_below x (2 ^ w) (pow_pos w)))
          ∙ ap (λ l. binary n v ++ l) (binary_low w x ∙ ap (binary w) less) ∙ ap (λ l. l ++ low_bits b w (get_or os i 0)) c.loop-octet.invariant.digits
          ∙ flat_map_more (low_bits b w) [] (take i os) (get_or os i 0) ∙ sym (ap (flat_map (low_bits b w)) (take_more os i 0 (omega arith)));
      small = rw joined (joined_small n w v x c.loop-octet.invariant.small);
      few = omega (arith, c.loop-octet.invariant.few);
    }
