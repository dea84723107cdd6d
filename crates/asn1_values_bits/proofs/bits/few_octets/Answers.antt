use Rattle.std.proofs.Common.{◌≡◌, ◌+◌, ◌*◌, ◌%◌, ◌^◌, ◌<◌, ◌≤◌, ℕ, List, take, get_or, ap, sym, ◌∙◌, arith, bit_or, ◌++◌}
use Rattle.std.proofs.lemmas.List.{take_more}
use Rattle.std.proofs.lemmas.Nat.{shl_whole, or_shifted, mul-add-lt, pow-add}
use Rattle.asn1_model.specs.Numbers.{binary, octet_bits}
use Rattle.asn1_values_bits.proofs.Binary.{binary_join, octet_bits_push}
use Rattle.asn1_values_bits.proofs.bits.few_octets.Goals as goal

-- an octet after others
behind : (w v x : ℕ) → v < 2 ^ w → w + 8 ≤ 64 → x < 2 ^ 8 → bit_or (v * 2 ^ 8 % 2 ^ 64) x ≡ v * 2 ^ 8 + x
behind w v x h n l = ap (λ k. bit_or k x) (shl_whole v w 8 64 h n) ∙ or_shifted v 8 x l

below : (w v x : ℕ) → v < 2 ^ w → x < 2 ^ 8 → v * 2 ^ 8 + x < 2 ^ (w + 8)
below w v x h l = let e : w + 8 ≡ 8 + w = omega arith in rw (e, pow-add 2 8 w) (mul-add-lt v (2 ^ 8) x (2 ^ w) h l)

pub loop-octet-preserved : goal.loop-octet-preserved
loop-octet-preserved c =
    let i : ℕ = c.loop-octet.octet-index in
    let v : ℕ = c.loop-octet.value in
    let os : List ℕ = c.args.octets.now in
    let x : ℕ = get_or os i 0 in
    let next : (i + 1) * 8 ≡ i * 8 + 8 = omega arith in
    let small : x < 2 ^ 8 = (c.type_inv.octets i).fits in
    let joined : bit_or (v * 2 ^ 8 % 2 ^ 64) x ≡ v * 2 ^ 8 + x = behind (i * 8) v x c.loop-octet.invariant.small (omega arith) small in
    record {
      digits = ap (λ k. binary k (bit_or (v * 2 ^ 8 % 2 ^ 64) x)) next ∙ ap (binary (i * 8 + 8)) joined ∙ sym (binary_join (i * 8) 8 v x small)
          ∙ ap (λ l. l ++ binary 8 x) c.loop-octet.invariant.digits ∙ sym (ap octet_bits (take_more os i 0 (omega arith)) ∙ octet_bits_push (take i os) x);
      small = rw (joined, next) (below (i * 8) v x c.loop-octet.invariant.small small);
    }
