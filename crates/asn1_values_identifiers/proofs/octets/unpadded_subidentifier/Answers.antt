use Rattle.std.proofs.Common.{◌≡◌, ◌+◌, ◌-◌, ◌*◌, ◌<◌, min, drop, length, ◌∷◌, Some, slice_index_or, ap, sym, ◌∙◌, arith, add-one, drop-cons}
use Rattle.asn1_values_identifiers.specs.Identifiers.{subidentifiers}
use Rattle.asn1_values_identifiers.proofs.Readings.{goes_on_capped}
use Rattle.asn1_values_identifiers.proofs.octets.unpadded_subidentifier.Goals as goal

pub loop-i-preserved : goal.loop-i-preserved
loop-i-preserved c =
    let limit = c.args.limit in
    let octets = c.args.octets.now in
    let octet = slice_index_or octets c.loop-i.i 0 in
    let rest = drop (c.loop-i.i + 1) octets in
    let lt : c.loop-i.i < length octets = c.loop-i-test.true in
    let front = drop-cons octets c.loop-i.i 0 lt ∙ ap (λ k. octet ∷ drop k octets) (sym (add-one c.loop-i.i)) in
    let next = goes_on_capped limit c.loop-i.number octet rest c.if-octet-lt128.false in
    let m : min (c.loop-i.number * 128 + (octet - 128)) limit ≡ c.min-number.result = sym (c.min-number.ensures ∙ ap (λ k. min (c.loop-i.number * 128 + k) limit) c.from-in-loop-i.ensures) in
    record {
      small = omega arith;
      same = c.loop-i.invariant.same ∙ ap (subidentifiers limit (Some c.loop-i.number)) front ∙ next ∙ ap (λ k. subidentifiers limit (Some k) rest) m;
    }
