use Rattle.std.proofs.Common.{◌≡◌, ◌+◌, ◌/◌, true, subst, arith, slice_index, slice_set}
use Rattle.asn1_model.specs.Numbers.{binary}
use Rattle.oer_codec_encoder.proofs.AdditionScopes.{is_so}
use Rattle.oer_codec_encoder.proofs.EndScopes.{does_end_root, does_end_added, is_not_so}
use Rattle.oer_codec_encoder.proofs.ends.end_added.Goals as goal

pub returns-then-not-additions-clause-step : goal.returns-then-not-additions-clause-step
returns-then-not-additions-clause-step c k = does_end_root c.args.additions k c.args.octets.now.items c.truncate.new.self.items
    (omega (arith, c.if-additions-gt0.false)) (is_not_so c.args.additions.any c.if-not-additions.true) c.truncate.ensures.items

pub returns-clause-step : goal.returns-clause-step
returns-clause-step c k =
    let a = c.args.additions in
    let at : a.start + 0 / 8 ≡ a.start = omega arith in
    let o = c.args.octets.now.items in
    let p = c.raise_bit.new.octets.items in
    does_end_added a k o p (omega (arith, c.if-additions-gt0.false)) (is_so a.any c.if-not-additions.false) (subst (λ j. p ≡ slice_set o j (slice_index p j)) at c.raise_bit.ensures.others)
    (subst (λ j. binary 8 (slice_index p j) ≡ slice_set (binary 8 (slice_index o j)) 0 true) at c.raise_bit.ensures.bit) c.type_inv.octets
