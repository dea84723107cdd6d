use Rattle.std.proofs.Common.{◌++◌, ◌∷◌, [], length, ap, ◌∙◌}
use Rattle.asn1_model.specs.Numbers.{binary, missing}
use Rattle.asn1_values_bits.proofs.Binary.{binary_zero}
use Rattle.per_codec_packing.proofs.Kept.{with_padding, padding_added, left_open}
use Rattle.per_codec_packing.proofs.packing.Packing.push_due_padding.Goals as goal

pub returns-then-self-clause-ok : goal.returns-then-self-clause-ok
returns-then-self-clause-ok c =
    let bits = c.self.inside.bits in
    padding_added bits c.self.inside.paddings.items c.self.inside.is_placed c.self.invariant c.args.self.now c.self.view_is c.push_bits.new.self c.if-self.true
    (c.in_ok-push_bits.ensures.ok ∙ ap (λ n. bits ++ binary n 0) (c.free_bits.ensures ∙ ap missing c.len-len.ensures) ∙ ap (λ l. bits ++ l) (binary_zero (missing (length bits))))

pub invariant_of-self-2 : goal.invariant_of-self-2
invariant_of-self-2 c =
    with_padding c.self.inside.bits c.self.inside.paddings.items c.self.inside.is_placed c.self.invariant c.push.new.self.items c.if-self.false
    (c.in_ok-push.ensures.items ∙ ap (λ n. c.self.inside.paddings.items ++ n ∷ []) c.len-len.ensures)

pub returns-clause-ok : goal.returns-clause-ok
returns-clause-ok c =
    left_open c.self.inside.bits c.self.inside.paddings.items c.self.inside.is_placed c.self.invariant c.args.self.now c.self.view_is c.push.new.self.items c.if-self.false
    (c.in_ok-push.ensures.items ∙ ap (λ n. c.self.inside.paddings.items ++ n ∷ []) c.len-len.ensures)
