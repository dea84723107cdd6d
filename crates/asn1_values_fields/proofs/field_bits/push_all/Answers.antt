use Rattle.std.proofs.Common.{◌+◌, suc, ◌∷◌, drop, ap, sym, ◌∙◌, add-one, drop-cons}
use Rattle.asn1_values_fields.specs.Written.{bits_of_fields, appended}
use Rattle.asn1_values_fields.proofs.Appending.{field_next, is_there, kept_on, unwritten_here, unwritten_later}
use Rattle.asn1_values_fields.proofs.field_bits.push_all.Goals as goal

pub returns-in-Err-clause-wrong : goal.returns-in-Err-clause-wrong
returns-in-Err-clause-wrong c =
    let fields = c.args.fields.now in
    let i = c.loop-field.field in
    let f = c.index-fields-field.result in
    let d = drop-cons fields i f c.loop-field-test.true ∙ ap (λ x. x ∷ drop (suc i) fields) (sym c.index-fields-field.is) in
    unwritten_here fields i f (drop (suc i) fields) c.in-Err.kind d c.loop-field.invariant.stuck c.in-Err.ensures.wrong

pub loop-field-preserved : goal.loop-field-preserved
loop-field-preserved c =
    let fields = c.args.fields.now in
    let i = c.loop-field.field in
    let f = c.index-fields-field.result in
    let d = drop-cons fields i f c.loop-field-test.true ∙ ap (λ x. x ∷ drop (suc i) fields) (sym c.index-fields-field.is) ∙ ap (λ k. f ∷ drop k fields) (sym (add-one i)) in
    let next = field_next f (drop (i + 1) fields) c.loop-field.buffer c.push_to.new.buffer c.in-Ok.ensures.ok in
    record {
      done = sym next ∙ ap (λ l. appended c.loop-field.buffer (bits_of_fields l)) (sym d) ∙ c.loop-field.invariant.done;
      kept = kept_on c.args.buffer.now c.loop-field.buffer c.push_to.new.buffer c.loop-field.invariant.kept c.push_to.ensures.kept;
      stuck = unwritten_later fields i f (drop (i + 1) fields) d c.loop-field.invariant.stuck (is_there c.loop-field.buffer c.push_to.new.buffer _ c.in-Ok.ensures.ok);
    }
