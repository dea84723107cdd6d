use Rattle.std.proofs.Common.{◌+◌, suc, ◌∷◌, drop, ap, sym, ◌∙◌, add-one, drop-cons}
use Rattle.asn1_values_fields.proofs.Chains.{memory_wanted, unread_here, unread_later, read_later, read_whole_list}
use Rattle.asn1_values_fields.proofs.reading.read_all.Goals as goal

pub returns-in-Err-clause-wrong : goal.returns-in-Err-clause-wrong
returns-in-Err-clause-wrong c =
    let shapes = c.args.shapes.now in
    let i = c.loop-field.field in
    let s = c.index-shapes-field.result in
    let d = drop-cons shapes i s c.loop-field-test.true ∙ ap (λ x. x ∷ drop (suc i) shapes) (sym c.index-shapes-field.is) in
    unread_here shapes c.args.reader.now.bits c.loop-field.reader.bits i s (drop (suc i) shapes) c.in-Err.kind d c.loop-field.invariant.stuck c.in-Err.ensures.wrong

pub returns-in-Err-push-clause-wrong : goal.returns-in-Err-push-clause-wrong
returns-in-Err-push-clause-wrong c =
    let shapes = c.args.shapes.now in
    let i = c.loop-field.field in
    let s = c.index-shapes-field.result in
    let d = drop-cons shapes i s c.loop-field-test.true ∙ ap (λ x. x ∷ drop (suc i) shapes) (sym c.index-shapes-field.is) in
    unread_here shapes c.args.reader.now.bits c.loop-field.reader.bits i s (drop (suc i) shapes) _ d c.loop-field.invariant.stuck (memory_wanted s c.loop-field.reader.bits)

pub loop-field-preserved : goal.loop-field-preserved
loop-field-preserved c =
    let shapes = c.args.shapes.now in
    let i = c.loop-field.field in
    let s = c.index-shapes-field.result in
    let rest = drop (i + 1) shapes in
    let d = drop-cons shapes i s c.loop-field-test.true ∙ ap (λ x. x ∷ drop (suc i) shapes) (sym c.index-shapes-field.is) ∙ ap (λ k. s ∷ drop k shapes) (sym (add-one i)) in
    record {
      done = read_later shapes c.args.reader.now.bits c.loop-field.reader.bits c.read_field.new.reader.bits i s rest c.in-Ok.value
          c.loop-field.values.items c.push.new.self.items d c.loop-field.invariant.done c.in-Ok.ensures.value c.in-Ok.ensures.rest.0 c.in-Ok.ensures.rest.1 c.in-Ok-push.ensures.items;
      stuck = unread_later shapes c.args.reader.now.bits c.loop-field.reader.bits c.read_field.new.reader.bits i s rest c.in-Ok.value d
          c.loop-field.invariant.stuck c.in-Ok.ensures.value c.in-Ok.ensures.rest.1;
    }

pub returns-clause-ok : goal.returns-clause-ok
returns-clause-ok c = read_whole_list c.args.shapes.now c.args.reader.now.bits c.loop-field.reader.bits c.loop-field.field c.loop-field.values.items c.loop-field-test.false c.loop-field.invariant.done
