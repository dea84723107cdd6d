use Rattle.std.proofs.Common.{subst, ◌∙◌}
use Rattle.std.proofs.lemmas.Int.{to_z-of_z}
use Rattle.std.specs.Int.{w64}
use mir.Val.{SFits}
use Rattle.asn1_model.specs.Form.{written}
use Rattle.asn1_model.specs.Oer
use Rattle.oer_codec_writing.specs.Writing.{Adds}
use Rattle.oer_codec_writing.proofs.ScalarTexts.{item_text, item_none, adds_same}
use Rattle.asn1_values_bits.proofs.Refused.{though_refused}
use Rattle.oer_codec_writing.proofs.enumerated.push_enumerated.Goals as goal

pub returns-then-has-clause-text : goal.returns-then-has-clause-text
returns-then-has-clause-text g c =
    let e = g.I.EnumerationItems in
    let i = c.args.items.now in
    let x = c.has.ensures.there c.if-has.true in
    let fits : SFits w64 c.number_of.result = record { sfits = c.number_of.type_inv } in
    adds_same _ _ c.args.octets.now.items c.push_item.new.octets.items (item_text (e.roots i) (e.extensible i) (e.additions i) (e.number c.args.item.now) x.0 x.1 x.2)
    (subst (λ z. Adds (written (Oer.item_form z) 0) c.args.octets.now.items c.push_item.new.octets.items) (to_z-of_z w64 c.number_of.result fits ∙ c.number_of.ensures) c.in_ok-push_item.ensures.text)

pub returns-clause-text : goal.returns-clause-text
returns-clause-text g c =
    let e = g.I.EnumerationItems in
    let i = c.args.items.now in
    item_none (e.roots i) (e.extensible i) (e.additions i) (e.number c.args.item.now) (c.has.ensures.none c.if-has.false)

pub returns-in_err-push_item-clause-kept : goal.returns-in_err-push_item-clause-kept
returns-in_err-push_item-clause-kept g c = though_refused _ c.in_err-push_item.ensures.kept
