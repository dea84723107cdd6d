use Rattle.std.proofs.Common.{◌≡◌, ◌+◌, slice_range, subst, arith}
use Rattle.asn1_model.specs.Form.{joined}
use Rattle.per_codec_packing.specs.FieldLists.{field_list_at}
use Rattle.per_codec_writing.specs.Writing.{Adds, place}
use Rattle.per_codec_writing.proofs.HeadingForms.{last_added}
use Rattle.per_codec_rules.specs.Variants.{is_aligned}
use Rattle.per_codec_writing.proofs.counted.push_due.Goals as goal

pub returns-in_ok-push_range-in-None : goal.returns-in_ok-push_range-in-None
returns-in_ok-push_range-in-None g c =
    let us = g.U.Units.forms c.args.units.now in
    let due = c.requires.due in
    let old = c.args.output.now in
    let new = c.push_range.new.output in
    let same : c.args.first.units ≡ 0 + c.args.first.units = omega arith in
    last_added (is_aligned c.args.variant) us 0 c.args.first (omega arith) (record { all = omega (arith, due.all); ready = due.ready }) old new c.in-None.is
    (subst (λ k. Adds (field_list_at (joined (slice_range us 0 k)) (place old)) old new) same c.in_ok-push_range-in-None.ensures)
