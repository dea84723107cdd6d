use Rattle.std.proofs.Common.{subst}
use Rattle.per_codec_packing.specs.FieldLists.{field_list_at}
use Rattle.asn1_model.specs.Per.{constrained}
use Rattle.per_codec_writing.specs.Writing.{place}
use Rattle.per_codec_writing.proofs.NumberFieldLists.{Did}
use Rattle.per_codec_writing.proofs.IndexFieldLists.{turned_false, turned_true, did_root, adds_added, none_added}
use Rattle.per_codec_rules.specs.Variants.{is_aligned}
use Rattle.per_codec_writing.proofs.enumerated.push_index.Goals as goal

pub returns-then-not-chosen : goal.returns-then-not-chosen
returns-then-not-chosen c =
    let al = (is_aligned c.args.variant) in
    let mid = c.push_extension_bit.new.output in
    did_root c.push_constrained.result al c.args.extensible c.args.chosen.added c.args.roots c.args.chosen.place c.args.output.now mid
    c.push_constrained.new.output (turned_false c.args.chosen.added c.if-not-chosen.true) c.in_ok-push_extension_bit.ensures
    (subst (λ n. Did c.push_constrained.result (field_list_at (constrained al n c.args.chosen.place) (place mid)) mid c.push_constrained.new.output)
    c.saturating_sub-span.ensures c.push_constrained.ensures)

pub returns-then-not-extensible : goal.returns-then-not-extensible
returns-then-not-extensible c = none_added (is_aligned c.args.variant) c.args.extensible c.args.chosen.added c.args.roots c.args.chosen.place
    (place c.args.output.now) (turned_true c.args.chosen.added c.if-not-chosen.false) c.if-not-extensible.true

pub returns : goal.returns
returns c = adds_added (is_aligned c.args.variant) c.args.extensible c.args.chosen.added c.args.roots c.args.chosen.place c.args.output.now
    c.push.new.self c.push_normally_small.new.output (turned_true c.args.chosen.added c.if-not-chosen.false) c.if-not-extensible.false c.in_ok-push.ensures.ok c.in_ok-push_normally_small.ensures
