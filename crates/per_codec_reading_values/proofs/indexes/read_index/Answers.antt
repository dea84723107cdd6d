use Rattle.asn1_schema_laws.proofs.Joined.{raised}
use Rattle.per_codec_reading.specs.Fronts.{freedoms, is_aligned}
use Rattle.per_codec_reading.proofs.Fronts.{misses_also}
use Rattle.per_codec_laws.specs.Sizes.{extension_bit}
use Rattle.per_codec_reading_values.specs.Indices.{root_form, added_form, index_form}
use Rattle.per_codec_reading_values.proofs.IndexFronts.{added_index, root_index, no_index_extension_bit, no_added_index, no_root_index}
use Rattle.per_codec_reading_values.proofs.indexes.read_index.Goals as goal

pub returns-in_err-is_added-clause-only : goal.returns-in_err-is_added-clause-only
returns-in_err-is_added-clause-only c = raised _ _ _ c.from_residual.ensures.1
    (misses_also (freedoms c.args.rules) (extension_bit c.args.extensible)
    (index_form (is_aligned c.args.rules) c.args.roots c.args.extensible c.args.others) c.args.cursor.now c.args.cursor.now _
    (no_index_extension_bit (freedoms c.args.rules) (is_aligned c.args.rules) c.args.roots c.args.extensible c.args.others c.args.cursor.now) c.in_err-is_added.ensures.only)

pub returns-in_err-place-clause-only : goal.returns-in_err-place-clause-only
returns-in_err-place-clause-only c = raised _ _ _ c.from_residual-in_err-place.ensures.1
    (misses_also (freedoms c.args.rules) (added_form (is_aligned c.args.rules) c.args.others)
    (index_form (is_aligned c.args.rules) c.args.roots c.args.extensible c.args.others) c.read_extension_bit.new.cursor c.args.cursor.now _
    (no_added_index (freedoms c.args.rules) (is_aligned c.args.rules) c.args.roots c.args.extensible c.args.others c.in_ok-is_added.is_added
    c.args.cursor.now c.read_extension_bit.new.cursor c.if-is_added.true c.in_ok-is_added.ensures.ok) c.in_err-place.ensures.only)

pub returns-then-is_added-clause-ok : goal.returns-then-is_added-clause-ok
returns-then-is_added-clause-ok c = added_index (freedoms c.args.rules) (is_aligned c.args.rules) c.args.roots c.args.extensible c.args.others
    c.in_ok-place.place c.in_ok-is_added.is_added c.addition.result c.args.cursor.now c.read_extension_bit.new.cursor c.read_added.new.cursor
    c.if-is_added.true c.addition.ensures c.in_ok-is_added.ensures.ok c.in_ok-place.ensures.ok

pub returns-in_err-place-2-clause-only : goal.returns-in_err-place-2-clause-only
returns-in_err-place-2-clause-only c = raised _ _ _ c.from_residual-in_err-place-2.ensures.1
    (misses_also (freedoms c.args.rules) (root_form (is_aligned c.args.rules) c.args.roots)
    (index_form (is_aligned c.args.rules) c.args.roots c.args.extensible c.args.others) c.read_extension_bit.new.cursor c.args.cursor.now _
    (no_root_index (freedoms c.args.rules) (is_aligned c.args.rules) c.args.roots c.args.extensible c.args.others c.in_ok-is_added.is_added
    c.args.cursor.now c.read_extension_bit.new.cursor c.if-is_added.false c.in_ok-is_added.ensures.ok) c.in_err-place-2.ensures.only)

pub returns-clause-ok : goal.returns-clause-ok
returns-clause-ok c = root_index (freedoms c.args.rules) (is_aligned c.args.rules) c.args.roots c.args.extensible c.args.others c.in_ok-place-2.place
    c.in_ok-is_added.is_added c.root.result c.args.cursor.now c.read_extension_bit.new.cursor c.read_root.new.cursor c.if-is_added.false
    c.root.ensures c.in_ok-is_added.ensures.ok c.in_ok-place-2.ensures.ok
