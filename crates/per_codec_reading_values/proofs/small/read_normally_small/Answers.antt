use Rattle.std.proofs.Common.{subst, sym}
use Rattle.asn1_schema_laws.proofs.Joined.{raised}
use Rattle.per_codec_reading.specs.Fronts.{freedoms, is_aligned}
use Rattle.per_codec_laws.specs.Takes.{Front}
use Rattle.per_codec_reading.specs.Lengths.{one_bit, number_within}
use Rattle.per_codec_reading.proofs.Fronts.{misses_also}
use Rattle.per_codec_reading_values.specs.Integers.{offset_form}
use Rattle.per_codec_reading_values.specs.Indices.{small_form}
use Rattle.per_codec_reading_values.proofs.SmallFronts.{short_small, long_small, not_long, no_small_bit, no_long, no_short}
use Rattle.per_codec_reading_values.proofs.small.read_normally_small.Goals as goal

pub returns-in_err-is_long-clause-only : goal.returns-in_err-is_long-clause-only
returns-in_err-is_long-clause-only c = raised _ _ _ c.from_residual.ensures.1
    (misses_also (freedoms c.args.rules) one_bit (small_form (is_aligned c.args.rules)) c.args.cursor.now c.args.cursor.now _
    (no_small_bit (freedoms c.args.rules) (is_aligned c.args.rules) c.args.cursor.now) c.in_err-is_long.ensures.only)

pub returns-in_err-number-clause-only : goal.returns-in_err-number-clause-only
returns-in_err-number-clause-only c = raised _ _ _ c.from_residual-in_err-number.ensures.1
    (misses_also (freedoms c.args.rules) (offset_form (is_aligned c.args.rules)) (small_form (is_aligned c.args.rules)) c.read_bit.new.cursor
    c.args.cursor.now _ (no_long (freedoms c.args.rules) (is_aligned c.args.rules) c.args.cursor.now c.read_bit.new.cursor
    (subst (λ v. Front (freedoms c.args.rules) (one_bit v) c.args.cursor.now c.read_bit.new.cursor) c.if-is_long.true c.in_ok-is_long.ensures.ok)) c.in_err-number.ensures.only)

pub returns-then-is_long-clause-ok : goal.returns-then-is_long-clause-ok
returns-then-is_long-clause-ok c = long_small (freedoms c.args.rules) (is_aligned c.args.rules) c.in_ok-number.number c.args.cursor.now
    c.read_bit.new.cursor c.read_semi_constrained.new.cursor (sym c.if-not-is_accepted.ensures)
    (subst (λ v. Front (freedoms c.args.rules) (one_bit v) c.args.cursor.now c.read_bit.new.cursor) c.if-is_long.true c.in_ok-is_long.ensures.ok) c.in_ok-number.ensures.ok

pub returns-then-not-is_accepted-clause-only : goal.returns-then-not-is_accepted-clause-only
returns-then-not-is_accepted-clause-only c = not_long (freedoms c.args.rules) (is_aligned c.args.rules) c.in_ok-number.number c.args.cursor.now
    c.read_bit.new.cursor c.read_semi_constrained.new.cursor (sym c.if-not-is_accepted.ensures)
    (subst (λ v. Front (freedoms c.args.rules) (one_bit v) c.args.cursor.now c.read_bit.new.cursor) c.if-is_long.true c.in_ok-is_long.ensures.ok) c.in_ok-number.ensures.ok

pub returns-in_err-number-2-clause-only : goal.returns-in_err-number-2-clause-only
returns-in_err-number-2-clause-only c = raised _ _ _ c.from_residual-in_err-number-2.ensures.1
    (misses_also (freedoms c.args.rules) (number_within 6 63) (small_form (is_aligned c.args.rules)) c.read_bit.new.cursor c.args.cursor.now _
    (no_short (freedoms c.args.rules) (is_aligned c.args.rules) c.args.cursor.now c.read_bit.new.cursor
    (subst (λ v. Front (freedoms c.args.rules) (one_bit v) c.args.cursor.now c.read_bit.new.cursor) c.if-is_long.false c.in_ok-is_long.ensures.ok)) c.in_err-number-2.ensures.only)

pub returns-clause-ok : goal.returns-clause-ok
returns-clause-ok c = short_small (freedoms c.args.rules) (is_aligned c.args.rules) c.in_ok-number-2.number c.args.cursor.now c.read_bit.new.cursor
    c.read_number_within.new.cursor (subst (λ v. Front (freedoms c.args.rules) (one_bit v) c.args.cursor.now c.read_bit.new.cursor) c.if-is_long.false
    c.in_ok-is_long.ensures.ok) c.in_ok-number-2.ensures.ok
