use Rattle.std.proofs.Common.{subst, sym}
use Rattle.asn1_schema_laws.proofs.Joined.{raised}
use Rattle.per_codec_laws.specs.Takes.{Front}
use Rattle.per_codec_reading.specs.Fronts.{freedoms, is_aligned}
use Rattle.per_codec_reading.proofs.Fronts.{misses_also, none_misses, ends_early}
use Rattle.asn1_values_bits.specs.BitStr.{bits_of}
use Rattle.per_codec_reading.specs.Lengths.{one_bit, number_within}
use Rattle.per_codec_reading.specs.Units.{counted_units}
use Rattle.per_codec_reading.specs.Runs.{units_in}
use Rattle.per_codec_reading_values.specs.Fields.{few_form}
use Rattle.per_codec_reading_values.proofs.FieldFronts.{not_long, no_bitmap_bit, no_long_bitmap, long_bitmap, no_short_number, short_of_bits, short_bitmap}
use Rattle.per_codec_reading_values.proofs.fields.read_normally_few.Goals as goal

pub returns-in_err-is_long-clause-only : goal.returns-in_err-is_long-clause-only
returns-in_err-is_long-clause-only c = raised _ _ _ c.from_residual.ensures.1
    (misses_also (freedoms c.args.rules) one_bit (few_form (is_aligned c.args.rules)) c.args.cursor.now c.args.cursor.now _
    (no_bitmap_bit (freedoms c.args.rules) (is_aligned c.args.rules) c.args.cursor.now) c.in_err-is_long.ensures.only)

pub returns-in_err-run-clause-only : goal.returns-in_err-run-clause-only
returns-in_err-run-clause-only c = raised _ _ _ c.from_residual-in_err-run.ensures.1
    (misses_also (freedoms c.args.rules) (counted_units (is_aligned c.args.rules) 1) (few_form (is_aligned c.args.rules)) c.read_bit.new.cursor
    c.args.cursor.now _ (no_long_bitmap (freedoms c.args.rules) (is_aligned c.args.rules) c.args.cursor.now c.read_bit.new.cursor
    (subst (λ v. Front (freedoms c.args.rules) (one_bit v) c.args.cursor.now c.read_bit.new.cursor) c.if-is_long.true c.in_ok-is_long.ensures.ok)) c.in_err-run.ensures.only)

pub returns-then-is_long-clause-ok : goal.returns-then-is_long-clause-ok
returns-then-is_long-clause-ok c = long_bitmap (freedoms c.args.rules) (is_aligned c.args.rules) (units_in c.in_ok-run.run') c.args.cursor.now
    c.read_bit.new.cursor c.read_counted.new.cursor (sym c.if-not-is_accepted.ensures)
    (subst (λ v. Front (freedoms c.args.rules) (one_bit v) c.args.cursor.now c.read_bit.new.cursor) c.if-is_long.true c.in_ok-is_long.ensures.ok) c.in_ok-run.ensures.ok

pub returns-then-not-is_accepted-clause-only : goal.returns-then-not-is_accepted-clause-only
returns-then-not-is_accepted-clause-only c = not_long (freedoms c.args.rules) (is_aligned c.args.rules) (units_in c.in_ok-run.run') c.args.cursor.now
    c.read_bit.new.cursor c.read_counted.new.cursor (sym c.if-not-is_accepted.ensures)
    (subst (λ v. Front (freedoms c.args.rules) (one_bit v) c.args.cursor.now c.read_bit.new.cursor) c.if-is_long.true c.in_ok-is_long.ensures.ok) c.in_ok-run.ensures.ok

pub returns-in_err-further-clause-only : goal.returns-in_err-further-clause-only
returns-in_err-further-clause-only c = raised _ _ _ c.from_residual-in_err-further.ensures.1
    (misses_also (freedoms c.args.rules) (number_within 6 63) (few_form (is_aligned c.args.rules)) c.read_bit.new.cursor c.args.cursor.now _
    (no_short_number (freedoms c.args.rules) (is_aligned c.args.rules) c.args.cursor.now c.read_bit.new.cursor
    (subst (λ v. Front (freedoms c.args.rules) (one_bit v) c.args.cursor.now c.read_bit.new.cursor) c.if-is_long.false c.in_ok-is_long.ensures.ok)) c.in_err-further.ensures.only)

pub returns-in_err-bits-clause-only : goal.returns-in_err-bits-clause-only
returns-in_err-bits-clause-only c = raised _ _ _ c.from_residual-in_err-bits.ensures.1
    (none_misses (freedoms c.args.rules) (few_form (is_aligned c.args.rules)) c.args.cursor.now _ (ends_early c.in_err-bits.ensures.short.0)
    (short_of_bits (freedoms c.args.rules) (is_aligned c.args.rules) c.in_ok-further.further c.args.cursor.now c.read_bit.new.cursor
    c.read_number_within.new.cursor (subst (λ v. Front (freedoms c.args.rules) (one_bit v) c.args.cursor.now c.read_bit.new.cursor) c.if-is_long.false
    c.in_ok-is_long.ensures.ok) c.in_ok-further.ensures.ok c.in_err-bits.ensures.short.1))

pub returns-clause-ok : goal.returns-clause-ok
returns-clause-ok c = short_bitmap (freedoms c.args.rules) (is_aligned c.args.rules) c.in_ok-further.further (bits_of c.in_ok-bits.bits)
    c.args.cursor.now c.read_bit.new.cursor c.read_number_within.new.cursor c.take.new.self
    (subst (λ v. Front (freedoms c.args.rules) (one_bit v) c.args.cursor.now c.read_bit.new.cursor) c.if-is_long.false c.in_ok-is_long.ensures.ok)
    c.in_ok-further.ensures.ok c.in_ok-bits.ensures.count c.in_ok-bits.ensures.bits
