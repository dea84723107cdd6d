use Rattle.std.proofs.Common.{subst}
use Rattle.asn1_schema_laws.proofs.Joined.{raised}
use Rattle.per_codec_reading.specs.Fronts.{freedoms, is_aligned}
use Rattle.per_codec_reading.proofs.Fronts.{misses_fresh}
use Rattle.per_codec_reading.specs.Units.{counted_units}
use Rattle.per_codec_reading_values.proofs.Passing.{Reaches, reaches_there, reaches_absent, reaches_end, reaches_stop}
use Rattle.per_codec_reading_values.proofs.open_type.skip_unknown.Goals as goal

pub loop-is_there-preserved-in-Continue-1 : goal.loop-is_there-preserved-in-Continue-1
loop-is_there-preserved-in-Continue-1 c = reaches_there (freedoms c.args.rules) (is_aligned c.args.rules) c.args.presence_bits.place.1
    c.in-Some.is_there c.next_bit.new.self.place.1 c.args.cursor.now c.loop-is_there.cursor c.skip_octets.new.cursor c.if-is_there.true
    (subst (λ l. Reaches (freedoms c.args.rules) (is_aligned c.args.rules) c.args.presence_bits.place.1 c.args.cursor.now l c.loop-is_there.cursor)
    c.in-Some.ensures.some c.loop-is_there.invariant) c.in_ok-skip_octets.ensures.ok

pub loop-is_there-preserved : goal.loop-is_there-preserved
loop-is_there-preserved c = reaches_absent (freedoms c.args.rules) (is_aligned c.args.rules) c.args.presence_bits.place.1 c.in-Some.is_there
    c.next_bit.new.self.place.1 c.args.cursor.now c.loop-is_there.cursor c.if-is_there.false
    (subst (λ l. Reaches (freedoms c.args.rules) (is_aligned c.args.rules) c.args.presence_bits.place.1 c.args.cursor.now l c.loop-is_there.cursor) c.in-Some.ensures.some c.loop-is_there.invariant)

pub returns-in_err-skip_octets-clause-only : goal.returns-in_err-skip_octets-clause-only
returns-in_err-skip_octets-clause-only c = raised _ _ _ c.from_residual.ensures.1
    (reaches_stop (freedoms c.args.rules) (is_aligned c.args.rules) c.args.presence_bits.place.1 c.in-Some.is_there c.next_bit.new.self.place.1
    c.args.cursor.now c.loop-is_there.cursor _ c.if-is_there.true
    (subst (λ l. Reaches (freedoms c.args.rules) (is_aligned c.args.rules) c.args.presence_bits.place.1 c.args.cursor.now l c.loop-is_there.cursor)
    c.in-Some.ensures.some c.loop-is_there.invariant) c.in_err-skip_octets.ensures.only)

pub returns-in_err-skip_octets-clause-fresh : goal.returns-in_err-skip_octets-clause-fresh
returns-in_err-skip_octets-clause-fresh c = raised _ _ _ c.from_residual.ensures.1
    (misses_fresh (freedoms c.args.rules) (counted_units (is_aligned c.args.rules) 8) c.loop-is_there.cursor _ c.in_err-skip_octets.ensures.only)

pub returns-clause-ok : goal.returns-clause-ok
returns-clause-ok c = reaches_end (freedoms c.args.rules) (is_aligned c.args.rules) c.args.presence_bits.place.1 c.loop-is_there.presence_bits.place.1
    c.args.cursor.now c.loop-is_there.cursor c.in_default.ensures.none c.loop-is_there.invariant
