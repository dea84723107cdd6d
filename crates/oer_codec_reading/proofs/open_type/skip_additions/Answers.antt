use Rattle.asn1_schema_laws.proofs.Joined.{raised}
use Rattle.asn1_values_bits.specs.BitStr.{bits_of}
use Rattle.oer_codec_reading.specs.Fronts.{freedoms}
use Rattle.oer_codec_reading.proofs.Skipping.{all_skipped, first_missed, one_absent, one_present, stopped, together_at_first, together_on}
use Rattle.oer_codec_reading.proofs.open_type.skip_additions.Goals as goal

pub loop-is_there-init : goal.loop-is_there-init
loop-is_there-init c = together_at_first (freedoms c.args.rules) (bits_of c.args.presence_bits) c.args.cursor.now

pub loop-is_there-preserved-then-is_there : goal.loop-is_there-preserved-then-is_there
loop-is_there-preserved-then-is_there c = together_on (freedoms c.args.rules) (bits_of c.args.presence_bits) (bits_of c.loop-is_there.presence_bits)
    (bits_of c.take_bit.new.bits) c.args.cursor.now c.loop-is_there.cursor _ c.loop-is_there.invariant
    (one_present (freedoms c.args.rules) (bits_of c.loop-is_there.presence_bits) (bits_of c.take_bit.new.bits) c.in-Some.is_there _
    c.loop-is_there.cursor _ c.in-Some.ensures.some c.if-is_there.true c.in_ok-_passed_over.ensures.ok)

pub loop-is_there-preserved : goal.loop-is_there-preserved
loop-is_there-preserved c = together_on (freedoms c.args.rules) (bits_of c.args.presence_bits) (bits_of c.loop-is_there.presence_bits)
    (bits_of c.take_bit.new.bits) c.args.cursor.now c.loop-is_there.cursor c.loop-is_there.cursor c.loop-is_there.invariant
    (one_absent (freedoms c.args.rules) (bits_of c.loop-is_there.presence_bits) (bits_of c.take_bit.new.bits) c.in-Some.is_there c.loop-is_there.cursor c.in-Some.ensures.some c.if-is_there.false)

pub returns-in_err-_passed_over-clause-only : goal.returns-in_err-_passed_over-clause-only
returns-in_err-_passed_over-clause-only c = raised _ _ _ c.from_residual.ensures.1
    (stopped (freedoms c.args.rules) (bits_of c.args.presence_bits) (bits_of c.loop-is_there.presence_bits) c.args.cursor.now c.loop-is_there.cursor _
    c.loop-is_there.invariant (first_missed (freedoms c.args.rules) (bits_of c.loop-is_there.presence_bits) (bits_of c.take_bit.new.bits)
    c.in-Some.is_there c.loop-is_there.cursor _ c.in-Some.ensures.some c.if-is_there.true c.in_err-_passed_over.ensures.only))

pub returns-clause-ok : goal.returns-clause-ok
returns-clause-ok c = all_skipped (freedoms c.args.rules) (bits_of c.args.presence_bits) (bits_of c.loop-is_there.presence_bits) c.args.cursor.now
    c.loop-is_there.cursor c.loop-is_there.invariant c.in_default.ensures.none.0
