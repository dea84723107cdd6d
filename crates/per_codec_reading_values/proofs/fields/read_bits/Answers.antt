use Rattle.asn1_schema_laws.proofs.Joined.{raised}
use Rattle.per_codec_reading.specs.Fronts.{freedoms}
use Rattle.per_codec_reading.proofs.Fronts.{none_misses, ends_early}
use Rattle.asn1_values_bits.specs.BitStr.{bits_of}
use Rattle.per_codec_reading_values.specs.Fields.{bits_form}
use Rattle.per_codec_reading_values.proofs.FieldFronts.{bits_read, few_bits}
use Rattle.per_codec_reading_values.proofs.fields.read_bits.Goals as goal

pub returns-in_err-bits-clause-only : goal.returns-in_err-bits-clause-only
returns-in_err-bits-clause-only c = raised _ _ _ c.from_residual.ensures.1
    (none_misses (freedoms c.args.rules) (bits_form c.args.count) c.args.cursor.now _ (ends_early c.in_err-bits.ensures.short.0)
    (few_bits (freedoms c.args.rules) c.args.count c.args.cursor.now c.in_err-bits.ensures.short.1))

pub returns-clause-ok : goal.returns-clause-ok
returns-clause-ok c = bits_read (freedoms c.args.rules) c.args.count (bits_of c.in_ok-bits.bits) c.args.cursor.now c.take.new.self c.in_ok-bits.ensures.count c.in_ok-bits.ensures.bits
