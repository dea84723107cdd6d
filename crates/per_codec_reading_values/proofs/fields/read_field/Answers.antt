use Rattle.std.proofs.Common.{IfErr, sym, subst}
use Rattle.per_codec_reading.specs.Fronts.{freedoms, is_aligned, Misses}
use Rattle.per_codec_reading_values.specs.Fields.{field_form}
use Rattle.per_codec_reading_values.proofs.fields.read_field.Goals as goal

pub returns-in-Bits-clause-only : goal.returns-in-Bits-clause-only
returns-in-Bits-clause-only c =
    subst (λ d. IfErr c.read_bits.result (Misses (freedoms c.args.rules) (field_form (is_aligned c.args.rules) d) c.args.cursor.now)) (sym c.in-Bits.is) c.read_bits.ensures.only

pub returns-in-Bitmap-clause-only : goal.returns-in-Bitmap-clause-only
returns-in-Bitmap-clause-only c =
    subst (λ d. IfErr c.read_normally_few.result (Misses (freedoms c.args.rules) (field_form (is_aligned c.args.rules) d) c.args.cursor.now)) (sym c.in-Bitmap.is) c.read_normally_few.ensures.only
