use Rattle.std.proofs.Common.{◌∙◌, ap, sym, drop}
use Rattle.asn1_schema_laws.proofs.Joined.{raised}
use Rattle.per_codec_laws.specs.Takes.{Position}
use Rattle.per_codec_reading.specs.Fronts.{freedoms, is_aligned}
use Rattle.per_codec_reading.specs.Runs.{bits_in}
use Rattle.std.proofs.Common.{Bool, List}
use Rattle.per_codec_reading.specs.declared.runs.RunBits.{RunBits}
use Rattle.per_codec_reading_values.specs.Fields.{field_form}
use Rattle.per_codec_reading_values.proofs.Passing.{misses_at}
use Rattle.per_codec_reading_values.proofs.stretch.take_field.Goals as goal

pub returns-in_err-taken-in-Lent-clause-only : goal.returns-in_err-taken-in-Lent-clause-only
returns-in_err-taken-in-Lent-clause-only c = raised _ _ _ c.from_residual.ensures.1
    (misses_at (freedoms c.args.rules) (field_form (is_aligned c.args.rules) c.args.field) _ _ _
    (c.at-cursor.ensures ∙ ap (λ (r : RunBits). let p : Position = (c.args.position, drop c.args.position (bits_in r)) in p) (sym c.in-Lent.is)) c.in_err-taken-in-Lent.ensures.only)

pub returns-in_err-taken-in-Joined-clause-only : goal.returns-in_err-taken-in-Joined-clause-only
returns-in_err-taken-in-Joined-clause-only c = raised _ _ _ c.from_residual-in_err-taken-in-Joined.ensures.1
    (misses_at (freedoms c.args.rules) (field_form (is_aligned c.args.rules) c.args.field) _ _ _
    (c.behind-cursor.ensures ∙ ap (λ (bs : List Bool). let p : Position = (c.args.position, drop c.args.position bs) in p)
    (c.as_bitslice.ensures.bits ∙ ap bits_in (sym c.in-Joined.is))) c.in_err-taken-in-Joined.ensures.only)
