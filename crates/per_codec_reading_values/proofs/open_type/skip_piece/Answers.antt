use Rattle.std.proofs.Common.{◌∙◌, ◌*◌, ◌<◌, ap, subst, length}
use Rattle.asn1_schema_laws.proofs.Joined.{raised}
use Rattle.per_codec_reading.specs.Fronts.{freedoms, is_aligned}
use Rattle.per_codec_reading.proofs.Fronts.{misses_also, none_misses, ends_early}
use Rattle.asn1_values_bits.specs.BitStr.{bits_of}
use Rattle.per_codec_reading.specs.Lengths.{length_form}
use Rattle.per_codec_reading.specs.Units.{piece_form}
use Rattle.per_codec_reading.proofs.RunFronts.{piece_in, no_length, too_few}
use Rattle.per_codec_reading_values.proofs.open_type.skip_piece.Goals as goal

pub returns-in_err-length-clause-only : goal.returns-in_err-length-clause-only
returns-in_err-length-clause-only c = raised _ _ _ c.from_residual.ensures.1
    (misses_also (freedoms c.args.rules) (length_form (is_aligned c.args.rules)) (piece_form (is_aligned c.args.rules) 8) c.args.cursor.now
    c.args.cursor.now _ (no_length (freedoms c.args.rules) (is_aligned c.args.rules) 8 c.args.cursor.now) c.in_err-length.ensures.only)

pub returns-in_err-_octets-clause-only : goal.returns-in_err-_octets-clause-only
returns-in_err-_octets-clause-only c = raised _ _ _ c.from_residual-in_err-_octets.ensures.1
    (none_misses (freedoms c.args.rules) (piece_form (is_aligned c.args.rules) 8) c.args.cursor.now _ (ends_early c.in_err-_octets.ensures.short.0)
    (too_few (freedoms c.args.rules) (is_aligned c.args.rules) 8 c.in_ok-length.length c.args.cursor.now c.read_length.new.cursor
    c.in_ok-length.ensures.ok (subst (λ k. length c.read_length.new.cursor.1 < k * 8) c.count.ensures.count c.in_err-_octets.ensures.short.1)))

pub returns-clause-ok : goal.returns-clause-ok
returns-clause-ok c = (
  bits_of c.in_ok-_octets._octets,
  piece_in (freedoms c.args.rules) (is_aligned c.args.rules) 8 c.in_ok-length.length
      (bits_of c.in_ok-_octets._octets) c.args.cursor.now c.read_length.new.cursor c.take.new.self c.in_ok-length.ensures.ok
      c.in_ok-_octets.ensures.bits (c.in_ok-_octets.ensures.count ∙ ap (λ k. k * 8) c.count.ensures.count),
)
