use Rattle.std.proofs.Common.{◌≡◌, ◌%◌, length, ap, sym, subst}
use Rattle.asn1_schema_laws.proofs.Joined.{raised}
use Rattle.asn1_values_bits.specs.BitStr.{bits_of, offset_of}
use Rattle.per_codec_reading.specs.Fronts.{freedoms, is_aligned}
use Rattle.per_codec_reading.specs.Runs.{bits_in, storage_of, StandsIn, StandsBefore}
use Rattle.per_codec_reading.proofs.LastFronts.{stands_before}
use Rattle.per_codec_reading_values.specs.Fields.{octets_form}
use Rattle.per_codec_reading_values.proofs.Moving.{stands}
use Rattle.per_codec_reading_values.proofs.Passing.{misses_at}
use Rattle.per_codec_reading_values.proofs.Inside.{lent_inside}
use Rattle.per_codec_reading_values.proofs.stretch.take_lent_octets.Goals as goal

pub returns-in_err-octets-clause-only : goal.returns-in_err-octets-clause-only
returns-in_err-octets-clause-only c = raised _ _ _ c.from_residual.ensures.1
    (misses_at (freedoms c.args.rules) (octets_form (is_aligned c.args.rules)) _ _ _ c.at-cursor.ensures c.in_err-octets.ensures.only)

pub lent_by-requires : goal.lent_by-requires
lent_by-requires c =
    let all = bits_of c.args.bits in
    let s : StandsIn all c.at-cursor.result = subst (StandsIn all) (sym c.at-cursor.ensures) (stands all c.args.position c.requires) in
    subst (λ n. StandsBefore c.in_ok-octets.octets all n) (sym c.position-end.ensures)
    (stands_before c.in_ok-octets.octets all c.at-cursor.result c.read_open_type.new.cursor s c.in_ok-octets.ensures.last)

pub returns-clause-storage : goal.returns-clause-storage
returns-clause-storage c =
    let octets = c.in_ok-octets.octets in
    let n = length (bits_in c.lent_by.result) in
    let q : length (bits_in octets) ≡ n = ap length (sym c.lent_by.ensures.same) in
    lent_inside (offset_of c.args.bits) c.position-end.result n octets (storage_of c.lent_by.result) q
    (subst (λ m. m % 8 ≡ 0) q c.in_ok-octets.ensures.whole) c.in_ok-octets.ensures.lent c.lent_by.ensures.lent c.lent_by.ensures.joined
