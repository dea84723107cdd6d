use Rattle.std.proofs.Common.{◌≡◌, ◌%◌, Some, length, drop, ap, sym, ◌∙◌, subst, arith}
use Rattle.asn1_model.specs.Per
use Rattle.asn1_model.specs.Schema.{octet_string}
use Rattle.asn1_model.specs.Value.{octet_list}
use Rattle.asn1_schema_constraints.specs.Bounds.{counts_of}
use Rattle.asn1_schema_constraints.specs.Terms.{size_of}
use Rattle.asn1_schema_laws.proofs.Joined.{raised}
use Rattle.asn1_values_bits.specs.BitStr.{bits_of}
use Rattle.per_codec_laws.specs.Takes.{Position, Front}
use Rattle.per_codec_reading.specs.Fronts.{freedoms, is_aligned}
use Rattle.per_codec_reading.proofs.Fronts.{misses_also}
use Rattle.per_codec_reading.specs.Octets.{octets_of}
use Rattle.per_codec_reading.specs.Runs.{bits_in, units_in, InOneRun, StandsIn, StandsBefore}
use Rattle.per_codec_reading.specs.Headings.{contents_have_padding, sized_units, told_in_front}
use Rattle.per_codec_reading.specs.declared.sized.Contents.TheVariants.{Strings}
use Rattle.per_codec_reading.proofs.LastFronts.{stands_before}
use Rattle.per_codec_reading.proofs.OctetFronts.{length-octet_bits}
use Rattle.per_codec_reading.proofs.StringFronts.{sized_size, octet_string_stands, no_octet_string}
use Rattle.per_codec_reading_values.proofs.Moving.{stands}
use Rattle.per_codec_reading_values.proofs.Passing.{misses_at}
use Rattle.per_codec_reading_values.proofs.octet_string.read_octet_string.Goals as goal

pub returns-in_err-units-clause-only : goal.returns-in_err-units-clause-only
returns-in_err-units-clause-only c =
    let f = freedoms c.args.rules in
    let al = is_aligned c.args.rules in
    let z = size_of c.args.sizes in
    let h = counts_of c.args.held in
    let a = c.at-cursor.result in
    raised _ _ _ c.from_residual.ensures.1 (misses_at f (Per.form al (octet_string z h)) _ _ _ c.at-cursor.ensures
    (misses_also f (sized_units al z h 8 (contents_have_padding Strings 8)) (Per.form al (octet_string z h)) a a _ (no_octet_string f al z h a) c.in_err-units.ensures.only))

pub lent_by-requires : goal.lent_by-requires
lent_by-requires c =
    let bits = c.in_ok-units.units.bits in
    let all = bits_of c.args.bits in
    let a = c.at-cursor.result in
    let s : StandsIn all a = subst (StandsIn all) (sym c.at-cursor.ensures) (stands all c.args.position c.requires) in
    subst (λ n. StandsBefore bits all n) (sym c.position-end.ensures) (stands_before bits all a c.read_sized.new.cursor s c.in_ok-units.ensures.last)

pub into_octets-requires : goal.into_octets-requires
into_octets-requires c =
    let us = units_in c.in_ok-units.units in
    let n = sized_size (freedoms c.args.rules) (is_aligned c.args.rules) (size_of c.args.sizes) (counts_of c.args.held) 8
    (contents_have_padding Strings 8) us c.at-cursor.result c.read_sized.new.cursor c.in_ok-units.ensures.ok in
    let l : length (bits_in c.lent_by.result) ≡ length us.1 = ap length c.lent_by.ensures.same in
    omega (arith, n, l)

pub returns-clause-ok : goal.returns-clause-ok
returns-clause-ok c =
    let f = freedoms c.args.rules in
    let al = is_aligned c.args.rules in
    let z = size_of c.args.sizes in
    let h = counts_of c.args.held in
    let us = units_in c.in_ok-units.units in
    let os = octets_of c.in_ok-octets.octets in
    let b = c.read_sized.new.cursor in
    let g = octet_string_stands f al z h us os c.at-cursor.result b c.in_ok-units.ensures.ok c.in_ok-octets.ensures.small (c.in_ok-octets.ensures.octets ∙ c.lent_by.ensures.same) in
    (b, sym c.position-end.ensures, subst (λ (p : Position). Front f (Per.form al (octet_string z h) (octet_list os)) p b) c.at-cursor.ensures g)

pub returns-clause-lent : goal.returns-clause-lent
returns-clause-lent c = λ one end.
    let z = size_of c.args.sizes in
    let us = units_in c.in_ok-units.units in
    let os = octets_of c.in_ok-octets.octets in
    let n = sized_size (freedoms c.args.rules) (is_aligned c.args.rules) z (counts_of c.args.held) 8 (contents_have_padding Strings 8) us
    c.at-cursor.result c.read_sized.new.cursor c.in_ok-units.ensures.ok in
    let l = length-octet_bits os in
    let m : length (bits_in c.lent_by.result) ≡ length us.1 = ap length c.lent_by.ensures.same in
    let o = ap length c.in_ok-octets.ensures.octets in
    let k : length os ≡ us.0 = omega (arith, n, l, m, o) in
    let told : InOneRun (told_in_front z (drop c.args.position (bits_of c.args.bits))) us.0 = subst (λ j. InOneRun (told_in_front z (drop c.args.position (bits_of c.args.bits))) j) k one in
    let lent = c.in_ok-units.ensures.lent (subst (λ bs. InOneRun (told_in_front z bs) us.0) (sym (ap (λ (p : Position). p.1) c.at-cursor.ensures)) told) in
    let whole : length us.1 % 8 ≡ 0 = omega (arith, n) in
    c.in_ok-octets.ensures.lent (c.lent_by.ensures.lent lent whole ∙ ap Some end)
