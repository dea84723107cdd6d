use Rattle.std.proofs.Common.{ap, sym, ◌∙◌, ◌||◌, not, ◌<◌, subst, length}
use Rattle.std.proofs.lemmas.Bool.{eqb-true}
use Rattle.std.proofs.lemmas.Result.{err_from_is_err_and}
use Rattle.asn1_model.specs.Per
use Rattle.per_codec_reading.specs.Fronts.{freedoms, is_aligned}
use Rattle.per_codec_reading.proofs.Fronts.{misses_also}
use Rattle.per_codec_reading.specs.Octets.{octets_of}
use Rattle.per_codec_reading_values.specs.Integers.{has_spare, number_octets}
use Rattle.per_codec_reading_values.proofs.OctetFronts.{octets_read, some_octets, none_counted, no_octets, spare_octets}
use Rattle.per_codec_reading_values.proofs.number_octets.read_number_octets.Goals as goal

pub returns-in_err-octets-clause-only : goal.returns-in_err-octets-clause-only
returns-in_err-octets-clause-only c =
    let p = err_from_is_err_and c.from_residual.result c.from_residual.ensures.1 in
    let f = freedoms c.args.rules in
    let al = is_aligned c.args.rules in
    let s = c.args.signed in
    let a = c.args.cursor.now in
    rw (p.1, p.2) (misses_also f (Per.counted_octets al) (number_octets (f Per.longer_number) s al) a a _ (none_counted f s al a) c.in_err-octets.ensures.only)

pub returns-then-is_empty-clause-only : goal.returns-then-is_empty-clause-only
returns-then-is_empty-clause-only c =
    let v = c.as_slice.ensures.value in
    let n = ap length v in
    let e = c.if-is_empty.ensures in
    no_octets (freedoms c.args.rules) c.args.signed (is_aligned c.args.rules) (octets_of c.in_ok-octets.octets) c.args.cursor.now
    c.read_counted_octets.new.cursor (sym n ∙ eqb-true (length c.as_slice.result.now) 0 (sym e)) c.in_ok-octets.ensures.ok

pub returns-then-not-is_accepted-clause-only : goal.returns-then-not-is_accepted-clause-only
returns-then-not-is_accepted-clause-only c =
    let f = freedoms c.args.rules in
    let s = c.args.signed in
    let h = ap (λ l. f Per.longer_number || not (has_spare s l)) (sym c.as_slice-2.ensures.value) ∙ sym c.if-not-is_accepted.ensures in
    spare_octets f s (is_aligned c.args.rules) (octets_of c.in_ok-octets.octets) c.args.cursor.now c.read_counted_octets.new.cursor h c.in_ok-octets.ensures.ok

pub returns-clause-ok : goal.returns-clause-ok
returns-clause-ok c =
    let f = freedoms c.args.rules in
    let s = c.args.signed in
    let h = ap (λ l. f Per.longer_number || not (has_spare s l)) (sym c.as_slice-2.ensures.value) ∙ sym c.if-not-is_accepted.ensures in
    octets_read f s (is_aligned c.args.rules) (octets_of c.in_ok-octets.octets) c.args.cursor.now c.read_counted_octets.new.cursor
    (subst (λ l. 0 < length l) c.as_slice.ensures.value (some_octets c.as_slice.result.now c.if-is_empty.ensures)) h c.in_ok-octets.ensures.ok
