use Rattle.std.proofs.Common.{sym}
use Rattle.std.proofs.lemmas.Result.{err_from_is_err_and}
use Rattle.oer_codec_reading.proofs.LengthFronts.{few_octets, past_64_bits, not_shortest, read_long}
use Rattle.oer_codec_reading.proofs.length.read_long_length.Goals as goal

pub returns-in_err-octets-clause-only : goal.returns-in_err-octets-clause-only
returns-in_err-octets-clause-only c =
    let p = err_from_is_err_and c.from_residual.result c.from_residual.ensures.1 in
    let q = c.in_err-octets.ensures.short in
    rw (p.1, p.2, q.0) (few_octets c.args.rules c.args.count c.args.cursor.now c.requires.some q.1)

pub returns-in_default-clause-only : goal.returns-in_default-clause-only
returns-in_default-clause-only c =
    let q = c.in_ok-octets.ensures in
    past_64_bits c.args.rules c.args.count c.in_ok-octets.octets.now c.take.new.self c.args.cursor.now c.requires.some q.small q.count q.octets c.in_default.ensures.none

pub returns-then-not-is_taken-clause-only : goal.returns-then-not-is_taken-clause-only
returns-then-not-is_taken-clause-only c =
    let q = c.in_ok-octets.ensures in
    not_shortest c.args.rules c.args.count c.in-Some.length c.in_ok-octets.octets.now c.take.new.self c.args.cursor.now c.requires.some q.small
    q.count q.octets c.in-Some.ensures.number (sym c.if-not-is_taken.ensures)

pub returns-clause-ok : goal.returns-clause-ok
returns-clause-ok c =
    let q = c.in_ok-octets.ensures in
    read_long c.args.rules c.args.count c.in-Some.length c.in_ok-octets.octets.now c.take.new.self c.args.cursor.now c.requires.some c.requires.most
    q.small q.count q.octets c.in-Some.ensures.number c.in-Some.ensures.fits (sym c.if-not-is_taken.ensures)
