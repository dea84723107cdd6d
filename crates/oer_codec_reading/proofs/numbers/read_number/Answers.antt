use Rattle.std.proofs.Common.{sym}
use Rattle.std.proofs.lemmas.Result.{err_from_is_err_and}
use Rattle.oer_codec_reading.specs.Fronts.{freedoms}
use Rattle.oer_codec_reading.specs.Sized.{sized}
use Rattle.oer_codec_reading.specs.Integers.{number_in}
use Rattle.oer_codec_reading.proofs.Fronts.{misses_also}
use Rattle.oer_codec_reading.proofs.WholeFronts.{no_octets, empty_octets, not_taken, number_read, some_octets}
use Rattle.oer_codec_reading.proofs.numbers.read_number.Goals as goal

pub returns-in_err-octets-clause-only : goal.returns-in_err-octets-clause-only
returns-in_err-octets-clause-only c =
    let p = err_from_is_err_and c.from_residual.result c.from_residual.ensures.1 in
    rw (p.1, p.2) (misses_also (freedoms c.args.rules) (sized c.args.width) (number_in c.args.signed c.args.width) c.args.cursor.now c.args.cursor.now
    _ (no_octets c.args.rules c.args.signed c.args.width c.args.cursor.now) c.in_err-octets.ensures.only)

pub returns-then-is_empty-clause-only : goal.returns-then-is_empty-clause-only
returns-then-is_empty-clause-only c = empty_octets c.args.rules c.args.signed c.args.width c.args.cursor.now c.in_ok-octets.octets.now
    c.read_sized.new.cursor c.requires c.in_ok-octets.ensures.ok c.if-is_empty.ensures

pub returns-then-not-is_taken-clause-only : goal.returns-then-not-is_taken-clause-only
returns-then-not-is_taken-clause-only c = not_taken c.args.rules c.args.signed c.args.width c.args.cursor.now c.in_ok-octets.octets.now
    c.read_sized.new.cursor c.in_ok-octets.ensures.ok (sym c.if-not-is_taken.ensures)

pub returns-clause-ok : goal.returns-clause-ok
returns-clause-ok c = number_read c.args.rules c.args.signed c.args.width c.args.cursor.now c.in_ok-octets.octets.now c.read_sized.new.cursor
    (some_octets c.in_ok-octets.octets.now c.if-is_empty.ensures) c.in_ok-octets.ensures.ok (sym c.if-not-is_taken.ensures)
