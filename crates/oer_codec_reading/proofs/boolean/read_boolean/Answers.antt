use Rattle.std.proofs.lemmas.Result.{err_from_is_err_and}
use Rattle.oer_codec_reading.specs.Fronts.{freedoms}
use Rattle.oer_codec_reading.proofs.Truths.{no_octet, no_truth, truth_stands}
use Rattle.oer_codec_reading.proofs.boolean.read_boolean.Goals as goal

pub returns-in_err-octet-clause-only : goal.returns-in_err-octet-clause-only
returns-in_err-octet-clause-only c =
    let p = err_from_is_err_and c.from_residual.result c.from_residual.ensures.1 in
    let q = c.in_err-octet.ensures.none in
    rw (p.1, p.2, q.0) (no_octet (freedoms c.args.rules) c.args.cursor.now q.1)

pub returns-then-not-is_taken-clause-only : goal.returns-then-not-is_taken-clause-only
returns-then-not-is_taken-clause-only c =
    let n = c.is_taken.ensures.refused c.if-not-is_taken.true in
    no_truth c.args.rules c.in_ok-octet.octet c.args.cursor.now c.take_octet.new.self c.in_ok-octet.ensures.octet.0 n.0 n.1 n.2

pub returns-clause-ok : goal.returns-clause-ok
returns-clause-ok c =
    truth_stands c.args.rules c.truth_of.result c.in_ok-octet.octet c.args.cursor.now c.take_octet.new.self c.in_ok-octet.ensures.octet.0 c.in_ok-octet.ensures.octet.1
    c.truth_of.ensures.yes c.truth_of.ensures.no (c.is_taken.ensures.taken c.if-not-is_taken.false)
