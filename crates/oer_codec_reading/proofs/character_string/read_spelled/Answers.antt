use Rattle.std.proofs.Common.{None, arith, ap, sym}
use Rattle.std.proofs.lemmas.Result.{err_from_is_err_and}
use Rattle.oer_codec_reading.specs.Fronts.{freedoms}
use Rattle.oer_codec_reading.specs.Characters.{octet_size}
use Rattle.oer_codec_reading.proofs.CharacterFronts.{few_characters, of_one_size, same_misses}
use Rattle.oer_codec_reading.proofs.character_string.read_spelled.Goals as goal

pub returns-then-count-len-clause-only : goal.returns-then-count-len-clause-only
returns-then-count-len-clause-only c = let l = c.len.ensures.count in few_characters (freedoms c.args.rules) c.args.wide c.args.size c.in-Some.count c.args.cursor.now c.in-Some.is (omega (arith, l))

pub returns-in_err-octets-in-Some-clause-only : goal.returns-in_err-octets-in-Some-clause-only
returns-in_err-octets-in-Some-clause-only c =
    let p = err_from_is_err_and c.from_residual.result c.from_residual.ensures.1 in
    rw (p.1, p.2) (same_misses (freedoms c.args.rules) _ (octet_size c.args.wide c.args.size) c.args.cursor.now _
    (of_one_size c.args.wide c.args.size c.in-Some.count c.octets_each.result c.in-Some.is c.octets_each.ensures) c.in_err-octets-in-Some.ensures.only)

pub returns-in_err-octets-in-None-clause-only : goal.returns-in_err-octets-in-None-clause-only
returns-in_err-octets-in-None-clause-only c =
    let p = err_from_is_err_and c.from_residual-in_err-octets-in-None.result c.from_residual-in_err-octets-in-None.ensures.1 in
    rw (p.1, p.2) (same_misses (freedoms c.args.rules) None (octet_size c.args.wide c.args.size) c.args.cursor.now _
    (sym (ap (octet_size c.args.wide) c.in-None.is)) c.in_err-octets-in-None.ensures.only)
