use Rattle.std.proofs.Common.{◌≡◌, ◌+◌, ◌-◌, ◌∷◌, IfErr, ap, sym, subst, ◌∙◌, arith}
use Rattle.asn1_model.specs.Oer.{length_form}
use Rattle.std.proofs.lemmas.Result.{err_from_is_err_and}
use Rattle.oer_codec_reading.specs.Fronts.{freedoms, Misses}
use Rattle.oer_codec_reading.proofs.LengthFronts.{no_octets, no_number, short_stands}
use Rattle.oer_codec_reading.proofs.length.read_length.Goals as goal

pub returns-in_err-octet-clause-only : goal.returns-in_err-octet-clause-only
returns-in_err-octet-clause-only c =
    let p = err_from_is_err_and c.from_residual.result c.from_residual.ensures.1 in
    let q = c.in_err-octet.ensures.none in
    rw (p.1, p.2, q.0) (no_octets (freedoms c.args.rules) c.args.cursor.now q.1)

pub returns-then-octet-lt128-clause-ok : goal.returns-then-octet-lt128-clause-ok
returns-then-octet-lt128-clause-ok c = short_stands (freedoms c.args.rules) c.in_ok-octet.octet c.args.cursor.now c.take_octet.new.self c.in_ok-octet.ensures.octet.0 c.if-octet-lt128.true

pub returns-then-octet-clause-only : goal.returns-then-octet-clause-only
returns-then-octet-clause-only c = no_number (freedoms c.args.rules) c.in_ok-octet.octet c.args.cursor.now c.take_octet.new.self c.in_ok-octet.ensures.octet.0 c.if-octet.true

pub returns-clause-only : goal.returns-clause-only
returns-clause-only c =
    let l = c.if-octet-lt128.false in
    let n : 128 + (c.in_ok-octet.octet - 128) ≡ c.in_ok-octet.octet = omega (arith, l) in
    let e : (128 + (c.in_ok-octet.octet - 128)) ∷ c.take_octet.new.self ≡ c.args.cursor.now = ap (λ o. o ∷ c.take_octet.new.self) n ∙ sym c.in_ok-octet.ensures.octet.0 in
    subst (λ w. IfErr c.read_further_length.result (Misses (freedoms c.args.rules) length_form w)) e c.read_further_length.ensures.only
