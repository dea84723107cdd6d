use Rattle.std.proofs.Common.{sym, subst, ◌∙◌}
use Rattle.std.proofs.lemmas.Result.{err_from_is_err_and}
use Rattle.asn1_model.specs.Schema.{utf8, octet_string, character_string}
use Rattle.asn1_model.specs.Oer.{form}
use Rattle.asn1_model.specs.Schema.{any_count}
use Rattle.asn1_model.specs.Value.{text}
use Rattle.asn1_schema_constraints.specs.Terms.{sizes_of, alphabet_of}
use Rattle.oer_codec_reading.specs.Fronts.{freedoms, FrontOf}
use Rattle.oer_codec_reading.proofs.Fronts.{misses_also}
use Rattle.oer_codec_reading.proofs.TextFronts.{text_stands, no_octets, no_text}
use Rattle.oer_codec_reading.proofs.utf8_string.read_utf8_string.Goals as goal

pub returns-in_err-octets-clause-only : goal.returns-in_err-octets-clause-only
returns-in_err-octets-clause-only c =
    let p = err_from_is_err_and c.from_residual.result c.from_residual.ensures.1 in
    let free = freedoms c.args.rules in
    let z = sizes_of c.args.constraints.now.size in
    let a = alphabet_of c.args.constraints.now.permitted_alphabet in
    rw (p.1, p.2) (misses_also free (form (octet_string z any_count)) (form (character_string utf8 z a any_count)) c.args.cursor.now c.args.cursor.now
    _ (no_octets free z a any_count c.args.cursor.now) c.in_err-octets.ensures.only)

pub returns-in_default-clause-only : goal.returns-in_default-clause-only
returns-in_default-clause-only c =
    no_text (freedoms c.args.rules) (sizes_of c.args.constraints.now.size) (alphabet_of c.args.constraints.now.permitted_alphabet) any_count
    c.in_ok-octets.octets.now c.args.cursor.now c.read_octet_string.new.cursor (sym c.in_default.ensures.utf8) c.in_ok-octets.ensures.ok

pub returns-clause-ok : goal.returns-clause-ok
returns-clause-ok c =
    let free = freedoms c.args.rules in
    let z = sizes_of c.args.constraints.now.size in
    let a = alphabet_of c.args.constraints.now.permitted_alphabet in
    let rest = c.read_octet_string.new.cursor in
    subst (λ t. FrontOf free (character_string utf8 z a any_count) (text t) c.args.cursor.now rest) (sym (c.in_ok-string.ensures.ok ∙ c.in-Some.ensures.text))
    (text_stands free z a any_count c.in_ok-octets.octets.now c.args.cursor.now rest (sym c.in-Some.ensures.utf8) c.in_ok-octets.ensures.ok)
