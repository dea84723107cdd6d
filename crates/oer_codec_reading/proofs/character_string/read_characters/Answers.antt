use Rattle.std.proofs.Common.{◌/◌, ◌%◌, sym, ap, ◌∙◌, length}
use Rattle.std.proofs.lemmas.Result.{err_from_is_err_and}
use Rattle.asn1_model.specs.Oer.{form}
use Rattle.asn1_model.specs.Numbers.{admits}
use Rattle.asn1_model.specs.Schema.{character_string}
use Rattle.asn1_model.specs.Schema.{any_count}
use Rattle.asn1_schema_constraints.specs.Terms.{one_size, sizes_of, alphabet_of}
use Rattle.oer_codec_reading.specs.Fronts.{freedoms}
use Rattle.oer_codec_reading.specs.Sized.{sized}
use Rattle.oer_codec_reading.proofs.Fronts.{misses_also}
use Rattle.oer_codec_reading.specs.Characters.{octet_size}
use Rattle.oer_codec_reading.proofs.CharacterFronts.{characters_stand, no_octets, odd_octets, not_admitted, not_spelled}
use Rattle.oer_codec_reading.proofs.character_string.read_characters.Goals as goal

pub returns-in_err-octets-clause-only : goal.returns-in_err-octets-clause-only
returns-in_err-octets-clause-only g c =
    let p = err_from_is_err_and c.from_residual.result c.from_residual.ensures.1 in
    let free = freedoms c.args.rules in
    let k = g.S.StaticPermittedAlphabet.kind in
    let z = sizes_of c.args.constraints.now.size in
    let a = alphabet_of c.args.constraints.now.permitted_alphabet in
    let wide = c.contains_char-wide.result in
    let size = c.fixed.result in
    rw (p.1, p.2) (misses_also free (sized (octet_size wide size)) (form (character_string k z a any_count)) c.args.cursor.now c.args.cursor.now _
    (no_octets free k g.met.S.StaticPermittedAlphabet.holds wide (sym c.contains_char-wide.ensures) z a any_count size
    (c.fixed.ensures ∙ ap one_size c.sizes-sizes.ensures) c.args.cursor.now) c.in_err-octets.ensures.only)

pub returns-then-octets-width-ne0-clause-only : goal.returns-then-octets-width-ne0-clause-only
returns-then-octets-width-ne0-clause-only g c =
    odd_octets (freedoms c.args.rules) g.S.StaticPermittedAlphabet.kind g.met.S.StaticPermittedAlphabet.holds c.contains_char-wide.result
    (sym c.contains_char-wide.ensures) (sizes_of c.args.constraints.now.size) (alphabet_of c.args.constraints.now.permitted_alphabet) any_count
    c.fixed.result (c.fixed.ensures ∙ ap one_size c.sizes-sizes.ensures)
    c.in_ok-octets.octets.now c.args.cursor.now c.read_spelled.new.cursor
    (λ e. c.if-octets-width-ne0.true (ap (λ n. length c.in_ok-octets.octets.now % n) c.octets_each-width.ensures ∙ e)) c.in_ok-octets.ensures.ok

pub returns-then-not-admits-clause-only : goal.returns-then-not-admits-clause-only
returns-then-not-admits-clause-only g c =
    let z = sizes_of c.args.constraints.now.size in
    not_admitted (freedoms c.args.rules) g.S.StaticPermittedAlphabet.kind g.met.S.StaticPermittedAlphabet.holds c.contains_char-wide.result
    (sym c.contains_char-wide.ensures) z (alphabet_of c.args.constraints.now.permitted_alphabet) any_count c.fixed.result (c.fixed.ensures ∙ ap one_size c.sizes-sizes.ensures)
    c.in_ok-octets.octets.now c.args.cursor.now c.read_spelled.new.cursor
    (ap (λ n. admits z any_count (length c.in_ok-octets.octets.now / n)) (sym c.octets_each-width.ensures) ∙
    ap (λ y. admits y any_count (length c.in_ok-octets.octets.now / c.octets_each-width.result)) (sym c.sizes-sizes.ensures) ∙ sym c.if-not-admits.ensures) c.in_ok-octets.ensures.ok

pub returns-in_err-string-clause-only : goal.returns-in_err-string-clause-only
returns-in_err-string-clause-only g c =
    let p = err_from_is_err_and c.from_residual-in_err-string.result c.from_residual-in_err-string.ensures.1 in
    rw (p.1, p.2) (not_spelled (freedoms c.args.rules) g.S.StaticPermittedAlphabet.kind g.met.S.StaticPermittedAlphabet.holds
    c.contains_char-wide.result (sym c.contains_char-wide.ensures) (sizes_of c.args.constraints.now.size)
    (alphabet_of c.args.constraints.now.permitted_alphabet) any_count c.fixed.result (c.fixed.ensures ∙ ap one_size c.sizes-sizes.ensures)
    c.in_ok-octets.octets.now c.args.cursor.now c.read_spelled.new.cursor _ c.in_err-string.ensures.fresh c.in_err-string.ensures.refused c.in_ok-octets.ensures.ok)

pub returns-clause-ok : goal.returns-clause-ok
returns-clause-ok g c =
    let z = sizes_of c.args.constraints.now.size in
    characters_stand (freedoms c.args.rules) g.S.StaticPermittedAlphabet.kind g.met.S.StaticPermittedAlphabet.holds c.contains_char-wide.result
    (sym c.contains_char-wide.ensures) z (alphabet_of c.args.constraints.now.permitted_alphabet) any_count c.fixed.result (c.fixed.ensures ∙ ap one_size c.sizes-sizes.ensures)
    c.in_ok-octets.octets.now _ c.args.cursor.now c.read_spelled.new.cursor c.in_ok-string.ensures.characters
    (ap (λ n. length c.in_ok-octets.octets.now % n) (sym c.octets_each-width.ensures) ∙ c.if-octets-width-ne0.false)
    (ap (λ n. admits z any_count (length c.in_ok-octets.octets.now / n)) (sym c.octets_each-width.ensures) ∙
    ap (λ y. admits y any_count (length c.in_ok-octets.octets.now / c.octets_each-width.result)) (sym c.sizes-sizes.ensures) ∙
    sym c.if-not-admits.ensures) c.in_ok-string.ensures.permitted c.in_ok-octets.ensures.ok
