use Rattle.std.proofs.Common.{ap, length, sym, refl, ◌∙◌}
use Rattle.std.proofs.lemmas.Result.{err_from_is_err_and}
use Rattle.asn1_model.specs.Schema.{octet_string}
use Rattle.asn1_model.specs.Oer.{form}
use Rattle.asn1_model.specs.Numbers.{admits}
use Rattle.asn1_schema_constraints.specs.Bounds.{counts_of}
use Rattle.asn1_schema_constraints.specs.Terms.{one_size, sizes_of}
use Rattle.oer_codec_reading.specs.Fronts.{freedoms}
use Rattle.oer_codec_reading.specs.Sized.{sized}
use Rattle.oer_codec_reading.proofs.Fronts.{misses_also}
use Rattle.oer_codec_reading.proofs.SizedFronts.{octet_string_stands, no_sized, not_admitted}
use Rattle.oer_codec_reading.proofs.octet_string.read_octet_string.Goals as goal

pub returns-in_err-octets-clause-only : goal.returns-in_err-octets-clause-only
returns-in_err-octets-clause-only c =
    let p = err_from_is_err_and c.from_residual.result c.from_residual.ensures.1 in
    let z = sizes_of c.args.constraints.now.size in
    let h = counts_of c.args.held in
    rw (p.1, p.2) (misses_also (freedoms c.args.rules) (sized c.fixed.result) (form (octet_string z h)) c.args.cursor.now c.args.cursor.now _
    (no_sized (freedoms c.args.rules) z h c.fixed.result c.args.cursor.now (c.fixed.ensures ∙ ap one_size c.sizes-sizes.ensures)) c.in_err-octets.ensures.only)

pub returns-then-not-admits-clause-only : goal.returns-then-not-admits-clause-only
returns-then-not-admits-clause-only c =
    not_admitted (freedoms c.args.rules) (sizes_of c.args.constraints.now.size) (counts_of c.args.held) c.fixed.result _ c.in_ok-octets.octets.now
    c.args.cursor.now c.read_sized.new.cursor (c.fixed.ensures ∙ ap one_size c.sizes-sizes.ensures) refl
    (ap (λ y. admits y (counts_of c.args.held) (length c.in_ok-octets.octets.now)) (sym c.sizes-sizes.ensures) ∙ sym c.if-not-admits.ensures) c.in_ok-octets.ensures.ok

pub returns-clause-ok : goal.returns-clause-ok
returns-clause-ok c =
    octet_string_stands (freedoms c.args.rules) (sizes_of c.args.constraints.now.size) (counts_of c.args.held) c.fixed.result _
    c.in_ok-octets.octets.now c.args.cursor.now c.read_sized.new.cursor (c.fixed.ensures ∙ ap one_size c.sizes-sizes.ensures) refl
    (ap (λ y. admits y (counts_of c.args.held) (length c.in_ok-octets.octets.now)) (sym c.sizes-sizes.ensures) ∙ sym c.if-not-admits.ensures) c.in_ok-octets.ensures.ok
