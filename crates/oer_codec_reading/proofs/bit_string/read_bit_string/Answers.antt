use Rattle.std.proofs.Common.{◌≡◌, ap, sym, ◌∙◌}
use Rattle.std.proofs.lemmas.Result.{err_from_is_err_and}
use Rattle.asn1_model.specs.Schema.{bit_string}
use Rattle.asn1_model.specs.Oer.{form}
use Rattle.asn1_model.specs.Numbers.{admits}
use Rattle.asn1_schema_constraints.specs.Bounds.{counts_of}
use Rattle.asn1_schema_constraints.specs.Terms.{one_size, sizes_of}
use Rattle.asn1_values_bits.specs.BitStr.{bits_of}
use Rattle.oer_codec_reading.specs.Bits.{sized_bits}
use Rattle.oer_codec_reading.specs.Fronts.{freedoms}
use Rattle.oer_codec_reading.proofs.Fronts.{misses_also}
use Rattle.oer_codec_reading.proofs.BitStringFronts.{string_stands, no_string, not_admitted}
use Rattle.oer_codec_reading.proofs.bit_string.read_bit_string.Goals as goal

pub returns-in_err-bits-clause-only : goal.returns-in_err-bits-clause-only
returns-in_err-bits-clause-only c =
    let p = err_from_is_err_and c.from_residual.result c.from_residual.ensures.1 in
    let z = sizes_of c.args.constraints.now.size in
    let h = counts_of c.args.held in
    rw (p.1, p.2) (misses_also (freedoms c.args.rules) (sized_bits c.fixed.result) (form (bit_string z h)) c.args.cursor.now c.args.cursor.now _
    (no_string c.args.rules z h c.fixed.result c.args.cursor.now (c.fixed.ensures ∙ ap one_size c.sizes-sizes.ensures)) c.in_err-bits.ensures.only)

pub returns-then-not-admits-clause-only : goal.returns-then-not-admits-clause-only
returns-then-not-admits-clause-only c =
    not_admitted c.args.rules (sizes_of c.args.constraints.now.size) (counts_of c.args.held) c.fixed.result c.len.result (bits_of c.in_ok-bits.bits)
    c.args.cursor.now c.read_sized_bits.new.cursor (c.fixed.ensures ∙ ap one_size c.sizes-sizes.ensures) c.len.ensures
    (ap (λ y. admits y (counts_of c.args.held) c.len.result) (sym c.sizes-sizes.ensures) ∙ sym c.if-not-admits.ensures) c.in_ok-bits.ensures.ok

pub returns-clause-ok : goal.returns-clause-ok
returns-clause-ok c =
    let e : c.in_ok-string.string ≡ bits_of c.in_ok-bits.bits = c.in_ok-string.ensures in
    rw e (string_stands c.args.rules (sizes_of c.args.constraints.now.size) (counts_of c.args.held) c.fixed.result c.len.result
    (bits_of c.in_ok-bits.bits) c.args.cursor.now c.read_sized_bits.new.cursor (c.fixed.ensures ∙ ap one_size c.sizes-sizes.ensures) c.len.ensures
    (ap (λ y. admits y (counts_of c.args.held) c.len.result) (sym c.sizes-sizes.ensures) ∙ sym c.if-not-admits.ensures) c.in_ok-bits.ensures.ok)
