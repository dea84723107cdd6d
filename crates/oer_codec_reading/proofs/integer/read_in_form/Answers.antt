use Rattle.std.proofs.Common.{◌∙◌, ap, sym, subst, ℤ, ◌⊎◌, inl, inr, to_z-of_z, arith}
use Rattle.std.proofs.lemmas.Int.{ints}
use Rattle.std.proofs.lemmas.Result.{err_from_is_err_and}
use Rattle.std.specs.Prelude.{FitsSigned, Some, ◌<ℤ◌}
use Rattle.std.specs.Int.{w128}
use Rattle.asn1_model.specs.Schema.{integer, wide_range}
use Rattle.asn1_model.specs.Value.{number}
use Rattle.asn1_model.specs.Oer.{form}
use Rattle.asn1_schema_forms.specs.Forms.{form_bounds}
use Rattle.oer_codec_reading.specs.Fronts.{freedoms, FrontOf}
use Rattle.oer_codec_reading.specs.Sized.{sized}
use Rattle.oer_codec_reading.proofs.Fronts.{misses_also}
use Rattle.oer_codec_reading.proofs.FormFronts.{few_octets, form_read, form_outside, form_missed}
use Rattle.oer_codec_reading.proofs.integer.read_in_form.Goals as goal
use Rattle.oer_codec_reading.proofs.integer.read_in_form.Goals.{then-number-low-via-then-number-low, then-number-low-via-else-number-low+then-high-number}

pub returns-in_err-octets-clause-only : goal.returns-in_err-octets-clause-only
returns-in_err-octets-clause-only c =
    let p = err_from_is_err_and c.from_residual.result c.from_residual.ensures.1 in
    let w = c.args.cursor.now in
    rw (p.1, p.2) (misses_also (freedoms c.args.rules) (sized (Some c.from.result)) (form (integer (form_bounds c.args.form.now) wide_range)) w w _
    (form_missed c.args.rules c.args.form.now c.from.result w (ap Some c.from.ensures ∙ c.octets.ensures)) c.in_err-octets.ensures.only)

pub fixed_number-number-requires : goal.fixed_number-number-requires
fixed_number-number-requires c = few_octets c.args.rules c.args.form.now c.from.result c.args.cursor.now (ap Some c.from.ensures ∙ c.octets.ensures) c.in_ok-octets.octets.now
    c.read_sized.new.cursor c.in_ok-octets.ensures.ok

pub returns-then-number-low-clause-only : goal.returns-then-number-low-clause-only
returns-then-number-low-clause-only c =
    let f = c.args.form.now in
    let v = c.fixed_number-number.result in
    let out : (v <ℤ f.low) ⊎ (f.high <ℤ v) = elim c.then-number-low.branch [
      | then-number-low-via-then-number-low b ↦ inl (omega (arith, ints, c.low.ensures, b.if-number-low.true))
      | then-number-low-via-else-number-low+then-high-number b ↦ inr (omega (arith, ints, b.high.ensures, b.if-high-number.true))
    ] in
    form_outside c.args.rules c.args.form.now c.from.result c.args.cursor.now (ap Some c.from.ensures ∙ c.octets.ensures) c.in_ok-octets.octets.now
    c.read_sized.new.cursor c.is_signed.result c.fixed_number-number.result c.in_ok-octets.ensures.ok c.is_signed.ensures c.fixed_number-number.ensures out

pub returns-clause-ok : goal.returns-clause-ok
returns-clause-ok c =
    let v = c.fixed_number-number.result in
    let fits : FitsSigned w128 v = record { sfits = c.fixed_number-number.type_inv } in
    let front = form_read c.args.rules c.args.form.now c.from.result c.args.cursor.now (ap Some c.from.ensures ∙ c.octets.ensures) c.in_ok-octets.octets.now
    c.read_sized.new.cursor c.is_signed.result v c.in_ok-octets.ensures.ok c.is_signed.ensures c.fixed_number-number.ensures fits
    (omega (arith, ints, c.low.ensures, c.if-number-low.false)) (omega (arith, ints, c.high.ensures, c.if-high-number.false)) in
    subst (λ (z : ℤ). FrontOf (freedoms c.args.rules) (integer (form_bounds c.args.form.now) wide_range) (number z) c.args.cursor.now c.read_sized.new.cursor) (sym (to_z-of_z fits)) front
