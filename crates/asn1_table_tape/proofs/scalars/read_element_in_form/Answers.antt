use mir.Syntax.{w128}
use mir.Val.{SFits}
use Rattle.std.proofs.Common.{◌≡◌, ◌∙◌, ℤ, rules, subst, sym}
use Rattle.std.proofs.lemmas.Int.{to_z-of_z}
use Rattle.asn1_model.specs.Schema.{wide_range}
use Rattle.asn1_schema_forms.specs.Forms.{form_bounds}
use Rattle.asn1_schema_laws.specs.Records.{whole}
use Rattle.asn1_schema_laws.proofs.Joined.{raised}
use Rattle.asn1_table_tape.proofs.FormRecords.{bounded_told, bounded_refused}
use Rattle.asn1_table_tape.proofs.scalars.read_element_in_form.Goals as goal

pub returns-in_err-number-clause-only : goal.returns-in_err-number-clause-only
returns-in_err-number-clause-only g c = raised _ _ _ c.from_residual.ensures.1 (λ ns e. bounded_refused ns
    (g.D.Decoder.levels c.args.decoder.now) c.args.place e c.in_err-number.ensures.only)

pub returns-clause-ok : goal.returns-clause-ok
returns-clause-ok g c =
    let n = c.in_ok-number.number in
    let fits : SFits w128 n = search rules in
    let same : c.from_i128.result ≡ n = c.from_i128.ensures ∙ to_z-of_z w128 n fits in
    let read = subst (λ (v : ℤ). g.D.Decoder.step c.args.decoder.now (whole (form_bounds c.args.form.now) wide_range v)
    c.decode_number.new.self) (sym same) c.in_ok-number.ensures.ok in
    λ ns e. rw c.in_ok-keep.ensures.same (bounded_told ns (g.D.Decoder.levels c.args.decoder.now) c.args.place _ _
    c.from_i128.result e read c.in_ok-keep.ensures.kept)
