use Rattle.std.proofs.Common.{◌≡◌, ◌<◌, ◌++◌, ◌∷◌, [], Some, IfSome, length, subst, sym, ap, ◌∙◌, slice_get, arith}
use Rattle.std.proofs.lemmas.Grind.{common_steps}
use Rattle.std.proofs.lemmas.Option.{slice_get-get_or}
use Rattle.asn1_schema_forms.specs.Forms.{form_bounds}
use Rattle.asn1_table_types.specs.Forms.{AreForms, bounds_there}
use Rattle.asn1_table_types.proofs.FormLaws.{are_forms_pushed}
use Rattle.asn1_table_types.proofs.forms.forms_of.Goals as goal

-- src/forms.rt:21:5
pub loop-place-preserved : goal.loop-place-preserved
loop-place-preserved c =
    let ns = c.args.nodes.now in
    let fs = c.loop-place.forms.items in
    let o = c.form_of.result in
    let bound : c.loop-place.place < length ns = grind (arith, common_steps, c.loop-place-test.true, c.loop-place.auto.place-end) in
    let here : slice_get ns (length fs) ≡ Some c.index-nodes-place.result =
    ap (λ i. slice_get ns i) c.loop-place.invariant.0
    ∙ slice_get-get_or ns c.loop-place.place c.index-nodes-place.result bound ∙ ap Some (sym c.index-nodes-place.is) in
    let last : IfSome o (λ f. bounds_there (slice_get ns (length fs)) ≡ Some (form_bounds f)) =
    subst (λ x. IfSome o (λ f. bounds_there x ≡ Some (form_bounds f))) (sym here) c.form_of.ensures in
    let all : AreForms ns (fs ++ o ∷ []) = are_forms_pushed ns fs o c.loop-place.invariant.1 last in
    (grind (common_steps, arith, c.in_ok-push.ensures.items, c.loop-place.invariant.0), subst (λ xs. AreForms ns xs) (sym c.in_ok-push.ensures.items) all)
