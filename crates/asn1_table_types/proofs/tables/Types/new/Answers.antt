use Rattle.std.proofs.Common.{◌≡◌, ◌∙◌, List, ap, map, subst, sym, true}
use Rattle.asn1_table_types.specs.Choices.{tags_in}
use Rattle.asn1_table_types.specs.Flaws.{is_sound}
use Rattle.asn1_table_types.specs.Forms.{AreForms}
use Rattle.asn1_table_nodes.specs.Meaning.{type_at}
use Rattle.asn1_table_types.specs.Tables.{AreLawful, AreTidy}
use Rattle.asn1_table_types.proofs.NormalDefaults.{all_tidy}
use Rattle.asn1_table_nodes.specs.declared.nodes.TypeNode.{TypeNode}
use Rattle.asn1_table_types.proofs.Sound.{all_lawful}
use Rattle.asn1_table_types.proofs.Tagged.{tags_differ}
use Rattle.asn1_table_types.proofs.tables.Types.new.Goals as goal

pub choices_of-requires : goal.choices_of-requires
choices_of-requires c = tags_differ _ (λ i. subst (λ (ns : List TypeNode). is_sound (type_at ns 2 i) ≡ true) (c.as_slice.ensures.value ∙ sym c.as_slice-2.ensures.value)
    (c.in_ok-check_all.ensures.sound i))

pub invariant_of-result : goal.invariant_of-result
invariant_of-result c =
    let P : List TypeNode → Type 0 = λ ns. AreLawful ns in
    record {
      tidy = subst (λ (ns : List TypeNode). AreTidy ns) c.as_slice.ensures.value (all_tidy c.as_slice.result.now c.in_ok-check_all.ensures.reduced);
      lawful = subst P c.as_slice.ensures.value (all_lawful c.as_slice.result.now c.in_ok-check_all.ensures.sound c.in_ok-check_all.ensures.typed);
      tagged = c.in-Ok.ensures ∙ ap (map tags_in) c.as_slice-2.ensures.value;
      formed = subst (λ (ns : List TypeNode). AreForms ns c.in-Ok-forms_of.forms.items) c.as_slice-3.ensures.value c.in-Ok-forms_of.ensures;
    }
