use Rattle.std.proofs.Common.{◌≡◌, ◌∙◌, sym, ap, ◌+◌, ◌&&◌, ◌∷◌, drop, arith}
use Rattle.std.proofs.lemmas.Bool.{or_right}
use Rattle.std.proofs.lemmas.List.{drop_more}
use Rattle.asn1_table_types.specs.Flaws.{are_components, some_lacks}
use Rattle.asn1_table_nodes.specs.Meaning.{components_of, type_at}
use Rattle.asn1_table_types.proofs.components.check_components.Goals as goal

pub loop-component-preserved : goal.loop-component-preserved
loop-component-preserved c =
    let cs = c.args.components.now in
    let i = c.loop-component.component-index in
    let x = c.component-item.result in
    let e : drop i cs ≡ x ∷ drop (i + 1) cs = drop_more cs i x (omega (arith, c.loop-component-test.true)) ∙ ap (λ y. y ∷ drop (i + 1) cs) (sym c.component-item.is) in
    record {
      sound = sym (ap (λ b. b && are_components c.args.added (components_of (λ j. type_at c.args.nodes.now 1 j) (drop (i + 1) cs))) c.in_ok-check_component.ensures.sound)
          ∙ sym (ap (λ xs. are_components c.args.added (components_of (λ j. type_at c.args.nodes.now 1 j) xs)) e) ∙ c.loop-component.invariant.sound;
      lacking = λ f h. c.loop-component.invariant.lacking f (ap (λ xs. some_lacks f c.args.added (components_of (λ j. type_at c.args.nodes.now 1 j) xs)) e ∙ or_right _ _ h);
    }
