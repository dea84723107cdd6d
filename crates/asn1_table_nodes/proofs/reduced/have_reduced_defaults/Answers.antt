use Rattle.std.proofs.Common.{◌≡◌, ◌∙◌, sym, ap, ◌+◌, ◌&&◌, ◌∷◌, drop, arith}
use Rattle.std.proofs.lemmas.List.{drop_more, drop_all}
use Rattle.asn1_table_nodes.specs.Reduced.{have_reduced_defaults}
use Rattle.asn1_table_nodes.proofs.reduced.have_reduced_defaults.Goals as goal

pub returns-then-not-has_reduced_default : goal.returns-then-not-has_reduced_default
returns-then-not-has_reduced_default c =
    let ns = c.args.nodes.now in
    let cs = c.args.components.now in
    let i = c.loop-component.component-index in
    let x = c.component-item.result in
    let e : drop i cs ≡ x ∷ drop (i + 1) cs = drop_more cs i x (omega (arith, c.loop-component-test.true)) ∙ ap (λ y. y ∷ drop (i + 1) cs) (sym c.component-item.is) in
    sym (ap (λ xs. have_reduced_defaults ns xs) e ∙ ap (λ b. b && have_reduced_defaults ns (drop (i + 1) cs)) (sym c.has_reduced_default.ensures ∙ c.if-not-has_reduced_default.true)) ∙ c.loop-component.invariant

pub loop-component-preserved : goal.loop-component-preserved
loop-component-preserved c =
    let ns = c.args.nodes.now in
    let cs = c.args.components.now in
    let i = c.loop-component.component-index in
    let x = c.component-item.result in
    let e : drop i cs ≡ x ∷ drop (i + 1) cs = drop_more cs i x (omega (arith, c.loop-component-test.true)) ∙ ap (λ y. y ∷ drop (i + 1) cs) (sym c.component-item.is) in
    sym (ap (λ xs. have_reduced_defaults ns xs) e ∙ ap (λ b. b && have_reduced_defaults ns (drop (i + 1) cs)) (sym c.has_reduced_default.ensures ∙ c.if-not-has_reduced_default.false)) ∙ c.loop-component.invariant

pub returns : goal.returns
returns c = sym (ap (λ xs. have_reduced_defaults c.args.nodes.now xs) (drop_all c.loop-component.component-index c.args.components.now (omega (arith, c.loop-component-test.false)))) ∙ c.loop-component.invariant
