use Rattle.std.proofs.Common.{◌≡◌, ◌∙◌, sym, ap, ◌+◌, ◌&&◌, ◌∷◌, true, false, drop, arith}
use Rattle.std.proofs.lemmas.List.{drop_more, drop_all}
use Rattle.asn1_model.specs.Lawful.{has_typed_default}
use Rattle.asn1_table_nodes.specs.Defaults.{have_defaults}
use Rattle.asn1_table_nodes.specs.Meaning.{components_of, presence_of, type_at}
use Rattle.asn1_table_nodes.proofs.Deciding.{decides_by, decides_at, first_fails, second_decides}
use Rattle.asn1_table_nodes.proofs.defaults.are_right.Goals as goal

pub returns-then-not-is_right : goal.returns-then-not-is_right
returns-then-not-is_right c =
    let ns = c.args.nodes.now in
    let cs = c.args.components.now in
    let i = c.loop-component.component-index in
    let x = c.component-item.result in
    let e : drop i cs ≡ x ∷ drop (i + 1) cs = drop_more cs i x (omega (arith, c.loop-component-test.true)) ∙ ap (λ y. y ∷ drop (i + 1) cs) (sym c.component-item.is) in
    c.loop-component.invariant false (decides_by (λ n. have_defaults (components_of (λ j. type_at ns n j) (drop i cs)))
    (λ n. has_typed_default (type_at ns n x.place) (presence_of x.presence) && have_defaults (components_of (λ j. type_at ns n j) (drop (i + 1) cs))) false
    (λ n. ap (λ xs. have_defaults (components_of (λ j. type_at ns n j) xs)) e)
    (first_fails (λ n. has_typed_default (type_at ns n x.place) (presence_of x.presence)) (λ n. have_defaults (components_of (λ j. type_at ns n j) (drop (i + 1) cs)))
    (decides_at (λ n. has_typed_default (type_at ns n x.place) (presence_of x.presence)) c.is_right.result false c.if-not-is_right.true c.is_right.ensures)))

pub loop-component-preserved : goal.loop-component-preserved
loop-component-preserved c =
    let ns = c.args.nodes.now in
    let cs = c.args.components.now in
    let i = c.loop-component.component-index in
    let x = c.component-item.result in
    let e : drop i cs ≡ x ∷ drop (i + 1) cs = drop_more cs i x (omega (arith, c.loop-component-test.true)) ∙ ap (λ y. y ∷ drop (i + 1) cs) (sym c.component-item.is) in
    λ b h. c.loop-component.invariant b (decides_by (λ n. have_defaults (components_of (λ j. type_at ns n j) (drop i cs)))
    (λ n. has_typed_default (type_at ns n x.place) (presence_of x.presence) && have_defaults (components_of (λ j. type_at ns n j) (drop (i + 1) cs))) b
    (λ n. ap (λ xs. have_defaults (components_of (λ j. type_at ns n j) xs)) e)
    (second_decides (λ n. has_typed_default (type_at ns n x.place) (presence_of x.presence)) (λ n. have_defaults (components_of (λ j. type_at ns n j) (drop (i + 1) cs))) b
    (decides_at (λ n. has_typed_default (type_at ns n x.place) (presence_of x.presence)) c.is_right.result true c.if-not-is_right.false c.is_right.ensures) h))

pub returns : goal.returns
returns c =
    c.loop-component.invariant true (λ n. ap (λ xs. have_defaults (components_of (λ j. type_at c.args.nodes.now n j) xs))
    (drop_all c.loop-component.component-index c.args.components.now (omega (arith, c.loop-component-test.false))))
