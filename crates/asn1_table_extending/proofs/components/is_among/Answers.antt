use Rattle.std.proofs.Common.{◌≡◌, ◌∙◌, List, All, refl, subst, sym}
use Rattle.std.proofs.lemmas.Bool.{false≢true}
use Rattle.std.proofs.lemmas.List.{take_all}
use Rattle.std.proofs.lemmas.List.Elements.{All-contains, All-more}
use Rattle.asn1_schema_tags.specs.declared.tags.Tag.{Tag}
use Rattle.asn1_table_extending.proofs.components.is_among.Goals as goal

pub loop-other-preserved : goal.loop-other-preserved
loop-other-preserved c =
    All-more (λ o. ¬ (c.args.tag ≡ o)) c.args.others.now c.loop-other.other-index _ c.loop-other-test.true c.loop-other.invariant
    (λ e. false≢true (sym c.if-is_same_tag.false ∙ c.is_same_tag.ensures.1 e))

pub returns : goal.returns
returns c =
    let P : List Tag → Type 0 = λ xs. All (λ o. ¬ (c.args.tag ≡ o)) xs in
    let none = subst P (take_all c.loop-other.other-index c.args.others.now c.loop-other-test.false) c.loop-other.invariant in
    (λ h. absurd (false≢true h), λ k. absurd (All-contains (λ o. ¬ (c.args.tag ≡ o)) c.args.others.now c.args.tag none k refl))
