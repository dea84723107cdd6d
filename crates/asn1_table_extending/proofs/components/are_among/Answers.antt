use Rattle.std.proofs.Common.{◌∙◌, List, All, Contains, refl, subst, sym}
use Rattle.std.proofs.lemmas.Bool.{false≢true}
use Rattle.std.proofs.lemmas.List.{take_all}
use Rattle.std.proofs.lemmas.List.Elements.{All-get_or, All-more}
use Rattle.asn1_schema_tags.specs.declared.tags.Tag.{Tag}
use Rattle.asn1_table_extending.proofs.components.are_among.Goals as goal

pub loop-tag-preserved : goal.loop-tag-preserved
loop-tag-preserved c =
    All-more (Contains c.args.others.now) c.args.tags.now c.loop-tag.tag-index _ c.loop-tag-test.true c.loop-tag.invariant (c.is_among.ensures.0 c.if-not-is_among.false)

pub returns-then-not-is_among : goal.returns-then-not-is_among
returns-then-not-is_among c = (
  λ h. absurd (false≢true h),
  λ a. absurd (false≢true (sym c.if-not-is_among.true ∙ c.is_among.ensures.1 (All-get_or (Contains c.args.others.now) c.args.tags.now c.loop-tag.tag-index _ c.loop-tag-test.true a))),
)

pub returns : goal.returns
returns c =
    let P : List Tag → Type 0 = λ xs. All (Contains c.args.others.now) xs in
    (λ h. subst P (take_all c.loop-tag.tag-index c.args.tags.now c.loop-tag-test.false) c.loop-tag.invariant, λ a. refl)
