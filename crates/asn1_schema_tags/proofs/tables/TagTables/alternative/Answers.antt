use Rattle.std.proofs.Common.{◌≡◌, ◌∙◌, sym, ap, Some, length}
use Rattle.std.proofs.lemmas.List.{length-map}
use Rattle.asn1_schema_tags.specs.declared.chosen.Chosen.{Chosen}
use Rattle.asn1_schema_tags.specs.Chosen.{ChoiceTags}
use Rattle.asn1_schema_tags.specs.Tags.{tag_of}
use Rattle.asn1_schema_tags.proofs.FoundAlternatives.{no_alternative, of_the_root, not_extensible, added_one}
use Rattle.asn1_schema_tags.proofs.tables.TagTables.alternative.Goals as goal

pub returns-in_err-place : goal.returns-in_err-place
returns-in_err-place c = c.from_residual.ensures ∙ sym (no_alternative c.args.self.now (tag_of c.args.tag) c.in_err-place.ensures)

pub returns-then-place-count : goal.returns-then-place-count
returns-then-place-count c =
    let count : length c.self.inside.roots.now ≡ length c.args.self.now.roots = sym (length-map c.self.inside.roots.now tag_of) ∙ ap (λ (v : ChoiceTags). length v.roots) c.self.view_is in
    ap (λ (x : Chosen). Some x) c.root.ensures ∙ sym (of_the_root c.args.self.now (tag_of c.args.tag) _ _ count c.in_ok-place.ensures c.if-place-count.true)

pub returns-then-not-self : goal.returns-then-not-self
returns-then-not-self c =
    let count : length c.self.inside.roots.now ≡ length c.args.self.now.roots = sym (length-map c.self.inside.roots.now tag_of) ∙ ap (λ (v : ChoiceTags). length v.roots) c.self.view_is in
    let extensible = sym (ap (λ (v : ChoiceTags). v.extensible) c.self.view_is) ∙ c.if-not-self.true in
    sym (not_extensible c.args.self.now (tag_of c.args.tag) _ _ count c.in_ok-place.ensures c.if-place-count.false extensible)

pub returns : goal.returns
returns c =
    let count : length c.self.inside.roots.now ≡ length c.args.self.now.roots = sym (length-map c.self.inside.roots.now tag_of) ∙ ap (λ (v : ChoiceTags). length v.roots) c.self.view_is in
    let extensible = sym (ap (λ (v : ChoiceTags). v.extensible) c.self.view_is) ∙ c.if-not-self.false in
    ap (λ (x : Chosen). Some x) c.addition.ensures ∙ sym (added_one c.args.self.now (tag_of c.args.tag) _ _ count c.in_ok-place.ensures c.if-place-count.false extensible)
