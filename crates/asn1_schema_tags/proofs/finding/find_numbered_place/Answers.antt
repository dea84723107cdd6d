use Rattle.std.proofs.Common.{◌∙◌, sym, ap, refl, Some}
use Rattle.std.proofs.lemmas.Option.{slice_get-get_or}
use Rattle.asn1_schema_tags.specs.Tags.{tag_of}
use Rattle.asn1_schema_tags.specs.declared.probes.TagPlace.{TagPlace}
use Rattle.asn1_schema_tags.proofs.Halves.{just_there}
use Rattle.asn1_schema_tags.proofs.PlainLookUp.{same_as_search}
use Rattle.asn1_schema_tags.proofs.finding.find_numbered_place.Goals as goal

-- src/finding.rt:38:1
pub returns-in-Some-clause-place : goal.returns-in-Some-clause-place
returns-in-Some-clause-place c =
    let look = c.in-Some.ensures.lookup in
    let there = slice_get-get_or c.args.places.now c.args.tag.value c.in-Some.entry.now look.3.0
    ∙ ap (λ (p : TagPlace). Some p) (sym look.1) in
    sym (just_there c.args.places.now c.args.tag.value c.in-Some.entry.now (tag_of c.args.tag) c.requires there
    (ap tag_of (c.if-const_eq.ensures.same.0 refl)))

-- src/finding.rt:38:1
pub returns-in-Some-clause-plain : goal.returns-in-Some-clause-plain
returns-in-Some-clause-plain c =
    let look = c.in-Some.ensures.lookup in
    let there = slice_get-get_or c.args.places.now c.args.tag.value c.in-Some.entry.now look.3.0
    ∙ ap (λ (p : TagPlace). Some p) (sym look.1) in
    let place = sym (just_there c.args.places.now c.args.tag.value c.in-Some.entry.now (tag_of c.args.tag) c.requires there
    (ap tag_of (c.if-const_eq.ensures.same.0 refl))) in
    λ ts h. place ∙ same_as_search c.args.places.now (tag_of c.args.tag) ts h
