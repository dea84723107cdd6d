use Rattle.std.proofs.Common.{◌≡◌, ◌∙◌, ◌∷◌, ◌++◌, [], rules, subst, sym, ap, List, length}
use Rattle.std.specs.List.{insert}
use Rattle.std.proofs.lemmas.List.Sorted.{IsPartitionPoint-from_clause}
use Rattle.asn1_model.specs.Lawful.{tag_less}
use Rattle.asn1_schema_tags.specs.Tags.{tag_of}
use Rattle.asn1_schema_tags.specs.declared.probes.TagPlace.{TagPlace}
use Rattle.asn1_table_types.specs.Choices.{Lists}
use Rattle.asn1_table_types.proofs.Inserting.{one_more, parted, ascends_of}
use Rattle.asn1_table_types.proofs.choice_tags.insert_tag.Goals as goal

pub returns : goal.returns
returns c = λ ts l e.
    let same = c.as_slice.ensures.value in
    let qs = c.as_slice.result.now in
    let k = c.partition_point-index.result in
    let p : TagPlace = record { tag = c.args.tag; place = c.len-place.result } in
    let listed : Lists qs ts = subst (λ (xs : List TagPlace). Lists xs ts) (sym same) l in
    let point = IsPartitionPoint-from_clause (λ q. tag_less (tag_of q.tag) (tag_of c.args.tag)) _ _ c.partition_point-index.ensures.partitioned
    (parted qs (tag_of c.args.tag) (ascends_of qs ts listed)) (λ a r q h. search rules) in
    let place : p.place ≡ length qs = c.len-place.ensures ∙ sym c.as_slice.ensures.len in
    let more = one_more qs ts k p listed e place c.partition_point-index.ensures.bound point.0 point.1 in
    subst (λ (xs : List TagPlace). Lists xs (ts ++ tag_of c.args.tag ∷ [])) (ap (λ (xs : List TagPlace). insert xs k p) same ∙ sym c.in_ok-insert.ensures.items) more
