use Rattle.std.proofs.Common.{◌≡◌, ◌∙◌, ◌++◌, [], sym, ap, subst, true, map}
use Rattle.asn1_schema_tags.specs.Places.{is_table_of}
use Rattle.asn1_schema_tags.specs.Tags.{tag_of}
use Rattle.asn1_schema_constructed.specs.Tables.{tags_of}
use Rattle.asn1_schema_constructed.proofs.alternatives.tag_tables_of.Goals as goal

pub new-requires : goal.new-requires
new-requires g c =
    let joined = ap (λ ts. ts ++ map tag_of c.in-Some.additions.now) c.variants.ensures ∙ ap (λ ts. tags_of g.T.Alternatives.table.root ++ ts) c.in-Some.ensures.1 in
    record { table = subst (λ ts. is_table_of c.places.result.now ts ≡ true) (sym joined) c.places.ensures }

pub new-requires-in-None : goal.new-requires-in-None
new-requires-in-None g c =
    let joined = ap (λ ts. ts ++ []) c.variants-in-None.ensures ∙ ap (λ ts. tags_of g.T.Alternatives.table.root ++ ts) c.in-None.ensures.1 in
    record { table = subst (λ ts. is_table_of c.places-in-None.result.now ts ≡ true) (sym joined) c.places-in-None.ensures }
