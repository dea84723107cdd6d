-- The tags of the CHOICEs of a table.
use Rattle.std.proofs.Common.{◌≡◌, ◌∙◌, refl, sym, ap, ℕ, suc, Bool, List, [], ◌∷◌, ◌++◌, true, not, ◌&&◌, ◌||◌, Some, slice_get}
use Rattle.std.specs.List.{list_all}
use Rattle.std.proofs.lemmas.Bool.{and_from}
use Rattle.asn1_model.specs.Lawful.{are_ascending, are_distinct, tag_less, tag_same, is_empty, alternative_tags}
use Rattle.asn1_model.specs.Schema.{Schema}
use Rattle.asn1_schema_tags.proofs.Halves.{left, right}
use Rattle.asn1_table_types.proofs.TagLaws.{among_are}
use Rattle.asn1_table_types.specs.Choices.{has_own_tags}
use Rattle.asn1_table_types.specs.Flaws.{is_sound, are_alternatives, are_choice_tags, is_choice_table}
use Rattle.asn1_table_nodes.specs.Meaning.{alternatives_of, tags_among, type_of, type_at}
use Rattle.asn1_table_nodes.specs.declared.nodes.Alternative.{Alternative}
use Rattle.asn1_table_nodes.specs.declared.nodes.TypeNode.{TypeNode}
use Rattle.asn1_table_nodes.specs.declared.nodes.TypeNode.TheVariants as node

-- no tag of alternatives of a lawful CHOICE occurs twice
distinct_among : (f : ℕ → Schema) (xs : List Alternative) (e : Bool) (ys : List Alternative) → is_choice_table (alternatives_of f xs) e (alternatives_of f ys) ≡ true
    → are_distinct tag_same (tags_among xs ++ tags_among ys) ≡ true
distinct_among f xs e ys h =
    let ts = alternative_tags (alternatives_of f xs) in
    let us = alternative_tags (alternatives_of f ys) in
    let tags : are_choice_tags ts e us ≡ true = left (are_choice_tags ts e us) (are_alternatives (alternatives_of f xs) && are_alternatives (alternatives_of f ys)) h in
    let distinct : are_distinct tag_same (ts ++ us) ≡ true = right (not (is_empty ts) && (e || is_empty us) && are_ascending tag_less ts) (are_distinct tag_same (ts ++ us)) tags in
    sym (ap (λ vs. are_distinct tag_same (vs ++ us)) (among_are f xs) ∙ ap (λ vs. are_distinct tag_same (tags_among xs ++ vs)) (among_are f ys)) ∙ distinct

module _ (ns : List TypeNode) where
  own_tags : (x : TypeNode) → is_sound (type_of ns 2 (Some x)) ≡ true → has_own_tags x ≡ true
  own_tags (node.Choice t) e = distinct_among (λ i. type_at ns 1 i) t.root.items t.is_extensible t.additions.items e
  own_tags x e = refl

  all_own_tags : (xs : List TypeNode) → ((i : ℕ) → is_sound (type_of ns 2 (slice_get xs i)) ≡ true) → list_all has_own_tags xs ≡ true
  all_own_tags [] h = refl
  all_own_tags (x ∷ xs) h = and_from _ _ (own_tags x (h 0)) (all_own_tags xs (λ i. h (suc i)))

  pub tags_differ : ((i : ℕ) → is_sound (type_at ns 2 i) ≡ true) → list_all has_own_tags ns ≡ true
  tags_differ h = all_own_tags ns h
