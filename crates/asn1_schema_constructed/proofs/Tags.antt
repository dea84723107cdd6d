-- The alternative of a tag.
use Rattle.std.proofs.Common.{◌≡◌, ◌∙◌, ℕ, Bool, true, false, [], Option, Some, None, option_map, refl, sym, ap, subst}
use Rattle.asn1_model.specs.Schema.{Tag}
use Rattle.asn1_schema_tags.specs.Chosen.{ChoiceTags, alternative_at, alternative_of}
use Rattle.asn1_schema_tags.specs.Trees.{place_of}
use Rattle.asn1_schema_tags.proofs.PlaceLaws.{place_within}
use Rattle.asn1_schema_tags.specs.declared.chosen.Chosen.{Chosen}
use Rattle.asn1_schema_constructed.specs.Tables.{Choices, tags_of}
use Rattle.asn1_schema_constructed.specs.Chosen.{IsAmong, AreTold, either, of_tag}

-- it is an alternative of the choice
pub of_tag_among : (t : Choices) (tag : Tag) (c : Chosen) → of_tag t tag ≡ Some c → IsAmong t c
of_tag_among t tag c e = go (place_of (tags_of t.root) tag) refl (place_of (tags_of t.additions) tag) refl e where
  go : (o : Option ℕ) → place_of (tags_of t.root) tag ≡ o → (q : Option ℕ) → place_of (tags_of t.additions) tag ≡ q →
      either (option_map (λ i. record { added = false; place = i }) o) (option_map (λ i. record { added = true; place = i }) q) ≡ Some c → IsAmong t c
  go (Some i) h q k f = let s : record { added = false; place = i } ≡ c = cc in subst (λ d. IsAmong t d) s (place_within (tags_of t.root) tag i h)
  go None h (Some i) k f = let s : record { added = true; place = i } ≡ c = cc in subst (λ d. IsAmong t d) s (place_within (tags_of t.additions) tag i k)
  go None h None k f = cc

-- A codec that is given the tags of the choice finds the same alternative.
in_turn : (e : Bool) (o p : Option ℕ) → (e ≡ false → p ≡ None)
    → alternative_at e o p ≡ either (option_map (λ i. record { added = false; place = i }) o) (option_map (λ i. record { added = true; place = i }) p)
in_turn e (Some i) p h = refl
in_turn true None (Some i) h = refl
in_turn true None None h = refl
in_turn false None p h =
    let added_at : ℕ → Chosen = λ i. record { added = true; place = i } in
    sym (ap (option_map added_at) (h refl))

pub of_tag_told : (t : Choices) (c : ChoiceTags) (tag : Tag) → AreTold t c.roots c.extensible c.additions → (c.extensible ≡ false → c.additions ≡ []) → alternative_of c tag ≡ of_tag t tag
of_tag_told t c tag told closed =
    ap (λ ts. alternative_at c.extensible (place_of ts tag) (place_of c.additions tag)) told.root
    ∙ (ap (λ ts. alternative_at c.extensible (place_of (tags_of t.root) tag) (place_of ts tag)) told.added
    ∙ in_turn c.extensible (place_of (tags_of t.root) tag) (place_of (tags_of t.additions) tag) (λ e. ap (λ ts. place_of ts tag) (sym told.added ∙ closed e)))
