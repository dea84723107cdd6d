-- The alternative of a tag, by its index in the concatenation of root and added tags.
use Rattle.std.proofs.Common.{◌≡◌, ◌∙◌, refl, sym, ap, ℕ, ◌+◌, ◌-◌, ◌≤◌, ◌<◌, ◌++◌, Bool, true, false, Option, Some, None, option_map, length, arith}
use Rattle.asn1_model.specs.Schema.{Tag as ModelTag}
use Rattle.asn1_schema_tags.specs.declared.chosen.Chosen.{Chosen}
use Rattle.asn1_schema_tags.specs.Chosen.{ChoiceTags, alternative_at, alternative_of}
use Rattle.asn1_schema_tags.specs.Trees.{place_of}
use Rattle.asn1_schema_tags.proofs.PlaceLaws.{either, place_of_joined, place_within}

-- The alternatives at an index.
abbrev root_at : ℕ → Option Chosen
root_at i = Some (record { added = false; place = i })

abbrev added_at : ℕ → Option Chosen
added_at i = Some (record { added = true; place = i })

-- Nothing is found.
none_at : (e : Bool) (n : ℕ) (o p : Option ℕ) → either o (option_map (λ k. n + k) p) ≡ None → alternative_at e o p ≡ None
none_at e n (Some i) p h = cc h
none_at true n None None h = refl
none_at false n None None h = refl
none_at e n None (Some j) h = cc h

-- An index before the added ones is of the root.
root_found : (e : Bool) (n k : ℕ) (o p : Option ℕ) → either o (option_map (λ j. n + j) p) ≡ Some k → k < n → alternative_at e o p ≡ root_at k
root_found e n k (Some i) p h l = let is : i ≡ k = cc in ap root_at is
root_found e n k None None h l = cc h
root_found e n k None (Some j) h l = let is : n + j ≡ k = cc in absurd (omega (arith, is, l))

-- An index after the root is an added one, if there is an extension marker.
added_found : (n k : ℕ) (o p : Option ℕ) → ((i : ℕ) → o ≡ Some i → i < n) → either o (option_map (λ j. n + j) p) ≡ Some k → n ≤ k → alternative_at true o p ≡ added_at (k - n)
added_found n k (Some i) p w h l = let is : i ≡ k = cc in let b : i < n = w i refl in absurd (omega (arith, is, b, l))
added_found n k None None w h l = cc h
added_found n k None (Some j) w h l = let is : n + j ≡ k = cc in let q : j ≡ k - n = omega (arith, is) in ap added_at q

-- Without an extension marker there is none after the root.
unmarked_found : (n k : ℕ) (o p : Option ℕ) → ((i : ℕ) → o ≡ Some i → i < n) → either o (option_map (λ j. n + j) p) ≡ Some k → n ≤ k → alternative_at false o p ≡ None
unmarked_found n k (Some i) p w h l = let is : i ≡ k = cc in let b : i < n = w i refl in absurd (omega (arith, is, b, l))
unmarked_found n k None p w h l = refl

-- The same for a tag, given the number of root tags.
module _ (c : ChoiceTags) (t : ModelTag) where
  joined : (o : Option ℕ) → o ≡ place_of (c.roots ++ c.additions) t → either (place_of c.roots t) (option_map (λ k. length c.roots + k) (place_of c.additions t)) ≡ o
  joined o h = sym (h ∙ place_of_joined c.roots c.additions t)

  pub no_alternative : None ≡ place_of (c.roots ++ c.additions) t → alternative_of c t ≡ None
  no_alternative h = none_at c.extensible (length c.roots) (place_of c.roots t) (place_of c.additions t) (joined None h)

  module _ (n k : ℕ) (is : n ≡ length c.roots) (h : Some k ≡ place_of (c.roots ++ c.additions) t) where
    within : (i : ℕ) → place_of c.roots t ≡ Some i → i < length c.roots
    within i e = place_within c.roots t i e

    pub of_the_root : k < n → alternative_of c t ≡ root_at k
    of_the_root l = root_found c.extensible (length c.roots) k (place_of c.roots t) (place_of c.additions t) (joined (Some k) h) (omega (arith, is, l))

    pub not_extensible : n ≤ k → c.extensible ≡ false → alternative_of c t ≡ None
    not_extensible l e =
        ap (λ x. alternative_at x (place_of c.roots t) (place_of c.additions t)) e
        ∙ unmarked_found (length c.roots) k (place_of c.roots t) (place_of c.additions t) within (joined (Some k) h) (omega (arith, is, l))

    pub added_one : n ≤ k → c.extensible ≡ true → alternative_of c t ≡ added_at (k - n)
    added_one l e =
        ap (λ x. alternative_at x (place_of c.roots t) (place_of c.additions t)) e
        ∙ (added_found (length c.roots) k (place_of c.roots t) (place_of c.additions t) within (joined (Some k) h) (omega (arith, is, l))
        ∙ ap (λ m. added_at (k - m)) (sym is))
