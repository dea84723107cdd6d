-- Look-up in a table of tags gives the index that a search of the tags gives.
use Rattle.std.proofs.Common.{◌≡◌, ◌∙◌, refl, sym, ap, ℕ, zero, suc, ◌+◌, List, [], ◌∷◌, Bool, true, false, cond, ◌&&◌, Option, Some, None, slice_get}
use Rattle.std.proofs.lemmas.Bool.{eqb-true}
use Rattle.std.specs.List.{position_from}
use Rattle.asn1_model.specs.Schema.{Tag as ModelTag}
use Rattle.asn1_model.specs.Lawful.{tag_same}
use Rattle.std.specs.List.{list_all}
use Rattle.asn1_schema_tags.specs.Tags.{tag_of}
use Rattle.asn1_schema_tags.specs.Trees.{place_of}
use Rattle.asn1_schema_tags.specs.Places.{ascends, looked_up, stands_at, is_tag_there, is_place_there, are_listed, is_table_of}
use Rattle.asn1_schema_tags.specs.declared.probes.TagPlace.{TagPlace}
use Rattle.asn1_schema_tags.proofs.Halves.{left, right, none_there}
use Rattle.asn1_schema_tags.specs.Same.{tag_is, differ}

-- A table's entry passes what all entries pass.
passes : (test : TagPlace → Bool) (ps : List TagPlace) (k : ℕ) (r : TagPlace) → list_all test ps ≡ true → slice_get ps k ≡ Some r → test r ≡ true
passes test [] k r e f = cc
passes test (p ∷ ps) zero r e f =
    let is : p ≡ r = cc in
    sym (ap test is) ∙ left (test p) (list_all test ps) e
passes test (p ∷ ps) (suc k) r e f = passes test ps k r (right (test p) (list_all test ps) e) f

-- A tag that is not found is none of those that were searched.
absent : (t : ModelTag) (n : ℕ) (ts : List ModelTag) (k : ℕ) (u : ModelTag) → position_from (tag_same t) n ts ≡ None → slice_get ts k ≡ Some u
    → tag_same t u ≡ false
absent t n [] k u e f = cc
absent t n (x ∷ ts) k u e f = go (tag_same t x) refl k e f (absent t (n + 1) ts) where
  go : (b : Bool) → tag_same t x ≡ b → (k : ℕ) → cond b (Some n) (position_from (tag_same t) (n + 1) ts) ≡ None
      → slice_get (x ∷ ts) k ≡ Some u
      → ((i : ℕ) (v : ModelTag) → position_from (tag_same t) (n + 1) ts ≡ None → slice_get ts i ≡ Some v → tag_same t v ≡ false) → tag_same t u ≡ false
  go true c k e f r = cc
  go false c zero e f r = let is : x ≡ u = cc in sym (ap (tag_same t) is) ∙ c
  go false c (suc k) e f r = r k u e f

-- A tag that is found is in the table with that index.
listed : (ps : List TagPlace) (t : ModelTag) (n : ℕ) (ts : List ModelTag) (j : ℕ) → are_listed ps n ts ≡ true → position_from (tag_same t) n ts ≡ Some j
    → looked_up ps t ≡ Some j
listed ps t n [] j e f = cc
listed ps t n (x ∷ ts) j e f = go (tag_same t x) refl f (listed ps t (n + 1) ts j) where
  there : (o : Option ℕ) → is_place_there o n ≡ true → o ≡ Some n
  there None g = differ g
  there (Some i) g = ap Some (eqb-true i n g)

  go : (b : Bool) → tag_same t x ≡ b → cond b (Some n) (position_from (tag_same t) (n + 1) ts) ≡ Some j
      → (are_listed ps (n + 1) ts ≡ true → position_from (tag_same t) (n + 1) ts ≡ Some j → looked_up ps t ≡ Some j) → looked_up ps t ≡ Some j
  go true c f r =
      ap (looked_up ps) (tag_is t x c)
      ∙ (there (looked_up ps x) (left (is_place_there (looked_up ps x) n) (are_listed ps (n + 1) ts) e) ∙ f)
  go false c f r = r (right (is_place_there (looked_up ps x) n) (are_listed ps (n + 1) ts) e) f

-- A tag that is not found is not in the table.
unlisted : (ps : List TagPlace) (t : ModelTag) (ts : List ModelTag) → list_all (stands_at ts) ps ≡ true
    → position_from (tag_same t) 0 ts ≡ None → looked_up ps t ≡ None
unlisted ps t ts e f = none_there ps t each where
  each : (k : ℕ) (r : TagPlace) → slice_get ps k ≡ Some r → tag_same t (tag_of r.tag) ≡ false
  each k r g = go (slice_get ts r.place) refl (passes (stands_at ts) ps k r e g) where
    go : (o : Option ModelTag) → slice_get ts r.place ≡ o → is_tag_there o (tag_of r.tag) ≡ true → tag_same t (tag_of r.tag) ≡ false
    go None h i = differ i
    go (Some u) h i =
        ap (tag_same t) (tag_is (tag_of r.tag) u i) ∙ absent t 0 ts r.place u f h

-- The look-up in a table gives the same as a search of the tags.
pub same_as_search : (ps : List TagPlace) (t : ModelTag) (ts : List ModelTag) → is_table_of ps ts ≡ true → looked_up ps t ≡ place_of ts t
same_as_search ps t ts e = go (place_of ts t) refl where
  stand : Bool
  stand = list_all (stands_at ts) ps

  go : (o : Option ℕ) → place_of ts t ≡ o → looked_up ps t ≡ o
  go None f = unlisted ps t ts (right (ascends ps) stand (left (ascends ps && stand) (are_listed ps 0 ts) e)) f
  go (Some j) f = listed ps t 0 ts j (right (ascends ps && stand) (are_listed ps 0 ts) e) f
