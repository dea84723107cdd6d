-- Prefixes of CHOICE in the octet rules: tags distinguish the alternatives.
use Rattle.std.proofs.Common.{◌≡◌, ℕ, zero, suc, not, Bool, true, false, List, [], ◌∷◌, ◌++◌, refl, ap}
use Rattle.std.proofs.lemmas.Bool.{and_parts, and_from}
use Rattle.asn1_model.specs.Value.{Value, same}
use Rattle.asn1_model.specs.Schema.{Tag, Schema, Alternatives, no_alternative, alternative}
use Rattle.asn1_model.specs.Lawful.{tag_same, are_distinct, alternative_tags}
use Rattle.asn1_model.specs.Form.{both}
use Rattle.std.specs.List.{list_all}
use Rattle.asn1_model.specs.Oer
use Rattle.asn1_laws_fronts.proofs.Fronts.{agree_refused, agree_with_refused, agree_map, agree_both, agree_both_apart, agree_turned}
use Rattle.asn1_laws_values.proofs.Listed.{EachAlternative}
use Rattle.asn1_laws_fronts.proofs.OerNumbers.{OctetsAlike}
use Rattle.asn1_laws_fronts.proofs.OctetUnits.{open_alike}
use Rattle.asn1_laws_fronts.proofs.Tags.{tags_alike}

each_behind : {X : Type 0} (test : X → Bool) (xs ys : List X) → list_all test (xs ++ ys) ≡ true → list_all test ys ≡ true
each_behind test [] ys h = h
each_behind test (x ∷ xs) ys h = each_behind test xs ys ((and_parts _ _ h).1)

pub each_before : {X : Type 0} (test : X → Bool) (xs ys : List X) → list_all test (xs ++ ys) ≡ true → list_all test xs ≡ true
each_before test [] ys h = refl
each_before test (x ∷ xs) ys h = let p = and_parts _ _ h in and_from _ _ p.0 (each_before test xs ys p.1)

pub distinct_before : {X : Type 0} (e : X → X → Bool) (xs ys : List X) → are_distinct e (xs ++ ys) ≡ true → are_distinct e xs ≡ true
distinct_before e [] ys h = refl
distinct_before e (x ∷ xs) ys h = let p = and_parts _ _ h in and_from _ _ (each_before (λ y. not (e x y)) xs ys p.0) (distinct_before e xs ys p.1)

pub distinct_behind : {X : Type 0} (e : X → X → Bool) (xs ys : List X) → are_distinct e (xs ++ ys) ≡ true → are_distinct e ys ≡ true
distinct_behind e [] ys h = h
distinct_behind e (x ∷ xs) ys h = distinct_behind e xs ys ((and_parts _ _ h).1)

not_both : (b : Bool) → not b ≡ true → b ≡ true → ⊥
not_both true h e = let f : false ≡ true = h in cc
not_both false h e = let f : false ≡ true = e in cc

module _ (free : Oer.Freedom → Bool) where
  abbrev pub OneWay : Schema → Type 0
  OneWay s = (v w : Value) → OctetsAlike free (Oer.form s v) (Oer.form s w) (same v w ≡ true)

  tags_apart : (t u : Tag) (x y : Oer.OctetForm) (P : Type 0) → not (tag_same t u) ≡ true → OctetsAlike free (both (Oer.tag_form t) x) (both (Oer.tag_form u) y) P
  tags_apart t u x y P h = agree_both_apart free (agree_map free (λ e. not_both (tag_same t u) h e) (tags_alike free t u))

  -- an alternative whose tag differs from those of the others
  pub apart_from : (t : Tag) (x : Oer.OctetForm) (b : Bool) (others : Alternatives) (j : ℕ) (w : Value) (P : Type 0) →
      list_all (λ u. not (tag_same t u)) (alternative_tags others) ≡ true → OctetsAlike free (both (Oer.tag_form t) x) (Oer.alternative_form b others j w) P
  unfolding Oer.alternative_form
  apart_from t x true no_alternative j w P h = agree_with_refused free _ _
  apart_from t x false no_alternative j w P h = agree_with_refused free _ _
  apart_from t x true (alternative u s others) zero w P h = tags_apart t u _ _ P ((and_parts _ _ h).0)
  apart_from t x false (alternative u s others) zero w P h = tags_apart t u _ _ P ((and_parts _ _ h).0)
  apart_from t x true (alternative u s others) (suc j) w P h = apart_from t x true others j w P ((and_parts _ _ h).1)
  apart_from t x false (alternative u s others) (suc j) w P h = apart_from t x false others j w P ((and_parts _ _ h).1)

  pub one_table : (b : Bool) (others : Alternatives) (i j : ℕ) (v w : Value) → are_distinct tag_same (alternative_tags others)
      ≡ true → EachAlternative OneWay others → OctetsAlike free (Oer.alternative_form b others i v) (Oer.alternative_form b others j w) ((i ≡ j) × (same v w ≡ true))
  unfolding Oer.alternative_form
  one_table true no_alternative i j v w d h = agree_refused free _ _
  one_table false no_alternative i j v w d h = agree_refused free _ _
  one_table true (alternative t s others) zero zero v w d h = agree_map free (λ q. (refl, q.1)) (agree_both free (tags_alike free t t) (λ e. open_alike free _ _ _ (h.0 v w)))
  one_table false (alternative t s others) zero zero v w d h = agree_map free (λ q. (refl, q.1)) (agree_both free (tags_alike free t t) (λ e. h.0 v w))
  one_table true (alternative t s others) zero (suc j) v w d h = apart_from t _ true others j w _ ((and_parts _ _ d).0)
  one_table false (alternative t s others) zero (suc j) v w d h = apart_from t _ false others j w _ ((and_parts _ _ d).0)
  one_table true (alternative t s others) (suc i) zero v w d h = agree_turned free (apart_from t _ true others i v _ ((and_parts _ _ d).0))
  one_table false (alternative t s others) (suc i) zero v w d h = agree_turned free (apart_from t _ false others i v _ ((and_parts _ _ d).0))
  one_table true (alternative t s others) (suc i) (suc j) v w d h = agree_map free (λ q. (ap suc q.0, q.1)) (one_table true others i j v w ((and_parts _ _ d).1) h.1)
  one_table false (alternative t s others) (suc i) (suc j) v w d h = agree_map free (λ q. (ap suc q.0, q.1)) (one_table false others i j v w ((and_parts _ _ d).1) h.1)

  pub two_tables : (roots adds : Alternatives) (i j : ℕ) (v w : Value) (P : Type 0) →
      are_distinct tag_same (alternative_tags roots ++ alternative_tags adds) ≡ true → OctetsAlike free (Oer.alternative_form false roots i v) (Oer.alternative_form true adds j w) P
  unfolding Oer.alternative_form
  two_tables no_alternative adds i j v w P d = agree_refused free _ _
  two_tables (alternative t s roots) adds zero j v w P d = apart_from t _ true adds j w P (each_behind (λ u. not (tag_same t u)) (alternative_tags roots) (alternative_tags adds) ((and_parts _ _ d).0))
  two_tables (alternative t s roots) adds (suc i) j v w P d = two_tables roots adds i j v w P ((and_parts _ _ d).1)
