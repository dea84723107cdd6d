-- The alternative whose tag comes first.
use Rattle.std.proofs.Common.{◌≡◌, ℕ, zero, suc, ◌+◌, ◌<◌, Bool, true, false, cond, List, [], ◌∷◌, length, Option, Some, None, option_map, IfSome, IfNone, refl, sym, ap, ◌∙◌, subst, arith}
use Rattle.std.specs.List.{position_from}
use Rattle.asn1_model.specs.Oer
use Rattle.asn1_model.specs.Lawful.{tag_same}
use Rattle.asn1_model.specs.Schema.{Tag}
use Rattle.std.specs.List.{list_all}
use Rattle.asn1_schema_errors.specs.declared.DecodeError.{DecodeError}
use Rattle.asn1_schema_tags.specs.Chosen.{ChoiceTags, alternative_at, alternative_of}
use Rattle.asn1_schema_tags.specs.Trees.{place_of}
use Rattle.asn1_schema_tags.specs.declared.chosen.Chosen.{Chosen}
use Rattle.oer_codec_laws.specs.Takes.{IsPlace, tag_place}
use Rattle.oer_codec_reading.specs.Alternatives.{NoTag}
use Rattle.oer_codec_reading.specs.Fronts.{Stands, Misses}
use Rattle.oer_codec_reading.specs.Tags.{is_in_32_bits, tag_in}
use Rattle.oer_codec_reading.proofs.Fronts.{if_stands, missed, not_before}
use Rattle.oer_codec_reading.proofs.Places.{place_fits, place_below}

module _ (roots : List Tag) (e : Bool) (others : List Tag) (t : Tag) where
  fits : list_all is_in_32_bits roots ≡ true → list_all is_in_32_bits others ≡ true → (plus : Bool) (i : ℕ) → IsPlace roots e others t plus i → is_in_32_bits t ≡ true
  fits a b false i p = place_fits t roots i a p
  fits a b true i p = place_fits t others i b p.2

-- ---- the alternative of a tag
-- a search among tags gives the index of a tag
later : (n : ℕ) (o : Option ℕ) → option_map (λ k. n + 1 + k) o ≡ option_map (λ k. n + k) (option_map suc o)
later n None = refl
later n (Some k) = let e : n + 1 + k ≡ n + suc k = omega arith in ap (λ (j : ℕ). Some j) e

searched : (t : Tag) (n : ℕ) (us : List Tag) → position_from (tag_same t) n us ≡ option_map (λ k. n + k) (tag_place t us)
searched t n [] = refl
searched t n (u ∷ us) =
    let e : n ≡ n + 0 = omega arith in
    elim (tag_same t u) as (λ b. cond b (Some n) (position_from (tag_same t) (n + 1) us) ≡ option_map (λ k. n + k) (cond b (Some zero) (option_map suc (tag_place t us))))
    [ true ↦ ap (λ (j : ℕ). Some j) e | false ↦ searched t (n + 1) us ∙ later n (tag_place t us) ]

from_zero : (o : Option ℕ) → option_map (λ k. 0 + k) o ≡ o
from_zero None = refl
from_zero (Some k) = let e : 0 + k ≡ k = omega arith in ap (λ (j : ℕ). Some j) e

place_is : (t : Tag) (us : List Tag) → place_of us t ≡ tag_place t us
place_is t us = searched t 0 us ∙ from_zero (tag_place t us)

-- what is found by these indices
module _ (roots others : List Tag) (t : Tag) where
  found_at : (x : Bool) (o p : Option ℕ) → tag_place t roots ≡ o → tag_place t others ≡ p → IfSome (alternative_at x o p) (λ c. IsPlace roots x others t c.added c.place)
  found_at x (Some i) p f g = f
  found_at true None (Some i) f g = (refl, f, g)
  found_at true None None f g = tt
  found_at false None p f g = tt

  within_at : (x : Bool) (o p : Option ℕ) → tag_place t roots ≡ o → tag_place t others ≡ p → IfSome (alternative_at x o p) (λ c. c.place < length (cond c.added others roots))
  within_at x (Some i) p f g = place_below t roots i f
  within_at true None (Some i) f g = place_below t others i g
  within_at true None None f g = tt
  within_at false None p f g = tt

  none_of_these : (x plus : Bool) (i : ℕ) → tag_place t roots ≡ None → (x ≡ true → tag_place t others ≡ None) → IsPlace roots x others t plus i → ⊥
  none_of_these x false i f g h = let e : Some i ≡ None = sym h ∙ f in cc e
  none_of_these x true i f g h = let e : Some i ≡ None = sym h.2 ∙ g h.0 in cc e

  none_at : (x : Bool) (o p : Option ℕ) → tag_place t roots ≡ o → tag_place t others ≡ p → IfNone (alternative_at x o p) ((plus : Bool) (i : ℕ) → IsPlace roots x others t plus i → ⊥)
  none_at x (Some i) p f g = tt
  none_at true None (Some i) f g = tt
  none_at true None None f g = λ plus i. none_of_these true plus i f (λ _. g)
  none_at false None p f g = λ plus i. none_of_these false plus i f (λ e. cc e)

module _ (c : ChoiceTags) (t : Tag) (o : Option Chosen) (e : o ≡ alternative_of c t) where
  by_places : alternative_at c.extensible (tag_place t c.roots) (tag_place t c.additions) ≡ o
  by_places =
      sym (e ∙ (ap (λ p. alternative_at c.extensible p (place_of c.additions t)) (place_is t c.roots) ∙ ap (alternative_at c.extensible (tag_place t c.roots)) (place_is t c.additions)))

  pub found : IfSome o (λ x. IsPlace c.roots c.extensible c.additions t x.added x.place)
  found = subst (λ p. IfSome p (λ x. IsPlace c.roots c.extensible c.additions t x.added x.place)) by_places
      (found_at c.roots c.additions t c.extensible (tag_place t c.roots) (tag_place t c.additions) refl refl)

  pub found_within : IfSome o (λ x. x.place < length (cond x.added c.additions c.roots))
  found_within = subst (λ p. IfSome p (λ x. x.place < length (cond x.added c.additions c.roots))) by_places
      (within_at c.roots c.additions t c.extensible (tag_place t c.roots) (tag_place t c.additions) refl refl)

  pub not_found : IfNone o ((plus : Bool) (i : ℕ) → IsPlace c.roots c.extensible c.additions t plus i → ⊥)
  not_found = subst (λ p. IfNone p ((plus : Bool) (i : ℕ) → IsPlace c.roots c.extensible c.additions t plus i → ⊥)) by_places
      (none_at c.roots c.additions t c.extensible (tag_place t c.roots) (tag_place t c.additions) refl refl)

-- ---- tags
pub no_tag : (free : Oer.Freedom → Bool) (roots others : List Tag) (os : List ℕ) (e : DecodeError) → list_all is_in_32_bits roots ≡ true →
    list_all is_in_32_bits others ≡ true → Misses free tag_in os e → NoTag free roots others os e
no_tag free roots others os e a b m = record {
  none = λ i x t plus j rest p s. missed free tag_in os e m i t rest (if_stands free (is_in_32_bits t) (Oer.tag_form t) os rest (fits roots x others t a b plus j p) s);
  fresh = not_before free tag_in os e m;
}
