-- Choices, as a reader finds them: a tag has one index among those of a type whose tags are distinct.
use Rattle.std.proofs.Common.{◌≡◌, ℕ, zero, suc, ◌==◌, not, Bool, true, false, cond, List, [], ◌∷◌, ◌++◌, Option, Some, None, option_map, refl, ap, sym, ◌∙◌, subst, arith}
use Rattle.std.proofs.lemmas.Bool.{and_parts, and_from, eq-eqb}
use Rattle.asn1_model.specs.Value.{Value, chosen, same}
use Rattle.asn1_model.specs.Schema.{Tag, Schema, choice, Alternatives, no_alternative, alternative as other}
use Rattle.asn1_model.specs.Lawful.{tag_same, are_distinct, alternative_tags}
use Rattle.std.specs.List.{list_all}
use Rattle.asn1_model.specs.Form.{both}
use Rattle.asn1_model.specs.Oer
use Rattle.asn1_laws_values.proofs.Listed.{EachAlternative}
use Rattle.asn1_laws_fronts.proofs.Choices.{distinct_before, distinct_behind}
use Rattle.asn1_schema_laws.specs.Records.{ends}
use Rattle.asn1_schema_laws.specs.Presents.{presents, chosen_records}
use Rattle.asn1_schema_laws.specs.Chains.{Chain}
use Rattle.asn1_schema_laws.proofs.Chains.{chain_split, chain_append}
use Rattle.oer_codec_laws.specs.Takes.{State, open_type, alternative, Front, Found, Closes, tag_place, Enters, Ends}
use Rattle.asn1_schema_reading_laws.specs.Bags.{are_no_bags}
use Rattle.oer_codec_laws.proofs.Next.{state_same, same_tag}
use Rattle.oer_codec_laws.proofs.Anywhere.{form_moves, open_moves}
use Rattle.asn1_schema_reading_laws.proofs.Alike.{Like, chosen_same}
use Rattle.oer_codec_laws.proofs.Fronts.{Finds, Shows, Step, of_refused, split, join, none, from_state}
use Rattle.oer_codec_laws.proofs.Sequences.{open_in, open_out}

-- ---- indices of tags

place_first : (q : Bool) (o : Option ℕ) → cond q (Some zero) (option_map suc o) ≡ Some zero → q ≡ true
place_first true o e = refl
place_first false None e = cc
place_first false (Some j) e = let h : suc j ≡ zero = cc e in absurd (omega arith)

place_later : (q : Bool) (o : Option ℕ) (i : ℕ) → cond q (Some zero) (option_map suc o) ≡ Some (suc i) → o ≡ Some i
place_later true o i e = let h : zero ≡ suc i = cc e in absurd (omega arith)
place_later false None i e = cc
place_later false (Some j) i e = let h : suc j ≡ suc i = cc e in let k : j ≡ i = omega arith in ap Some k

itself : (t : Tag) → tag_same t t ≡ true
itself t = and_from (t.class == t.class) (t.number == t.number) (eq-eqb t.class t.class refl) (eq-eqb t.number t.number refl)

not_true : (b : Bool) → not b ≡ true → b ≡ false
not_true true e = cc
not_true false e = refl

-- a tag that is none of these has no index, and another one with an index is not it
apart_from : (u t : Tag) (us : List Tag) (i : ℕ) → list_all (λ w. not (tag_same u w)) us ≡ true → tag_place t us ≡ Some i → tag_same t u ≡ false
apart_from u t [] i h e = cc
apart_from u t (w ∷ us) i h e = by_head (λ j f. apart_from u t us j ((and_parts _ _ h).1) f) (tag_same t w) refl
  where
    turned : (b : Bool) → tag_same t u ≡ b → tag_same t w ≡ true → tag_same t u ≡ false
    turned false f g = f
    turned true f g =
        let p : t ≡ u = same_tag t u f in
        let q : tag_same u w ≡ true = ap (λ x. tag_same x w) (sym p) ∙ g in
        let r : tag_same u w ≡ false = not_true (tag_same u w) ((and_parts _ _ h).0) in
        cc

    later : ((j : ℕ) → tag_place t us ≡ Some j → tag_same t u ≡ false) → (i : ℕ) → cond (tag_same t w) (Some zero) (option_map suc (tag_place t us))
        ≡ Some i → tag_same t w ≡ false → tag_same t u ≡ false
    later again zero f g = let r = place_first _ _ f in cc
    later again (suc j) f g = again j (place_later _ _ j f)

    by_head : ((j : ℕ) → tag_place t us ≡ Some j → tag_same t u ≡ false) → (b : Bool) → tag_same t w ≡ b → tag_same t u ≡ false
    by_head again true g = turned (tag_same t u) refl g
    by_head again false g = later again i e g

-- a tag that has an index among the later ones has none among the earlier ones
behind_all : (t : Tag) (us ws : List Tag) (i : ℕ) → are_distinct tag_same (us ++ ws) ≡ true → tag_place t ws ≡ Some i → tag_place t us ≡ None
behind_all t [] ws i h e = refl
behind_all t (u ∷ us) ws i h e =
    let p = and_parts _ _ h in
    let a : tag_same t u ≡ false = apart_from u t ws i (last us ws p.0) e in
    let r : tag_place t us ≡ None = behind_all t us ws i p.1 e in
    rw (a, r) refl
  where
    last : (xs ys : List Tag) → list_all (λ w. not (tag_same u w)) (xs ++ ys) ≡ true → list_all (λ w. not (tag_same u w)) ys ≡ true
    last [] ys q = q
    last (x ∷ xs) ys q = last xs ys ((and_parts _ _ q).1)

module _ (free : Oer.Freedom → Bool) where
  -- ---- one alternative
  -- the value of an alternative, and its end
  abbrev Ended : Schema → Value → State → State → Type 0
  Ended s v m b = Chain (Step free) (presents s v ++ (ends ∷ [])) m b

  root_in : (s : Schema) (v : Value) → Finds free s → (u : Tag) (a m b : State) (os : List ℕ) → Front free (Oer.tag_form u) a.0 os →
      Enters free false os a.1 m → Ended s v m b → Found free (both (Oer.tag_form u) (Oer.form s v)) a b
  root_in s v h u a m b os f t c =
      let q = chain_split (Step free) (presents s v) (ends ∷ []) (os, alternative ∷ a.1) b (from_state free (presents s v ++ (ends ∷ [])) m b os (alternative ∷ a.1) t c) in
      let g = h v (os, alternative ∷ a.1) q.0 q.1 in
      let l : State = q.2.0 in
      let e : l ≡ (q.0.0, a.1) = subst (λ x. Ends free q.0.0 x l) g.1 q.2.1 in
      let w : b ≡ (q.0.0, a.1) = q.2.2 ∙ e in
      subst (λ x. Found free (both (Oer.tag_form u) (Oer.form s v)) a x) (sym w) (join free (Oer.tag_form u) (Oer.form s v) (form_moves free s v) a.0 os q.0.0 f g.0, refl)

  -- an alternative of a value that is like this one
  abbrev Out : Bool → Schema → Value → Tag → State → State → Type 0
  Out plus s v u a b = (w : Value) × (os : List ℕ) × (m : State) × Like s v w × Front free (Oer.tag_form u) a.0 os × Enters free plus os a.1 m × Ended s w m b

  root_out : (s : Schema) (v : Value) → Shows free s → (u : Tag) (a b : State) → Found free (both (Oer.tag_form u) (Oer.form s v)) a b → Out false s v u a b
  root_out s v h u a b f =
      let q = split free (Oer.tag_form u) (Oer.form s v) (form_moves free s v) a.0 b.0 f.0 in
      let m : State = (q.0, alternative ∷ a.1) in
      let n : State = (b.0, alternative ∷ a.1) in
      let w = h v m n (q.2, refl) in
      (w.0, q.0, m, w.1, q.1, refl, chain_append (Step free) (presents s w.0) (ends ∷ []) m n b w.2 (b, state_same b (b.0, a.1) refl f.1, refl))

  added_in : (s : Schema) (v : Value) → Finds free s → (u : Tag) (a m b : State) (os : List ℕ) → Front free (Oer.tag_form u) a.0 os →
      Enters free true os a.1 m → Ended s v m b → Found free (both (Oer.tag_form u) (Oer.open_type (Oer.form s v))) a b
  added_in s v h u a m b os f t c =
      let q = chain_split (Step free) (presents s v) (ends ∷ []) m b c in
      let g = h v m q.0 q.1 in
      let l : State = q.2.0 in
      let e : Closes free q.0.0 t.0 a.1 l = subst (λ x. Ends free q.0.0 x l) (g.1 ∙ t.2) q.2.1 in
      let w : b ≡ (t.0, a.1) = q.2.2 ∙ e.1 in
      subst (λ x. Found free (both (Oer.tag_form u) (Oer.open_type (Oer.form s v))) a x) (sym w)
      (join free (Oer.tag_form u) (Oer.open_type (Oer.form s v)) (open_moves free (Oer.form s v)) a.0 os t.0 f (open_in free (Oer.form s v) os t.0 m.0 q.0.0 t.1 g.0 e.0), refl)

  added_out : (s : Schema) (v : Value) → Shows free s → (u : Tag) (a b : State) → Found free (both (Oer.tag_form u) (Oer.open_type (Oer.form s v))) a b → Out true s v u a b
  added_out s v h u a b f =
      let q = split free (Oer.tag_form u) (Oer.open_type (Oer.form s v)) (open_moves free (Oer.form s v)) a.0 b.0 f.0 in
      let z = open_out free (Oer.form s v) q.0 b.0 q.2 in
      let m : State = (z.0, open_type b.0 ∷ a.1) in
      let n : State = (z.1, open_type b.0 ∷ a.1) in
      let w = h v m n (z.3, refl) in
      (w.0, q.0, m, w.1, q.1, (b.0, z.2, refl), chain_append (Step free) (presents s w.0) (ends ∷ []) m n b w.2 (b, (z.4, state_same b (b.0, a.1) refl f.1), refl))

  -- ---- a table of alternatives
  table_in : (plus : Bool) (others : Alternatives) → EachAlternative (λ s. Finds free s) others → (i : ℕ) (v : Value) (t : Tag) →
      tag_place t (alternative_tags others) ≡ Some i → (a m b : State) (os : List ℕ) → Front free (Oer.tag_form t) a.0 os →
      Enters free plus os a.1 m → Chain (Step free) (chosen_records others i v) m b → Found free (Oer.alternative_form plus others i v) a b
  unfolding chosen_records Oer.alternative_form
  table_in plus no_alternative h i v t e a m b os f g c = cc
  table_in false (other u s others) h zero v t e a m b os f g c = root_in s v h.0 u a m b os (subst (λ x. Front free (Oer.tag_form x) a.0 os) (same_tag t u (place_first _ _ e)) f) g c
  table_in true (other u s others) h zero v t e a m b os f g c = added_in s v h.0 u a m b os (subst (λ x. Front free (Oer.tag_form x) a.0 os) (same_tag t u (place_first _ _ e)) f) g c
  table_in false (other u s others) h (suc i) v t e a m b os f g c = table_in false others h.1 i v t (place_later _ _ i e) a m b os f g c
  table_in true (other u s others) h (suc i) v t e a m b os f g c = table_in true others h.1 i v t (place_later _ _ i e) a m b os f g c

  abbrev Read : Bool → Alternatives → ℕ → Value → State → State → Type 0
  Read plus others i v a b = (t : Tag) × (os : List ℕ) × (m : State) × (w : Value) × (tag_place t (alternative_tags others) ≡ Some i) ×
      Front free (Oer.tag_form t) a.0 os × Enters free plus os a.1 m × ((same v w ≡ true) × (are_no_bags others ≡ true → w ≡ v)) × Chain (Step free) (chosen_records others i w) m b

  first_place : (u : Tag) (us : List Tag) → tag_place u (u ∷ us) ≡ Some zero
  first_place u us = let e = itself u in rw e refl

  later_place : (u t : Tag) (us : List Tag) (i : ℕ) → list_all (λ w. not (tag_same u w)) us ≡ true → tag_place t us ≡ Some i → tag_place t (u ∷ us) ≡ Some (suc i)
  later_place u t us i h e = let a = apart_from u t us i h e in rw (a, e) refl

  table_out : (plus : Bool) (others : Alternatives) → EachAlternative (λ s. Shows free s) others →
      are_distinct tag_same (alternative_tags others) ≡ true → (i : ℕ) (v : Value) (a b : State) → Found free (Oer.alternative_form plus others i v) a b → Read plus others i v a b
  unfolding chosen_records Oer.alternative_form
  table_out true no_alternative h d i v a b f = absurd (of_refused free a.0 b.0 f.0)
  table_out false no_alternative h d i v a b f = absurd (of_refused free a.0 b.0 f.0)
  table_out false (other u s others) h d zero v a b f = let q = root_out s v h.0 u a b f in
      (u, q.1, q.2, q.0, first_place u (alternative_tags others), q.4, q.5, (q.3.0, λ e. q.3.1 ((and_parts _ _ e).0)), q.6)
  table_out true (other u s others) h d zero v a b f = let q = added_out s v h.0 u a b f in
      (u, q.1, q.2, q.0, first_place u (alternative_tags others), q.4, q.5, (q.3.0, λ e. q.3.1 ((and_parts _ _ e).0)), q.6)
  table_out false (other u s others) h d (suc i) v a b f = let p = and_parts _ _ d in let q = table_out false others h.1 p.1 i v a b f in
      (q.0, q.1, q.2, q.3, later_place u q.0 (alternative_tags others) i p.0 q.4, q.5, q.6, (q.7.0, λ e. q.7.1 ((and_parts _ _ e).1)), q.8)
  table_out true (other u s others) h d (suc i) v a b f = let p = and_parts _ _ d in let q = table_out true others h.1 p.1 i v a b f in
      (q.0, q.1, q.2, q.3, later_place u q.0 (alternative_tags others) i p.0 q.4, q.5, q.6, (q.7.0, λ e. q.7.1 ((and_parts _ _ e).1)), q.8)

  -- ---- CHOICE
  pub choice_finds : (roots : Alternatives) (e : Bool) (adds : Alternatives) → EachAlternative (λ s. Finds free s) roots → EachAlternative (λ s. Finds free s) adds → Finds free (choice roots e adds)
  unfolding presents Oer.form
  choice_finds roots e adds h k (chosen false i v) a b c = table_in false roots h i v c.1.0 c.1.2 a c.0 b c.1.1 c.1.3 c.1.4 c.2
  choice_finds roots true adds h k (chosen true i v) a b c = table_in true adds k i v c.1.0 c.1.2.2 a c.0 b c.1.1 c.1.3 c.1.4 c.2
  choice_finds roots false adds h k (chosen true i v) a b c = let e = c.1.2.0 in cc
  choice_finds roots e adds h k v a b c = (none free a b).0 c

  pub choice_shows : (roots : Alternatives) (e : Bool) (adds : Alternatives) → are_distinct tag_same (alternative_tags roots ++ alternative_tags adds)
      ≡ true → EachAlternative (λ s. Shows free s) roots → EachAlternative (λ s. Shows free s) adds → Shows free (choice roots e adds)
  unfolding presents Oer.form
  choice_shows roots e adds d h k (chosen false i v) a b f =
      let q = table_out false roots h (distinct_before tag_same (alternative_tags roots) (alternative_tags adds) d) i v a b f in
      (chosen false i q.3, (chosen_same false i v q.3 q.7.0, λ n. ap (λ x. chosen false i x) (q.7.1 ((and_parts _ _ n).0))), (q.2, (q.0, q.1, q.4, q.5, q.6), q.8))
  choice_shows roots true adds d h k (chosen true i v) a b f =
      let q = table_out true adds k (distinct_behind tag_same (alternative_tags roots) (alternative_tags adds) d) i v a b f in (
        chosen true i q.3,
        (chosen_same true i v q.3 q.7.0, λ n. ap (λ x. chosen true i x) (q.7.1 ((and_parts _ _ n).1))),
        (q.2, (q.0, q.1, (refl, behind_all q.0 (alternative_tags roots) (alternative_tags adds) i d q.4, q.4), q.5, q.6), q.8),
      )
  choice_shows roots false adds d h k (chosen true i v) a b f = absurd (of_refused free a.0 b.0 f.0)
  choice_shows roots e adds d h k v a b f = absurd (of_refused free a.0 b.0 f.0)
