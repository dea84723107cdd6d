-- Choices, as a reader finds them: an alternative by its index.
use Rattle.std.proofs.Common.{◌≡◌, ℕ, zero, suc, ◌<◌, ◌-◌, Bool, true, false, List, [], ◌∷◌, length, refl, ap, sym, ◌∙◌, subst, arith}
use Rattle.std.proofs.lemmas.Bool.{lt-ltb, and_parts}
use Rattle.asn1_model.specs.Value.{Value, chosen, same}
use Rattle.asn1_model.specs.Schema.{choice, Alternatives, no_alternative, alternative as other}
use Rattle.asn1_model.specs.Lawful.{alternative_tags}
use Rattle.asn1_model.specs.Numbers.{octet_bits}
use Rattle.asn1_model.specs.Normal.{alternative_count}
use Rattle.asn1_model.specs.Form.{exactly, both}
use Rattle.asn1_model.specs.Per
use Rattle.asn1_laws_values.proofs.Listed.{EachAlternative}
use Rattle.asn1_schema_laws.specs.Records.{ends}
use Rattle.asn1_schema_laws.specs.Presents.{presents, chosen_records}
use Rattle.asn1_schema_laws.specs.Chains.{Chain}
use Rattle.asn1_schema_laws.proofs.Chains.{chain_split, chain_append}
use Rattle.per_codec_laws.specs.Takes.{Position, State, Scope, open_type, alternative, Front, Found, Closes, Opens, Ends}
use Rattle.asn1_schema_reading_laws.specs.Bags.{are_no_bags}
use Rattle.asn1_schema_reading_laws.proofs.Alike.{chosen_same}
use Rattle.per_codec_laws.proofs.Next.{state_same}
use Rattle.per_codec_laws.proofs.Fronts.{Finds, Shows, Step, of_refused, split, join, none, from_state}
use Rattle.per_codec_laws.proofs.Opened.{open_in, open_out}

tag_count : (others : Alternatives) → length (alternative_tags others) ≡ alternative_count others
tag_count no_alternative = refl
tag_count (other t s others) = let e = tag_count others in omega arith

abbrev EachFinds : Bool → (Per.Freedom → Bool) → Alternatives → Type 0
EachFinds al free others = EachAlternative (λ s. Finds al free s) others

abbrev EachShows : Bool → (Per.Freedom → Bool) → Alternatives → Type 0
EachShows al free others = EachAlternative (λ s. Shows al free s) others

-- another value that is equal up to the order in SET OF, so itself if no alternative has a SET OF
abbrev LikeChosen : Alternatives → Value → Value → Type 0
LikeChosen others v w = (same v w ≡ true) × (are_no_bags others ≡ true → w ≡ v)

module _ (free : Per.Freedom → Bool) (al : Bool) where
  -- ---- the value of an alternative, and its end
  root_in : (others : Alternatives) → EachFinds al free others → (i : ℕ) (v : Value) (a : Position) (k : List Scope) (b : State) →
      Chain (Step free al) (chosen_records others i v) (a, alternative ∷ k) b → Front free (Per.alternative_form al others i v) a b.0 × (b.1 ≡ k)
  unfolding chosen_records Per.alternative_form
  root_in no_alternative h i v a k b c = absurd c.1
  root_in (other t s others) h (suc i) v a k b c = root_in others h.1 i v a k b c
  root_in (other t s others) h zero v a k b c =
      let here : State = (a, alternative ∷ k) in
      let q = chain_split (Step free al) (presents s v) (ends ∷ []) here b c in
      let g = h.0 v here q.0 q.1 in
      let l : State = q.2.0 in
      let e : l ≡ (q.0.0, k) = subst (λ x. Ends al free q.0.0 x l) g.1 q.2.1 in
      let w : b ≡ (q.0.0, k) = q.2.2 ∙ e in
      (subst (λ p. Front free (Per.form al s v) a p) (sym (ap (λ (s : State). s.0) w)) g.0, ap (λ (s : State). s.1) w)

  -- an alternative of a value that is like this one
  abbrev Out : Alternatives → ℕ → Value → State → State → Type 0
  Out others i v m b = (i < length (alternative_tags others)) × (w : Value) × LikeChosen others v w × Chain (Step free al) (chosen_records others i w) m b

  root_out : (others : Alternatives) → EachShows al free others → (i : ℕ) (v : Value) (a : Position) (k : List Scope) (b : State) →
      Front free (Per.alternative_form al others i v) a b.0 → b.1 ≡ k → Out others i v (a, alternative ∷ k) b
  unfolding chosen_records Per.alternative_form
  root_out no_alternative h i v a k b f e = absurd (of_refused free a b.0 f)
  root_out (other t s others) h (suc i) v a k b f e = let r = root_out others h.1 i v a k b f e in (omega (arith, r.0), r.1, (r.2.0, λ n. r.2.1 ((and_parts _ _ n).1)), r.3)
  root_out (other t s others) h zero v a k b f e =
      let here : State = (a, alternative ∷ k) in
      let there : State = (b.0, alternative ∷ k) in
      let w = h.0 v here there (f, refl) in
      (omega arith, w.0, (w.1.0, λ n. w.1.1 ((and_parts _ _ n).0)), chain_append (Step free al) (presents s w.0) (ends ∷ []) here there b w.2 (b, state_same b (b.0, k) refl e, refl))

  added_in : (others : Alternatives) → EachFinds al free others → (i : ℕ) (v : Value) (os : List ℕ) (rest : Position) (k : List Scope) (b : State) →
      Chain (Step free al) (chosen_records others i v) ((0, octet_bits os), open_type rest ∷ k) b → (left : Position) ×
      Front free (Per.alternative_form al others i v) (0, octet_bits os) left × Closes free left rest k b
  unfolding chosen_records Per.alternative_form
  added_in no_alternative h i v os rest k b c = absurd c.1
  added_in (other t s others) h (suc i) v os rest k b c = added_in others h.1 i v os rest k b c
  added_in (other t s others) h zero v os rest k b c =
      let here : State = ((0, octet_bits os), open_type rest ∷ k) in
      let q = chain_split (Step free al) (presents s v) (ends ∷ []) here b c in
      let g = h.0 v here q.0 q.1 in
      let l : State = q.2.0 in
      let e : Closes free q.0.0 rest k l = subst (λ x. Ends al free q.0.0 x l) g.1 q.2.1 in
      (q.0.0, g.0, subst (λ x. Closes free q.0.0 rest k x) (sym q.2.2) e)

  added_out : (others : Alternatives) → EachShows al free others →
      (i : ℕ) (v : Value) (os : List ℕ) (rest left : Position) (k : List Scope) (b : State) →
      Front free (Per.alternative_form al others i v) (0, octet_bits os) left → Closes free left rest k b → Out others i v ((0, octet_bits os), open_type rest ∷ k) b
  unfolding chosen_records Per.alternative_form
  added_out no_alternative h i v os rest left k b f c = absurd (of_refused free (0, octet_bits os) left f)
  added_out (other t s others) h (suc i) v os rest left k b f c = let r = added_out others h.1 i v os rest left k b f c in (omega (arith, r.0), r.1, (r.2.0, λ n. r.2.1 ((and_parts _ _ n).1)), r.3)
  added_out (other t s others) h zero v os rest left k b f c =
      let here : State = ((0, octet_bits os), open_type rest ∷ k) in
      let there : State = (left, open_type rest ∷ k) in
      let w = h.0 v here there (f, refl) in
      (omega arith, w.0, (w.1.0, λ n. w.1.1 ((and_parts _ _ n).0)), chain_append (Step free al) (presents s w.0) (ends ∷ []) here there b w.2 (b, c, refl))

  -- ---- CHOICE
  apart_in : (x y z : Per.BitForm) (a mid b : Position) → Front free (both x y) a mid → Front free z mid b → Front free (both x (both y z)) a b
  apart_in x y z a mid b f g = let q = split free x y a mid f in join free x (both y z) a q.0 b q.1 (join free y z q.0 mid b q.2 g)

  apart_out : (x y z : Per.BitForm) (a b : Position) → Front free (both x (both y z)) a b → (mid : Position) × Front free (both x y) a mid × Front free z mid b
  apart_out x y z a b f =
      let q = split free x (both y z) a b f in
      let r = split free y z q.0 b q.2 in
      (r.0, join free x y a q.0 r.0 q.1 r.1, r.2)

  pub choice_finds : (roots : Alternatives) (e : Bool) (adds : Alternatives) → EachFinds al free roots → EachFinds al free adds → Finds al free (choice roots e adds)
  unfolding presents Per.form
  choice_finds roots e adds h k (chosen false i v) a b c =
      let n = tag_count roots in
      let m : State = c.0 in
      let f : Front free (both (Per.extension_bit_of e false) (Per.constrained al (alternative_count roots - 1) i)) a.0 m.0 =
      subst (λ n. Front free (both (Per.extension_bit_of e false) (Per.constrained al (n - 1) i)) a.0 m.0) n c.1.1 in
      let r = root_in roots h i v m.0 a.1 b (from_state free al (chosen_records roots i v) m b m.0 (alternative ∷ a.1) (state_same m (m.0, alternative ∷ a.1) refl c.1.2) c.2) in
      (apart_in (Per.extension_bit_of e false) (Per.constrained al (alternative_count roots - 1) i) (Per.alternative_form al roots i v) a.0 m.0 b.0 f r.0, r.1)
  choice_finds roots true adds h k (chosen true i v) a b c =
      let opens : Opens al free c.1.2 a.1 c.0 = c.1.4 in
      let r = added_in adds k i v opens.0 opens.1 a.1 b (from_state free al (chosen_records adds i v) c.0 b (0, octet_bits opens.0) (open_type opens.1 ∷ a.1) opens.3 c.2) in
      let w = open_in free al (Per.alternative_form al adds i v) c.1.2 opens.1 r.0 opens.0 a.1 b opens.2 r.1 r.2 in
      let f = apart_in (exactly (true ∷ [])) (Per.normally_small al i) (Per.open_type al (Per.alternative_form al adds i v)) a.0 c.1.2 opens.1 c.1.3 w in
      let e : b ≡ (opens.1, a.1) = r.2.6 in
      subst (λ x. Found free (both (exactly (true ∷ [])) (both (Per.normally_small al i) (Per.open_type al (Per.alternative_form al adds i v)))) a x) (sym e) (f, refl)
  choice_finds roots false adds h k (chosen true i v) a b c = let e = c.1.0 in cc
  choice_finds roots e adds h k v a b c = (none free al a b).0 c

  pub choice_shows : (roots : Alternatives) (e : Bool) (adds : Alternatives) → EachShows al free roots → EachShows al free adds → Shows al free (choice roots e adds)
  unfolding presents Per.form
  choice_shows roots e adds h k (chosen false i v) a b f =
      let n = tag_count roots in
      let q = apart_out (Per.extension_bit_of e false) (Per.constrained al (alternative_count roots - 1) i) (Per.alternative_form al roots i v) a.0 b.0 f.0 in
      let r = root_out roots h i v q.0 a.1 b q.2 f.1 in (
        chosen false i r.1,
        (chosen_same false i v r.1 r.2.0, λ n. ap (λ x. chosen false i x) (r.2.1 ((and_parts _ _ n).0))),
        ((q.0, alternative ∷ a.1), (lt-ltb _ _ r.0, subst (λ n. Front free (both (Per.extension_bit_of e false) (Per.constrained al (n - 1) i)) a.0 q.0) (sym n) q.1, refl), r.3),
      )
  choice_shows roots true adds h k (chosen true i v) a b f =
      let q = apart_out (exactly (true ∷ [])) (Per.normally_small al i) (Per.open_type al (Per.alternative_form al adds i v)) a.0 b.0 f.0 in
      let z = open_out free al (Per.alternative_form al adds i v) q.0 b.0 q.2 in
      let c : Closes free z.1 b.0 a.1 b = subst (λ x. Closes free z.1 b.0 a.1 x) (sym (state_same b (b.0, a.1) refl f.1)) (z.4 a.1) in
      let r = added_out adds k i v z.0 b.0 z.1 a.1 b z.3 c in (
        chosen true i r.1,
        (chosen_same true i v r.1 r.2.0, λ n. ap (λ x. chosen true i x) (r.2.1 ((and_parts _ _ n).1))),
        (((0, octet_bits z.0), open_type b.0 ∷ a.1), (refl, lt-ltb _ _ r.0, q.0, q.1, (z.0, b.0, z.2, refl)), r.3),
      )
  choice_shows roots false adds h k (chosen true i v) a b f = absurd (of_refused free a.0 b.0 f.0)
  choice_shows roots e adds h k v a b f = absurd (of_refused free a.0 b.0 f.0)
