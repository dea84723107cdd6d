-- The normal form of a value of a well-formed type is a value of it.
use Rattle.std.proofs.Common.{◌≡◌, ℕ, zero, suc, Bool, true, false, not, ◌||◌, List, refl, ap, sym, ◌∙◌}
use Rattle.std.proofs.lemmas.Bool.{and_parts, and_from, false≢true}
use Rattle.asn1_model.specs.Value.{Value, members, bag, fields, chosen, Values, no_more, member, Parts, end, absent, present, map_members}
use Rattle.asn1_model.specs.Schema.{Tag, Presence, required, optional, by_default, Schema, sequence_of, set_of}
use Rattle.asn1_model.specs.Schema.{sequence, set, group, choice, Components, no_component, component, Alternatives}
use Rattle.asn1_model.specs.Schema.{no_alternative, alternative}
use Rattle.asn1_model.specs.Normal.{normal, normal_parts, normal_alternative, is_default_by, is_empty_group}
use Rattle.asn1_model.specs.Value.{are_all}
use Rattle.asn1_model.specs.Numbers.{is_count_within}
use Rattle.asn1_model.specs.Normal.{is_required}
use Rattle.asn1_model.specs.Lawful.{is_lawful, are_lawful, are_lawful_alternatives, is_group, is_optional, are_groups_in_place}
use Rattle.asn1_model.specs.Lawful.{member_count, is_of, are_of, is_of_alternative}
use Rattle.std.specs.Prelude.{cond}

-- ---- elements
all_mapped : (f : Value → Value) (test : Value → Bool) → ((v : Value) → test v ≡ true → test (f v) ≡ true) → (vs : Values) → are_all test vs ≡ true → are_all test (map_members f vs) ≡ true
all_mapped f test h no_more e = refl
all_mapped f test h (member v vs) e = let p = and_parts _ _ e in and_from _ _ (h v p.0) (all_mapped f test h vs p.1)

as_many : (f : Value → Value) (vs : Values) → member_count (map_members f vs) ≡ member_count vs
as_many f no_more = refl
as_many f (member v vs) = ap suc (as_many f vs)

-- ---- what is left out may be absent
no_groups : (cs : Components) → are_groups_in_place false cs ≡ true → are_groups_in_place true cs ≡ true
no_groups no_component h = refl
no_groups (component t o s cs) h = let p = and_parts (not (is_group s)) (are_groups_in_place false cs) h in and_from _ _ (ap (λ b. b || is_optional o) p.0) (no_groups cs p.1)

empty_is_group : (s : Schema) (v : Value) → is_empty_group s v ≡ true → is_group s ≡ true
empty_is_group (group cs) v h = refl
empty_is_group s v h = h

group_optional : (g o : Bool) → (not g || o) ≡ true → g ≡ true → o ≡ true
group_optional true o h e = h
group_optional false o h e = absurd (false≢true e)

or_right : (a b : Bool) → a ≡ false → (a || b) ≡ true → b ≡ true
or_right true b e h = absurd (false≢true (sym e))
or_right false b e h = h

may_be_absent : (form : Value → Value) (o : Presence) (s : Schema) (v : Value) → (not (is_group s) || is_optional o) ≡ true →
    (is_default_by form o v || is_empty_group s v) ≡ true → not (is_required o) ≡ true
may_be_absent form required s v h e = absurd (false≢true (group_optional (is_group s) false h (empty_is_group s v e)))
may_be_absent form optional s v h e = refl
may_be_absent form (by_default d) s v h e = refl

kept_of : (a : Bool) (t : List Tag) (o : Presence) (s : Schema) (cs : Components) (v : Value) (ps : Parts) →
    (a ≡ true → not (is_required o) ≡ true) → is_of s v ≡ true → are_of cs ps ≡ true → are_of (component t o s cs) (cond a (absent ps) (present v ps)) ≡ true
unfolding are_of
kept_of true t o s cs v ps m h k = and_from _ _ (m refl) k
kept_of false t o s cs v ps m h k = and_from _ _ h k

-- ---- all kinds
mutual
  unfolding normal normal_parts normal_alternative is_of are_of is_of_alternative is_lawful are_lawful are_lawful_alternatives

  pub normal_is_of : (s : Schema) (v : Value) → is_lawful s ≡ true → is_of s v ≡ true → is_of s (normal s v) ≡ true
  normal_is_of (sequence_of z held s) (members vs) l h =
      let p = and_parts (is_count_within held (member_count vs)) (are_all (λ v. is_of s v) vs) h in
      and_from _ _ (ap (is_count_within held) (as_many (λ v. normal s v) vs) ∙ p.0) (all_mapped (λ v. normal s v) (λ v. is_of s v) (λ v k. normal_is_of s v ((and_parts _ _ l).1) k) vs p.1)
  normal_is_of (sequence_of z held s) v l h = h
  normal_is_of (set_of z held s) (bag vs) l h =
      let p = and_parts (is_count_within held (member_count vs)) (are_all (λ v. is_of s v) vs) h in
      and_from _ _ (ap (is_count_within held) (as_many (λ v. normal s v) vs) ∙ p.0) (all_mapped (λ v. normal s v) (λ v. is_of s v) (λ v k. normal_is_of s v ((and_parts _ _ l).1) k) vs p.1)
  normal_is_of (set_of z held s) v l h = h
  normal_is_of (sequence cs e adds) (fields ps qs) l h =
      let p = and_parts (are_of cs ps) (are_of adds qs) h in
      let t = and_parts _ _ ((and_parts _ _ ((and_parts _ _ l).0)).0) in
      and_from _ _ (normal_are_of cs ps (no_groups cs ((and_parts _ _ t.0).1)) ((and_parts _ _ ((and_parts _ _ l).0)).1) p.0) (normal_are_of adds qs t.1 ((and_parts _ _ l).1) p.1)
  normal_is_of (sequence cs e adds) v l h = h
  normal_is_of (set cs e adds) (fields ps qs) l h =
      let p = and_parts (are_of cs ps) (are_of adds qs) h in
      let t = and_parts _ _ ((and_parts _ _ ((and_parts _ _ ((and_parts _ _ l).0)).0)).0) in
      and_from _ _ (normal_are_of cs ps (no_groups cs ((and_parts _ _ t.0).1)) ((and_parts _ _ ((and_parts _ _ l).0)).1) p.0) (normal_are_of adds qs t.1 ((and_parts _ _ l).1) p.1)
  normal_is_of (set cs e adds) v l h = h
  normal_is_of (group cs) (fields ps end) l h = normal_are_of cs ps (no_groups cs ((and_parts _ _ ((and_parts _ _ l).0)).1)) ((and_parts _ _ l).1) h
  normal_is_of (group cs) (fields ps qs) l h = h
  normal_is_of (group cs) v l h = h
  normal_is_of (choice roots e adds) (chosen false i v) l h = normal_is_of_alternative roots i v ((and_parts _ _ ((and_parts _ _ l).0)).1) h
  normal_is_of (choice roots e adds) (chosen true i v) l h =
      let p = and_parts e (is_of_alternative adds i v) h in
      and_from _ _ p.0 (normal_is_of_alternative adds i v ((and_parts _ _ l).1) p.1)
  normal_is_of (choice roots e adds) v l h = h
  normal_is_of s v l h = h

  normal_are_of : (cs : Components) (ps : Parts) → are_groups_in_place true cs ≡ true → are_lawful cs ≡ true → are_of cs ps ≡ true → are_of cs (normal_parts cs ps) ≡ true
  normal_are_of no_component ps g l h = h
  normal_are_of (component t o s cs) (present v ps) g l h =
      let p = and_parts (is_of s v) (are_of cs ps) h in
      let q = and_parts (not (is_group s) || is_optional o) (are_groups_in_place true cs) g in
      let w = normal_is_of s v ((and_parts _ _ ((and_parts _ _ l).0)).1) p.0 in
      let r = normal_are_of cs ps q.1 ((and_parts _ _ l).1) p.1 in
      kept_of (is_default_by (λ d. normal s d) o (normal s v) || is_empty_group s (normal s v)) t o s cs (normal s v) (normal_parts cs ps) (may_be_absent (λ d. normal s d) o s (normal s v) q.0) w r
  normal_are_of (component t o s cs) (absent ps) g l h =
      let p = and_parts (not (is_required o)) (are_of cs ps) h in
      let q = and_parts (not (is_group s) || is_optional o) (are_groups_in_place true cs) g in
      and_from _ _ p.0 (normal_are_of cs ps q.1 ((and_parts _ _ l).1) p.1)
  normal_are_of (component t o s cs) end g l h = h

  normal_is_of_alternative : (others : Alternatives) (i : ℕ) (v : Value) → are_lawful_alternatives others ≡ true →
      is_of_alternative others i v ≡ true → is_of_alternative others i (normal_alternative others i v) ≡ true
  normal_is_of_alternative no_alternative i v l h = h
  normal_is_of_alternative (alternative t s others) zero v l h = normal_is_of s v ((and_parts _ _ ((and_parts _ _ l).0)).1) h
  normal_is_of_alternative (alternative t s others) (suc i) v l h = normal_is_of_alternative others i v ((and_parts _ _ l).1) h
