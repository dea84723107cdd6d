-- Normal forms of equal values, and their nested levels.
use Rattle.std.proofs.Common.{◌≡◌, ℕ, zero, suc, ◌≤◌, ◌==◌, max, Bool, true, false, ◌&&◌, ◌||◌, not, List, [], ◌∷◌, map, refl, ap, sym, ◌∙◌, subst, arith}
use Rattle.std.proofs.lemmas.Bool.{and_parts, and_from, eqb-true, eq-eqb}
use Rattle.asn1_model.specs.Value.{Value, members, bag, fields, chosen, Values, no_more, member, Parts, end, absent}
use Rattle.asn1_model.specs.Value.{present, map_members, values_of, are_absent, same, same_truth, same_members}
use Rattle.asn1_model.specs.Value.{same_bag, same_parts, depth, depth_of_members, depth_of_parts}
use Rattle.asn1_model.specs.Schema.{Presence, required, optional, by_default, Schema, sequence_of, set_of, sequence}
use Rattle.asn1_model.specs.Schema.{set, group, choice, Components, no_component, component, Alternatives}
use Rattle.asn1_model.specs.Schema.{no_alternative, alternative}
use Rattle.asn1_model.specs.Normal.{normal, normal_parts, normal_alternative, is_default_by, is_empty_group, is_at_default, is_group_left_out}
use Rattle.asn1_model.specs.Value.{are_all}
use Rattle.asn1_model.specs.Tidy.{is_normal, are_normal, is_normal_alternative}
use Rattle.asn1_laws_values.proofs.Listed.{listed, listed_again, arranged_maps}
use Rattle.asn1_laws_values.proofs.Counts.{both_true}
use Rattle.asn1_laws_values.proofs.Same.{same_turned, same_chained}
use Rattle.asn1_laws_values.proofs.Bags.{EachSame, bag_matched, matched_same}
use Rattle.std.specs.Prelude.{cond}

-- ---- tests that do not distinguish equal values
pub same_tests : (v w d : Value) → same v w ≡ true → same v d ≡ same w d
same_tests v w d e = both_true (same v d) (same w d) (λ f. same_chained w v d (same_turned v w e) f) (λ f. same_chained v w d e f)

pub default_tests : (form : Value → Value) (o : Presence) (v w : Value) → same v w ≡ true → is_default_by form o v ≡ is_default_by form o w
default_tests form required v w e = refl
default_tests form optional v w e = refl
default_tests form (by_default d) v w e = same_tests v w (form d) e

absent_tests : (ps qs : Parts) → same_parts ps qs ≡ true → are_absent ps ≡ are_absent qs
unfolding same_parts
absent_tests end end e = refl
absent_tests end (absent qs) e = cc
absent_tests end (present w qs) e = cc
absent_tests (absent ps) end e = cc
absent_tests (absent ps) (absent qs) e = absent_tests ps qs e
absent_tests (absent ps) (present w qs) e = cc
absent_tests (present v ps) end e = cc
absent_tests (present v ps) (absent qs) e = cc
absent_tests (present v ps) (present w qs) e = refl

pub group_tests : (s : Schema) (v w : Value) → same v w ≡ true → is_empty_group s v ≡ is_empty_group s w
unfolding same
group_tests (group cs) (fields ps qs) (fields rs ss) e = absent_tests ps rs ((and_parts _ _ e).0)
group_tests (group cs) (fields ps qs) w e = cc
group_tests (group cs) v (fields rs ss) e = cc
group_tests (group cs) v w e = refl
group_tests s v w e = refl

kept_same : (a b : Bool) (v w : Value) (ps qs : Parts) → a ≡ b → same v w ≡ true → same_parts ps qs ≡ true → same_parts (cond a (absent ps) (present v ps)) (cond b (absent qs) (present w qs)) ≡ true
unfolding same_parts
kept_same true true v w ps qs e f g = g
kept_same true false v w ps qs e f g = cc
kept_same false true v w ps qs e f g = cc
kept_same false false v w ps qs e f g = and_from _ _ f g

-- ---- elements
map_listed : (f : Value → Value) (vs : Values) → listed (map_members f vs) ≡ map f (listed vs)
map_listed f no_more = refl
map_listed f (member v vs) = ap (λ l. f v ∷ l) (map_listed f vs)

each_mapped : (f : Value → Value) → ((v w : Value) → same v w ≡ true → same (f v) (f w) ≡ true) → (vs ws : List Value) → EachSame vs ws → EachSame (map f vs) (map f ws)
each_mapped f h [] [] k = tt
each_mapped f h [] (w ∷ ws) k = absurd k
each_mapped f h (v ∷ vs) [] k = absurd k
each_mapped f h (v ∷ vs) (w ∷ ws) k = (h v w k.0, each_mapped f h vs ws k.1)

members_mapped : (f : Value → Value) → ((v w : Value) → same v w ≡ true → same (f v) (f w) ≡ true) → (vs ws : Values) →
    same_members vs ws ≡ true → same_members (map_members f vs) (map_members f ws) ≡ true
unfolding same_members
members_mapped f h no_more no_more e = refl
members_mapped f h no_more (member w ws) e = cc
members_mapped f h (member v vs) no_more e = cc
members_mapped f h (member v vs) (member w ws) e = let p = and_parts _ _ e in and_from _ _ (h v w p.0) (members_mapped f h vs ws p.1)

bag_mapped : (f : Value → Value) → ((v w : Value) → same v w ≡ true → same (f v) (f w) ≡ true) → (vs ws : Values) →
    same (bag vs) (bag ws) ≡ true → same (bag (map_members f vs)) (bag (map_members f ws)) ≡ true
unfolding same
bag_mapped f h vs ws e =
    let q = bag_matched vs ws e in
    let a = arranged_maps f q.0 (listed ws) q.1 q.2 in
    let b = each_mapped f h (listed vs) q.1 q.3 in
    let c = matched_same q.0 (map f (listed vs)) (map f (listed ws)) (map f q.1) a b in
    let g : (us : Values) → values_of (map f (listed us)) ≡ map_members f us = λ us. ap values_of (sym (map_listed f us)) ∙ listed_again (map_members f us) in
    subst (λ x. same_bag x (map_members f ws) ≡ true) (g vs) (subst (λ x. same_bag (values_of (map f (listed vs))) x ≡ true) (g ws) c)

-- ---- normal forms
mutual
  unfolding normal normal_parts normal_alternative same same_parts

  pub normal_same : (s : Schema) (v w : Value) → same v w ≡ true → same (normal s v) (normal s w) ≡ true
  normal_same (sequence_of z h s) (members vs) (members ws) e = members_mapped (λ v. normal s v) (λ v w f. normal_same s v w f) vs ws e
  normal_same (sequence_of z h s) (members vs) w e = cc
  normal_same (sequence_of z h s) v (members ws) e = cc
  normal_same (sequence_of z h s) v w e = e
  normal_same (set_of z h s) (bag vs) (bag ws) e = bag_mapped (λ v. normal s v) (λ v w f. normal_same s v w f) vs ws e
  normal_same (set_of z h s) (bag vs) w e = cc
  normal_same (set_of z h s) v (bag ws) e = cc
  normal_same (set_of z h s) v w e = e
  normal_same (sequence cs e adds) (fields ps qs) (fields rs ss) f = let p = and_parts _ _ f in and_from _ _ (normal_parts_same cs ps rs p.0) (normal_parts_same adds qs ss p.1)
  normal_same (sequence cs e adds) (fields ps qs) w f = cc
  normal_same (sequence cs e adds) v (fields rs ss) f = cc
  normal_same (sequence cs e adds) v w f = f
  normal_same (set cs e adds) (fields ps qs) (fields rs ss) f = let p = and_parts _ _ f in and_from _ _ (normal_parts_same cs ps rs p.0) (normal_parts_same adds qs ss p.1)
  normal_same (set cs e adds) (fields ps qs) w f = cc
  normal_same (set cs e adds) v (fields rs ss) f = cc
  normal_same (set cs e adds) v w f = f
  normal_same (group cs) (fields ps qs) (fields rs ss) f = let p = and_parts _ _ f in and_from _ _ (normal_parts_same cs ps rs p.0) p.1
  normal_same (group cs) (fields ps qs) w f = cc
  normal_same (group cs) v (fields rs ss) f = cc
  normal_same (group cs) v w f = f
  normal_same (choice roots e adds) (chosen false i v) (chosen false j w) f = let p =
      and_parts (same_truth false false && (i == j)) (same v w) f in
      and_from (same_truth false false && (i == j)) _ p.0 (normal_alternative_same roots i j v w ((and_parts (same_truth false false) (i == j) p.0).1) p.1)
  normal_same (choice roots e adds) (chosen true i v) (chosen true j w) f = let p =
      and_parts (same_truth true true && (i == j)) (same v w) f in
      and_from (same_truth true true && (i == j)) _ p.0 (normal_alternative_same adds i j v w ((and_parts (same_truth true true) (i == j) p.0).1) p.1)
  normal_same (choice roots e adds) (chosen a i v) w f = cc
  normal_same (choice roots e adds) v (chosen b j w) f = cc
  normal_same (choice roots e adds) v w f = f
  normal_same s v w e = e

  normal_parts_same : (cs : Components) (ps qs : Parts) → same_parts ps qs ≡ true → same_parts (normal_parts cs ps) (normal_parts cs qs) ≡ true
  normal_parts_same no_component ps qs e = e
  normal_parts_same (component t o s cs) (present v ps) (present w qs) e =
      let p = and_parts _ _ e in
      let n = normal_same s v w p.0 in
      let a = default_tests (λ d. normal s d) o (normal s v) (normal s w) n in
      let b = group_tests s (normal s v) (normal s w) n in
      kept_same (is_default_by (λ d. normal s d) o (normal s v) || is_empty_group s (normal s v))
      (is_default_by (λ d. normal s d) o (normal s w) || is_empty_group s (normal s w)) (normal s v) (normal s w) (normal_parts cs ps) (normal_parts cs qs) (cc) n (normal_parts_same cs ps qs p.1)
  normal_parts_same (component t o s cs) (absent ps) (absent qs) e = normal_parts_same cs ps qs e
  normal_parts_same (component t o s cs) end end e = e
  normal_parts_same (component t o s cs) ps qs e = cc

  normal_alternative_same : (others : Alternatives) (i j : ℕ) (v w : Value) → (i == j) ≡ true → same v w ≡ true → same (normal_alternative others i v) (normal_alternative others j w) ≡ true
  normal_alternative_same no_alternative i j v w e f = f
  normal_alternative_same (alternative t s others) zero zero v w e f = normal_same s v w f
  normal_alternative_same (alternative t s others) zero (suc j) v w e f = let g = eqb-true 0 (suc j) e in absurd (omega arith)
  normal_alternative_same (alternative t s others) (suc i) zero v w e f = let g = eqb-true (suc i) 0 e in absurd (omega arith)
  normal_alternative_same (alternative t s others) (suc i) (suc j) v w e f = let g = eqb-true (suc i) (suc j) e in normal_alternative_same others i j v w (eq-eqb i j (omega arith)) f

-- ---- nested levels
kept_depth : (a : Bool) (v : Value) (ps : Parts) → depth_of_parts (cond a (absent ps) (present v ps)) ≤ max (depth v) (depth_of_parts ps)
unfolding depth_of_parts
kept_depth true v ps = omega arith
kept_depth false v ps = omega arith

mapped_depth : (f : Value → Value) → ((v : Value) → depth (f v) ≤ depth v) → (vs : Values) → depth_of_members (map_members f vs) ≤ depth_of_members vs
unfolding depth_of_members
mapped_depth f h no_more = omega arith
mapped_depth f h (member v vs) = let a = h v in let b = mapped_depth f h vs in omega arith

mutual
  unfolding normal normal_parts normal_alternative depth depth_of_parts

  pub normal_depth : (s : Schema) (v : Value) → depth (normal s v) ≤ depth v
  normal_depth (sequence_of z h s) (members vs) = let a = mapped_depth (λ v. normal s v) (λ v. normal_depth s v) vs in omega arith
  normal_depth (sequence_of z h s) v = omega arith
  normal_depth (set_of z h s) (bag vs) = let a = mapped_depth (λ v. normal s v) (λ v. normal_depth s v) vs in omega arith
  normal_depth (set_of z h s) v = omega arith
  normal_depth (sequence cs e adds) (fields ps qs) = let a = normal_parts_depth cs ps in let b = normal_parts_depth adds qs in omega arith
  normal_depth (sequence cs e adds) v = omega arith
  normal_depth (set cs e adds) (fields ps qs) = let a = normal_parts_depth cs ps in let b = normal_parts_depth adds qs in omega arith
  normal_depth (set cs e adds) v = omega arith
  normal_depth (group cs) (fields ps qs) = let a = normal_parts_depth cs ps in omega arith
  normal_depth (group cs) v = omega arith
  normal_depth (choice roots e adds) (chosen false i v) = let a = normal_alternative_depth roots i v in omega arith
  normal_depth (choice roots e adds) (chosen true i v) = let a = normal_alternative_depth adds i v in omega arith
  normal_depth (choice roots e adds) v = omega arith
  normal_depth s v = omega arith

  normal_parts_depth : (cs : Components) (ps : Parts) → depth_of_parts (normal_parts cs ps) ≤ depth_of_parts ps
  normal_parts_depth no_component ps = omega arith
  normal_parts_depth (component t o s cs) (present v ps) =
      let a = normal_depth s v in
      let b = normal_parts_depth cs ps in
      let c = kept_depth (is_default_by (λ d. normal s d) o (normal s v) || is_empty_group s (normal s v)) (normal s v) (normal_parts cs ps) in
      omega arith
  normal_parts_depth (component t o s cs) (absent ps) = normal_parts_depth cs ps
  normal_parts_depth (component t o s cs) end = omega arith

  normal_alternative_depth : (others : Alternatives) (i : ℕ) (v : Value) → depth (normal_alternative others i v) ≤ depth v
  normal_alternative_depth no_alternative i v = omega arith
  normal_alternative_depth (alternative t s others) zero v = normal_depth s v
  normal_alternative_depth (alternative t s others) (suc i) v = normal_alternative_depth others i v

-- ---- a normal form stays normal
all_stay : (f : Value → Value) (test : Value → Bool) → ((v : Value) → test v ≡ true → f v ≡ v) → (vs : Values) → are_all test vs ≡ true → map_members f vs ≡ vs
all_stay f test h no_more e = refl
all_stay f test h (member v vs) e = let p = and_parts _ _ e in let a = h v p.0 in let b = all_stay f test h vs p.1 in cc

not_true : (b : Bool) → not b ≡ true → b ≡ false
not_true true e = sym e
not_true false e = refl

kept_stays : (a b : Bool) (v w : Value) (ps qs : Parts) → not a ≡ true → not b ≡ true → v ≡ w → ps ≡ qs → (cond (a || b) (absent ps) (present v ps)) ≡ present w qs
kept_stays true b v w ps qs e f g h = let k : false ≡ true = e in cc
kept_stays false true v w ps qs e f g h = let k : false ≡ true = f in cc
kept_stays false false v w ps qs e f g h = cc

mutual
  unfolding normal normal_parts normal_alternative is_normal are_normal is_normal_alternative

  pub normal_stays : (s : Schema) (v : Value) → is_normal s v ≡ true → normal s v ≡ v
  normal_stays (sequence_of z h s) (members vs) e = ap members (all_stay (λ v. normal s v) (λ v. is_normal s v) (λ v f. normal_stays s v f) vs e)
  normal_stays (sequence_of z h s) v e = refl
  normal_stays (set_of z h s) (bag vs) e = ap bag (all_stay (λ v. normal s v) (λ v. is_normal s v) (λ v f. normal_stays s v f) vs e)
  normal_stays (set_of z h s) v e = refl
  normal_stays (sequence cs e adds) (fields ps qs) f = let p = and_parts _ _ f in let a = parts_stay cs ps p.0 in let b = parts_stay adds qs p.1 in cc
  normal_stays (sequence cs e adds) v f = refl
  normal_stays (set cs e adds) (fields ps qs) f = let p = and_parts _ _ f in let a = parts_stay cs ps p.0 in let b = parts_stay adds qs p.1 in cc
  normal_stays (set cs e adds) v f = refl
  normal_stays (group cs) (fields ps qs) f = ap (λ x. fields x qs) (parts_stay cs ps f)
  normal_stays (group cs) v f = refl
  normal_stays (choice roots e adds) (chosen false i v) f = ap (λ x. chosen false i x) (alternative_stays roots i v f)
  normal_stays (choice roots e adds) (chosen true i v) f = ap (λ x. chosen true i x) (alternative_stays adds i v f)
  normal_stays (choice roots e adds) v f = refl
  normal_stays s v e = refl

  parts_stay : (cs : Components) (ps : Parts) → are_normal cs ps ≡ true → normal_parts cs ps ≡ ps
  parts_stay no_component ps e = refl
  parts_stay (component t o s cs) (present v ps) e =
      let p = and_parts _ _ e in
      let q = and_parts _ _ p.0 in
      let r = and_parts _ _ q.0 in
      kept_stays (is_at_default o s v) (is_group_left_out s v) (normal s v) v (normal_parts cs ps) ps r.0 r.1 (normal_stays s v q.1) (parts_stay cs ps p.1)
  parts_stay (component t o s cs) (absent ps) e = ap absent (parts_stay cs ps e)
  parts_stay (component t o s cs) end e = refl

  alternative_stays : (others : Alternatives) (i : ℕ) (v : Value) → is_normal_alternative others i v ≡ true → normal_alternative others i v ≡ v
  alternative_stays no_alternative i v e = refl
  alternative_stays (alternative t s others) zero v e = normal_stays s v e
  alternative_stays (alternative t s others) (suc i) v e = alternative_stays others i v e
