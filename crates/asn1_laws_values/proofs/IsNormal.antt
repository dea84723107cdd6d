-- Of equal values both are normal or neither is.
use Rattle.std.proofs.Common.{◌≡◌, ℕ, zero, suc, ◌==◌, Bool, true, false, ◌&&◌, not, List, [], ◌∷◌, Some, refl, ap, sym, ◌∙◌, subst, arith}
use Rattle.std.proofs.lemmas.Bool.{and_parts, and_from, eqb-true}
use Rattle.asn1_model.specs.Value.{Value, members, bag, fields, chosen, Values, no_more, member, Parts, end, absent, present, same, same_truth, same_members, same_bag, same_parts}
use Rattle.asn1_model.specs.Schema.{Schema, sequence_of, set_of, sequence, set, group, choice, Components, no_component, component, Alternatives, no_alternative, alternative}
use Rattle.asn1_model.specs.Normal.{normal, is_at_default, is_group_left_out}
use Rattle.asn1_model.specs.Value.{are_all}
use Rattle.asn1_model.specs.Tidy.{is_normal, are_normal, is_normal_alternative}
use Rattle.asn1_model.specs.Form.{pick, arranged}
use Rattle.asn1_model.proofs.Forms.{map_parts}
use Rattle.asn1_laws_values.proofs.Arranged.{arranged_parts}
use Rattle.asn1_laws_values.proofs.Listed.{listed}
use Rattle.asn1_laws_values.proofs.Bags.{EachSame, bag_matched}
use Rattle.asn1_laws_values.proofs.Normal.{normal_same, default_tests, group_tests}

-- ---- elements that all pass a test
abbrev Passes : (Value → Bool) → List Value → Type 0
Passes test [] = Unit {0}
Passes test (v ∷ vs) = (test v ≡ true) × Passes test vs

all_pass : (test : Value → Bool) (vs : Values) → are_all test vs ≡ true → Passes test (listed vs)
all_pass test no_more e = tt
all_pass test (member v vs) e = let p = and_parts _ _ e in (p.0, all_pass test vs p.1)

pass_all : (test : Value → Bool) (vs : Values) → Passes test (listed vs) → are_all test vs ≡ true
pass_all test no_more h = refl
pass_all test (member v vs) h = and_from _ _ h.0 (pass_all test vs h.1)

some_same : {X : Type 0} {x y : X} → Some x ≡ Some y → x ≡ y
some_same e = cc

picked_passes : (test : Value → Bool) (i : ℕ) (vs rest : List Value) (v : Value) → pick i vs ≡ Some (v, rest) → test v ≡ true → Passes test rest → Passes test vs
picked_passes test i [] rest v e h k = cc
picked_passes test zero (x ∷ vs) rest v e h k =
    let p : Value × List Value = (x, vs) in
    let q : Value × List Value = (v, rest) in
    let g : p ≡ q = some_same e in
    subst (λ (r : Value × List Value). (test r.0 ≡ true) × Passes test r.1) (sym g) (h, k)
picked_passes test (suc i) (x ∷ vs) rest v e h k =
    let q = map_parts (pick i vs) (λ (p : Value × List Value). (p.0, x ∷ p.1)) (v, rest) e in
    let a : q.0.0 ≡ v = ap (λ (p : Value × List Value). p.0) q.2 in
    let b : x ∷ q.0.1 ≡ rest = ap (λ (p : Value × List Value). p.1) q.2 in
    let m : Passes test (x ∷ q.0.1) = subst (λ l. Passes test l) (sym b) k in
    (m.0, picked_passes test i vs q.0.1 q.0.0 q.1 (subst (λ u. test u ≡ true) (sym a) h) m.1)

arranged_passes : (test : Value → Bool) (is : List ℕ) (vs us : List Value) → arranged is vs ≡ Some us → Passes test us → Passes test vs
arranged_passes test [] [] us e h = tt
arranged_passes test [] (v ∷ vs) us e h = cc
arranged_passes test (i ∷ is) vs us e h =
    let q = arranged_parts i is vs us e in
    let m : Passes test (q.0 ∷ q.2) = subst (λ l. Passes test l) (sym q.5) h in
    picked_passes test i vs q.1 q.0 q.3 m.0 (arranged_passes test is q.1 q.2 q.4 m.1)

same_passes : (test : Value → Bool) → ((v w : Value) → same v w ≡ true → test v ≡ true → test w ≡ true) → (vs ws : List Value) → EachSame vs ws → Passes test vs → Passes test ws
same_passes test f [] [] h k = tt
same_passes test f [] (w ∷ ws) h k = absurd h
same_passes test f (v ∷ vs) [] h k = absurd h
same_passes test f (v ∷ vs) (w ∷ ws) h k = (f v w h.0 k.0, same_passes test f vs ws h.1 k.1)

bags_pass : (test : Value → Bool) → ((v w : Value) → same v w ≡ true → test v ≡ true → test w ≡ true) → (vs ws : Values) → same_bag vs ws ≡ true → are_all test vs ≡ true → are_all test ws ≡ true
bags_pass test f vs ws e h = let q = bag_matched vs ws e in pass_all test ws (arranged_passes test q.0 (listed ws) q.1 q.2 (same_passes test f (listed vs) q.1 q.3 (all_pass test vs h)))

members_pass : (test : Value → Bool) → ((v w : Value) → same v w ≡ true → test v ≡ true → test w ≡ true) → (vs ws : Values) →
    same_members vs ws ≡ true → are_all test vs ≡ true → are_all test ws ≡ true
unfolding same_members
members_pass test f no_more no_more e h = refl
members_pass test f no_more (member w ws) e h = cc
members_pass test f (member v vs) no_more e h = cc
members_pass test f (member v vs) (member w ws) e h = let p = and_parts _ _ e in let q = and_parts _ _ h in and_from _ _ (f v w p.0 q.0) (members_pass test f vs ws p.1 q.1)

not_as : (a b : Bool) → a ≡ b → not a ≡ true → not b ≡ true
not_as a b e h = ap not (sym e) ∙ h

mutual
  unfolding is_normal are_normal is_normal_alternative same same_parts

  pub stays_normal : (s : Schema) (v w : Value) → same v w ≡ true → is_normal s v ≡ true → is_normal s w ≡ true
  stays_normal (sequence_of z c s) (members vs) (members ws) e h = members_pass (λ v. is_normal s v) (λ v w f g. stays_normal s v w f g) vs ws e h
  stays_normal (sequence_of z c s) v (members ws) e h = cc
  stays_normal (sequence_of z c s) v w e h = refl
  stays_normal (set_of z c s) (bag vs) (bag ws) e h = bags_pass (λ v. is_normal s v) (λ v w f g. stays_normal s v w f g) vs ws e h
  stays_normal (set_of z c s) v (bag ws) e h = cc
  stays_normal (set_of z c s) v w e h = refl
  stays_normal (sequence cs x adds) (fields ps qs) (fields rs ss) e h = let p = and_parts _ _ e in let q = and_parts _ _ h in and_from _ _ (parts_stay cs ps rs p.0 q.0) (parts_stay adds qs ss p.1 q.1)
  stays_normal (sequence cs x adds) v (fields rs ss) e h = cc
  stays_normal (sequence cs x adds) v w e h = refl
  stays_normal (set cs x adds) (fields ps qs) (fields rs ss) e h = let p = and_parts _ _ e in let q = and_parts _ _ h in and_from _ _ (parts_stay cs ps rs p.0 q.0) (parts_stay adds qs ss p.1 q.1)
  stays_normal (set cs x adds) v (fields rs ss) e h = cc
  stays_normal (set cs x adds) v w e h = refl
  stays_normal (group cs) (fields ps qs) (fields rs ss) e h = parts_stay cs ps rs ((and_parts (same_parts ps rs) (same_parts qs ss) e).0) h
  stays_normal (group cs) v (fields rs ss) e h = cc
  stays_normal (group cs) v w e h = refl
  stays_normal (choice roots x adds) (chosen false i v) (chosen false j w) e h = let p =
      and_parts (same_truth false false && (i == j)) (same v w) e in alternative_stays roots i j v w (eqb-true i j ((and_parts (same_truth false false) (i == j) p.0).1)) p.1 h
  stays_normal (choice roots x adds) (chosen true i v) (chosen true j w) e h = let p =
      and_parts (same_truth true true && (i == j)) (same v w) e in alternative_stays adds i j v w (eqb-true i j ((and_parts (same_truth true true) (i == j) p.0).1)) p.1 h
  stays_normal (choice roots x adds) v (chosen b j w) e h = cc
  stays_normal (choice roots x adds) v w e h = refl
  stays_normal s v w e h = refl

  parts_stay : (cs : Components) (ps qs : Parts) → same_parts ps qs ≡ true → are_normal cs ps ≡ true → are_normal cs qs ≡ true
  parts_stay no_component ps qs e h = refl
  parts_stay (component t o s cs) (present v ps) (present w qs) e h =
      let p = and_parts _ _ e in
      let k = and_parts _ _ h in
      let l = and_parts _ _ k.0 in
      let m = and_parts _ _ l.0 in
      let n = normal_same s v w p.0 in
      and_from _ _ (and_from _ _ (and_from _ _
      (not_as (is_at_default o s v) (is_at_default o s w) (default_tests (λ d. normal s d) o (normal s v) (normal s w) n) m.0)
      (not_as (is_group_left_out s v) (is_group_left_out s w) (group_tests s (normal s v) (normal s w) n) m.1)) (stays_normal s v w p.0 l.1)) (parts_stay cs ps qs p.1 k.1)
  parts_stay (component t o s cs) (absent ps) (absent qs) e h = parts_stay cs ps qs e h
  parts_stay (component t o s cs) end end e h = refl
  parts_stay (component t o s cs) ps qs e h = cc

  alternative_stays : (others : Alternatives) (i j : ℕ) (v w : Value) → i ≡ j → same v w ≡ true → is_normal_alternative others i v ≡ true → is_normal_alternative others j w ≡ true
  alternative_stays no_alternative i j v w e f h = refl
  alternative_stays (alternative t s others) zero zero v w e f h = stays_normal s v w f h
  alternative_stays (alternative t s others) zero (suc j) v w e f h = absurd (omega arith)
  alternative_stays (alternative t s others) (suc i) zero v w e f h = absurd (omega arith)
  alternative_stays (alternative t s others) (suc i) (suc j) v w e f h = alternative_stays others i j v w (omega arith) f h
