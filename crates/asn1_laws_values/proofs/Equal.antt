-- Values of a type are equal exactly if their normal forms are the same.
use Rattle.std.proofs.Common.{◌≡◌, ℕ, zero, suc, ◌==◌, Bool, true, false, cond, ◌&&◌, ◌||◌, Option, Some, None, option_map, refl, ap, sym, ◌∙◌}
use Rattle.std.proofs.lemmas.Bool.{eqb-true}
use Rattle.asn1_model.specs.Value.{Value, members, bag, fields, chosen, Values, no_more, member, Parts, end, absent}
use Rattle.asn1_model.specs.Value.{present, map_members, taken_out, are_absent, same, same_members, same_bag}
use Rattle.asn1_model.specs.Value.{same_parts}
use Rattle.asn1_model.specs.Schema.{Presence, required, optional, by_default, Schema, sequence_of, set_of, sequence}
use Rattle.asn1_model.specs.Schema.{set, group, choice, Components, no_component, component, Alternatives}
use Rattle.asn1_model.specs.Schema.{no_alternative, alternative}
use Rattle.asn1_model.specs.Normal.{normal, normal_parts, normal_alternative, is_default_by, is_empty_group}
use Rattle.asn1_laws_values.proofs.Normal.{default_tests, group_tests}
use Rattle.asn1_laws_values.specs.Equal.{equal_members, equal_bags, is_the_default, are_equal, equal_parts, equal_alternatives, has_nothing, are_nothing}
use Rattle.std.specs.Option.{option_map_or}

-- ---- SEQUENCE OF and SET OF
module _ (f : Value → Value) (equal : Value → Value → Bool) (h : (v w : Value) → equal v w ≡ same (f v) (f w)) where
  members_equal : (vs ws : Values) → equal_members equal vs ws ≡ same_members (map_members f vs) (map_members f ws)
  unfolding same_members
  members_equal no_more no_more = refl
  members_equal no_more (member w ws) = refl
  members_equal (member v vs) no_more = refl
  members_equal (member v vs) (member w ws) = let a = h v w in let b = members_equal vs ws in cc

  taken_by : (b : Bool) (w : Value) (ws : Values) (o : Option Values) →
      option_map (map_members f) (cond b (Some ws) (option_map (λ vs. member w vs) o)) ≡ cond b (Some (map_members f ws)) (option_map (λ vs. member (f w) vs) (option_map (map_members f) o))
  taken_by true w ws o = refl
  taken_by false w ws None = refl
  taken_by false w ws (Some vs) = refl

  taken_mapped : (v : Value) (ws : Values) → option_map (map_members f) (taken_out (λ w. equal v w) ws) ≡ taken_out (λ w. same (f v) w) (map_members f ws)
  taken_mapped v no_more = refl
  taken_mapped v (member w ws) =
      taken_by (equal v w) w ws (taken_out (λ w. equal v w) ws)
      ∙ ap (λ b. cond b (Some (map_members f ws)) (option_map (λ vs. member (f w) vs) (option_map (map_members f) (taken_out (λ w. equal v w) ws)))) (h v w)
      ∙ ap (λ o. cond (same (f v) (f w)) (Some (map_members f ws)) (option_map (λ vs. member (f w) vs) o)) (taken_mapped v ws)

  rest_mapped : (test also : Values → Bool) → ((ws : Values) → test ws ≡ also (map_members f ws)) → (o : Option Values) →
      option_map_or test o false ≡ option_map_or also (option_map (map_members f) o) false
  rest_mapped test also k None = refl
  rest_mapped test also k (Some ws) = k ws

  bags_equal : (vs ws : Values) → equal_bags equal vs ws ≡ same_bag (map_members f vs) (map_members f ws)
  unfolding same_bag
  bags_equal no_more no_more = refl
  bags_equal no_more (member w ws) = refl
  bags_equal (member v vs) ws =
      rest_mapped (λ rest. equal_bags equal vs rest) (λ rest. same_bag (map_members f vs) rest) (λ rest. bags_equal vs rest) (taken_out (λ w. equal v w) ws)
      ∙ ap (λ o. (option_map_or (λ rest. same_bag (map_members f vs) rest) o false)) (taken_mapped v ws)

  default_is : (o : Presence) (s : Schema) (v : Value) → is_the_default equal o v ≡ is_default_by f o (f v)
  default_is required s v = refl
  default_is optional s v = refl
  default_is (by_default d) s v = h v d

-- ---- parts
kept_absent : (b : Bool) (v : Value) (ps : Parts) → are_absent (cond b (absent ps) (present v ps)) ≡ (b && are_absent ps)
kept_absent true v ps = refl
kept_absent false v ps = refl

-- a and b say whether the parts are left out, e whether they are equal
both_there : (a b e : Bool) (v w : Value) (ps qs : Parts) → e ≡ same v w → (same v w ≡ true → a ≡ b) →
    ((e || (a && b)) && same_parts ps qs) ≡ same_parts (cond a (absent ps) (present v ps)) (cond b (absent qs) (present w qs))
unfolding same_parts
both_there true true true v w ps qs h k = refl
both_there true true false v w ps qs h k = refl
both_there true false true v w ps qs h k = let x = k (sym h) in cc
both_there true false false v w ps qs h k = refl
both_there false true true v w ps qs h k = let x = k (sym h) in cc
both_there false true false v w ps qs h k = refl
both_there false false true v w ps qs h k = ap (λ x. x && same_parts ps qs) h
both_there false false false v w ps qs h k = ap (λ x. x && same_parts ps qs) h

first_there : (a : Bool) (v : Value) (ps qs : Parts) → (a && same_parts ps qs) ≡ same_parts (cond a (absent ps) (present v ps)) (absent qs)
unfolding same_parts
first_there true v ps qs = refl
first_there false v ps qs = refl

second_there : (a : Bool) (w : Value) (ps qs : Parts) → (a && same_parts ps qs) ≡ same_parts (absent ps) (cond a (absent qs) (present w qs))
unfolding same_parts
second_there true w ps qs = refl
second_there false w ps qs = refl

first_only : (a : Bool) (v : Value) (ps : Parts) → false ≡ same_parts (cond a (absent ps) (present v ps)) end
unfolding same_parts
first_only true v ps = refl
first_only false v ps = refl

second_only : (a : Bool) (w : Value) (qs : Parts) → false ≡ same_parts end (cond a (absent qs) (present w qs))
unfolding same_parts
second_only true w qs = refl
second_only false w qs = refl

-- ---- alternatives with the same index
at_places : (i j : ℕ) (a : Bool) (b : ℕ → Bool) → a ≡ b i → ((i == j) && a) ≡ ((i == j) && b j)
at_places i j a b h = by_test (i == j) refl
  where
    by_test : (t : Bool) → (i == j) ≡ t → (t && a) ≡ (t && b j)
    by_test true e = h ∙ ap b (eqb-true i j e)
    by_test false e = refl

left_out_by : (s : Schema) → ((v w : Value) → are_equal s v w ≡ same (normal s v) (normal s w)) →
    ((v : Value) → has_nothing s v ≡ is_empty_group s (normal s v)) → (o : Presence) (v : Value) →
    (is_the_default (λ a b. are_equal s a b) o v || has_nothing s v) ≡ (is_default_by (λ d. normal s d) o (normal s v) || is_empty_group s (normal s v))
left_out_by s h k o v = λ i. default_is (λ d. normal s d) (λ a b. are_equal s a b) h o s v i || k v i

-- ---- all kinds
mutual
  unfolding normal normal_parts normal_alternative same same_parts are_equal equal_parts equal_alternatives has_nothing are_nothing

  pub equal_is : (s : Schema) (v w : Value) → are_equal s v w ≡ same (normal s v) (normal s w)
  equal_is (sequence_of z h s) (members vs) (members ws) = members_equal (λ v. normal s v) (λ v w. are_equal s v w) (λ v w. equal_is s v w) vs ws
  equal_is (sequence_of z h s) (members vs) w = refl
  equal_is (sequence_of z h s) v (members ws) = refl
  equal_is (sequence_of z h s) v w = refl
  equal_is (set_of z h s) (bag vs) (bag ws) = bags_equal (λ v. normal s v) (λ v w. are_equal s v w) (λ v w. equal_is s v w) vs ws
  equal_is (set_of z h s) (bag vs) w = refl
  equal_is (set_of z h s) v (bag ws) = refl
  equal_is (set_of z h s) v w = refl
  equal_is (sequence cs e adds) (fields ps qs) (fields rs ss) = λ i. parts_are cs ps rs i && parts_are adds qs ss i
  equal_is (sequence cs e adds) (fields ps qs) w = refl
  equal_is (sequence cs e adds) v (fields rs ss) = refl
  equal_is (sequence cs e adds) v w = refl
  equal_is (set cs e adds) (fields ps qs) (fields rs ss) = λ i. parts_are cs ps rs i && parts_are adds qs ss i
  equal_is (set cs e adds) (fields ps qs) w = refl
  equal_is (set cs e adds) v (fields rs ss) = refl
  equal_is (set cs e adds) v w = refl
  equal_is (group cs) (fields ps qs) (fields rs ss) = ap (λ b. b && same_parts qs ss) (parts_are cs ps rs)
  equal_is (group cs) (fields ps qs) w = refl
  equal_is (group cs) v (fields rs ss) = refl
  equal_is (group cs) v w = refl
  equal_is (choice roots e adds) (chosen false i v) (chosen false j w) =
      at_places i j (equal_alternatives roots i v w) (λ k. same (normal_alternative roots i v) (normal_alternative roots k w)) (alternatives_are roots i v w)
  equal_is (choice roots e adds) (chosen true i v) (chosen true j w) =
      at_places i j (equal_alternatives adds i v w) (λ k. same (normal_alternative adds i v) (normal_alternative adds k w)) (alternatives_are adds i v w)
  equal_is (choice roots e adds) (chosen false i v) (chosen true j w) = refl
  equal_is (choice roots e adds) (chosen true i v) (chosen false j w) = refl
  equal_is (choice roots e adds) (chosen false i v) w = refl
  equal_is (choice roots e adds) (chosen true i v) w = refl
  equal_is (choice roots e adds) v (chosen false j w) = refl
  equal_is (choice roots e adds) v (chosen true j w) = refl
  equal_is (choice roots e adds) v w = refl
  equal_is s v w = refl

  parts_are : (cs : Components) (ps qs : Parts) → equal_parts cs ps qs ≡ same_parts (normal_parts cs ps) (normal_parts cs qs)
  parts_are no_component ps qs = refl
  parts_are (component t o s cs) (present v ps) (present w qs) =
      let a = left_out_by s (λ a b. equal_is s a b) (λ a. nothing_is s a) o v in
      let b = left_out_by s (λ a b. equal_is s a b) (λ a. nothing_is s a) o w in
      let e = equal_is s v w in
      let r = parts_are cs ps qs in
      (λ i. (are_equal s v w || (a i && b i)) && r i)
      ∙ both_there _ _ (are_equal s v w) (normal s v) (normal s w) (normal_parts cs ps) (normal_parts cs qs) e
      (λ k. λ i. default_tests (λ d. normal s d) o (normal s v) (normal s w) k i || group_tests s (normal s v) (normal s w) k i)
  parts_are (component t o s cs) (present v ps) (absent qs) =
      (λ i. left_out_by s (λ a b. equal_is s a b) (λ a. nothing_is s a) o v i && parts_are cs ps qs i) ∙ first_there _ (normal s v) (normal_parts cs ps) (normal_parts cs qs)
  parts_are (component t o s cs) (present v ps) end = first_only _ (normal s v) (normal_parts cs ps)
  parts_are (component t o s cs) (absent ps) (present w qs) =
      (λ i. left_out_by s (λ a b. equal_is s a b) (λ a. nothing_is s a) o w i && parts_are cs ps qs i) ∙ second_there _ (normal s w) (normal_parts cs ps) (normal_parts cs qs)
  parts_are (component t o s cs) (absent ps) (absent qs) = parts_are cs ps qs
  parts_are (component t o s cs) (absent ps) end = refl
  parts_are (component t o s cs) end (present w qs) = second_only _ (normal s w) (normal_parts cs qs)
  parts_are (component t o s cs) end (absent qs) = refl
  parts_are (component t o s cs) end end = refl

  alternatives_are : (others : Alternatives) (i : ℕ) (v w : Value) → equal_alternatives others i v w ≡ same (normal_alternative others i v) (normal_alternative others i w)
  alternatives_are no_alternative i v w = refl
  alternatives_are (alternative t s others) zero v w = equal_is s v w
  alternatives_are (alternative t s others) (suc i) v w = alternatives_are others i v w

  nothing_is : (s : Schema) (v : Value) → has_nothing s v ≡ is_empty_group s (normal s v)
  nothing_is (group cs) (fields ps qs) = nothings_are cs ps
  nothing_is (group cs) v = refl
  nothing_is s v = refl

  nothings_are : (cs : Components) (ps : Parts) → are_nothing cs ps ≡ are_absent (normal_parts cs ps)
  nothings_are no_component ps = refl
  nothings_are (component t o s cs) (present v ps) =
      (λ i. left_out_by s (λ a b. equal_is s a b) (λ a. nothing_is s a) o v i && nothings_are cs ps i) ∙ sym (kept_absent _ (normal s v) (normal_parts cs ps))
  nothings_are (component t o s cs) (absent ps) = nothings_are cs ps
  nothings_are (component t o s cs) end = refl
