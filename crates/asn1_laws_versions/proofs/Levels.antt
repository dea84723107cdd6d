-- Nested levels of equal values, and of values that are carried over to a newer version.
use Rattle.std.proofs.Common.{◌≡◌, ℕ, zero, suc, ◌+◌, ◌≤◌, max, true, false, Option, Some, option_map, refl, ap, sym, subst, arith}
use Rattle.std.proofs.lemmas.Bool.{and_parts}
use Rattle.asn1_model.specs.Value.{Value, truth, nothing, number, item, bit_list, octet_list, text, arcs, members, bag}
use Rattle.asn1_model.specs.Value.{fields, chosen, Values, no_more, member, Parts, end, absent, present, same}
use Rattle.asn1_model.specs.Value.{same_members, same_bag, same_parts, taken_out, depth, depth_of_members}
use Rattle.asn1_model.specs.Value.{depth_of_parts}
use Rattle.asn1_model.specs.Schema.{Schema, sequence_of, set_of, sequence, set, group, choice, Components, no_component, component, Alternatives, alternative}
use Rattle.asn1_model.specs.Versions.{carried, grow, carried_parts, carried_alternative, all_absent, map_each}
use Rattle.asn1_model.proofs.Forms.{chain_parts, map_parts}
use Rattle.asn1_laws_values.proofs.Messages.{some_parts}
use Rattle.asn1_laws_values.proofs.Counts.{taken_parts, rest_parts}
use Rattle.asn1_laws_values.proofs.Same.{same_turned}
use Rattle.asn1_laws_versions.proofs.Extending.{both_parts_parts, absent_of}
use Rattle.asn1_laws_versions.proofs.Grown.{each_of}

-- ---- equal values have no more nested levels, and so equally many
mutual
  unfolding same same_members same_bag same_parts depth depth_of_members depth_of_parts

  no_deeper : (v w : Value) → same v w ≡ true → depth v ≤ depth w
  no_deeper (members vs) (members ws) e = let h = members_no_deeper vs ws e in omega arith
  no_deeper (bag vs) (bag ws) e = let h = bag_no_deeper vs ws e in omega arith
  no_deeper (fields ps qs) (fields rs ss) e =
      let p = and_parts _ _ e in
      let h = parts_no_deeper ps rs p.0 in
      let k = parts_no_deeper qs ss p.1 in
      omega arith
  no_deeper (chosen a i v) (chosen b j w) e = let h : depth v ≤ depth w = no_deeper v w ((and_parts _ _ e).1) in omega arith
  no_deeper (truth a) w e = omega arith
  no_deeper nothing w e = omega arith
  no_deeper (number a) w e = omega arith
  no_deeper (item a) w e = omega arith
  no_deeper (bit_list a) w e = omega arith
  no_deeper (octet_list a) w e = omega arith
  no_deeper (text a) w e = omega arith
  no_deeper (arcs a) w e = omega arith
  no_deeper v w e = cc

  members_no_deeper : (vs ws : Values) → same_members vs ws ≡ true → depth_of_members vs ≤ depth_of_members ws
  members_no_deeper no_more ws e = omega arith
  members_no_deeper (member v vs) no_more e = cc
  members_no_deeper (member v vs) (member w ws) e =
      let p = and_parts _ _ e in
      let h = no_deeper v w p.0 in
      let k = members_no_deeper vs ws p.1 in
      omega arith

  bag_no_deeper : (vs ws : Values) → same_bag vs ws ≡ true → depth_of_members vs ≤ depth_of_members ws
  bag_no_deeper no_more ws e = omega arith
  bag_no_deeper (member v vs) ws e =
      let p = rest_parts (taken_out (λ w. same v w) ws) (λ rest. same_bag vs rest) e in
      let t = taken_parts (λ w. same v w) ws p.0 p.1 in
      let a = t.shallow in
      let b = t.others_shallow in
      let h = no_deeper v t.taken t.passes in
      let k = bag_no_deeper vs p.0 p.2 in
      omega arith

  parts_no_deeper : (ps qs : Parts) → same_parts ps qs ≡ true → depth_of_parts ps ≤ depth_of_parts qs
  parts_no_deeper end qs e = omega arith
  parts_no_deeper (absent ps) (absent qs) e = parts_no_deeper ps qs e
  parts_no_deeper (present v ps) (present w qs) e =
      let p = and_parts _ _ e in
      let h = no_deeper v w p.0 in
      let k = parts_no_deeper ps qs p.1 in
      omega arith
  parts_no_deeper ps qs e = cc

pub same_depth : (v w : Value) → same v w ≡ true → depth v ≡ depth w
same_depth v w e =
    let h = no_deeper v w e in
    let k = no_deeper w v (same_turned v w e) in
    omega arith

-- ---- what is carried over has the same number of nested levels
absent_flat : (cs : Components) (us : Parts) → all_absent cs ≡ Some us → depth_of_parts us ≡ 0
unfolding depth_of_parts
absent_flat no_component us e = subst (λ us. depth_of_parts us ≡ 0) (some_parts e) refl
absent_flat (component t o s cs) us e = let a = absent_of o s t cs us e in subst (λ us. depth_of_parts us ≡ 0) a.2 (absent_flat cs a.0 a.1)

members_deep : (g : Value → Option Value) (vs us : Values) → ((v u : Value) → g v ≡ Some u → depth u ≡ depth v) → map_each g vs ≡ Some us → depth_of_members us ≡ depth_of_members vs
unfolding depth_of_members
members_deep g no_more us k e = subst (λ us. depth_of_members us ≡ 0) (some_parts e) refl
members_deep g (member v vs) us k e =
    let a = each_of g v vs us e in
    let h = k v a.0 a.2 in
    let i = members_deep g vs a.1 k a.3 in
    subst (λ us. depth_of_members us ≡ depth_of_members (member v vs)) a.4 (two h i)
  where
    two : {a b c d : ℕ} → a ≡ b → c ≡ d → max a c ≡ max b d
    two e f = cc

mutual
  unfolding depth depth_of_members depth_of_parts carried carried_parts carried_alternative

  pub grown_depth : (s s' : Schema) (v u : Value) → grow s s' v ≡ Some u → depth u ≡ depth v
  grown_depth (sequence_of z c s) (sequence_of z' c' s') (members vs) u e =
      let a = map_parts (map_each (λ v. grow s s' v) vs) members u e in
      subst (λ u. depth u ≡ depth (members vs)) a.2 (ap (λ n. n + 1) (members_deep (λ v. grow s s' v) vs a.0 (λ v u i. grown_depth s s' v u i) a.1))
  grown_depth (set_of z c s) (set_of z' c' s') (bag vs) u e =
      let a = map_parts (map_each (λ v. grow s s' v) vs) bag u e in
      subst (λ u. depth u ≡ depth (bag vs)) a.2 (ap (λ n. n + 1) (members_deep (λ v. grow s s' v) vs a.0 (λ v u i. grown_depth s s' v u i) a.1))
  grown_depth (sequence cs m adds) (sequence cs' m' adds') (fields ps qs) u e =
      let a = both_parts_parts (carried_parts true cs cs' ps) (carried_parts true adds adds' qs) u e in
      let h = grown_parts_depth cs cs' ps a.0 a.2 in
      let k = grown_parts_depth adds adds' qs a.1 a.3 in
      subst (λ u. depth u ≡ depth (fields ps qs)) a.4 (omega arith)
  grown_depth (set cs m adds) (set cs' m' adds') (fields ps qs) u e =
      let a = both_parts_parts (carried_parts true cs cs' ps) (carried_parts true adds adds' qs) u e in
      let h = grown_parts_depth cs cs' ps a.0 a.2 in
      let k = grown_parts_depth adds adds' qs a.1 a.3 in
      subst (λ u. depth u ≡ depth (fields ps qs)) a.4 (omega arith)
  grown_depth (group cs) (group cs') (fields ps qs) u e =
      let a = both_parts_parts (carried_parts true cs cs' ps) (Some qs) u e in
      let h = grown_parts_depth cs cs' ps a.0 a.2 in
      let k : depth_of_parts a.1 ≡ depth_of_parts qs = ap depth_of_parts (sym (some_parts a.3)) in
      subst (λ u. depth u ≡ depth (fields ps qs)) a.4 (omega arith)
  grown_depth (choice roots m adds) (choice roots' m' adds') (chosen false i v) u e =
      let a = map_parts (carried_alternative true roots roots' i v) (λ w. chosen false i w) u e in
      subst (λ u. depth u ≡ depth (chosen false i v)) a.2 (ap (λ n. n + 1) (grown_alternative_depth roots roots' i v a.0 a.1))
  grown_depth (choice roots m adds) (choice roots' m' adds') (chosen true i v) u e =
      let a = map_parts (carried_alternative true adds adds' i v) (λ w. chosen true i w) u e in
      subst (λ u. depth u ≡ depth (chosen true i v)) a.2 (ap (λ n. n + 1) (grown_alternative_depth adds adds' i v a.0 a.1))
  grown_depth s s' v u e = ap depth (sym (some_parts e))

  grown_parts_depth : (cs cs' : Components) (ps us : Parts) → carried_parts true cs cs' ps ≡ Some us → depth_of_parts us ≡ depth_of_parts ps
  grown_parts_depth (component t o s cs) (component t' o' s' cs') (present v ps) us e =
      let d = chain_parts (grow s s' v) (λ w. option_map (λ qs. present w qs) (carried_parts true cs cs' ps)) us e in
      let a = map_parts (carried_parts true cs cs' ps) (λ qs. present d.0 qs) us d.2 in
      let h = grown_depth s s' v d.0 d.1 in
      let k = grown_parts_depth cs cs' ps a.0 a.1 in
      subst (λ us. depth_of_parts us ≡ depth_of_parts (present v ps)) a.2 (omega arith)
  grown_parts_depth (component t o s cs) (component t' o' s' cs') (absent ps) us e =
      let a = map_parts (carried_parts true cs cs' ps) absent us e in
      subst (λ us. depth_of_parts us ≡ depth_of_parts ps) a.2 (grown_parts_depth cs cs' ps a.0 a.1)
  grown_parts_depth no_component cs' end us e = absent_flat cs' us e
  grown_parts_depth cs cs' ps us e = cc

  grown_alternative_depth : (others others' : Alternatives) (i : ℕ) (v u : Value) → carried_alternative true others others' i v ≡ Some u → depth u ≡ depth v
  grown_alternative_depth (alternative t s others) (alternative t' s' others') zero v u e = grown_depth s s' v u e
  grown_alternative_depth (alternative t s others) (alternative t' s' others') (suc i) v u e = grown_alternative_depth others others' i v u e
  grown_alternative_depth others others' i v u e = cc
