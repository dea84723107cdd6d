-- A value without what the older version lacks has no more nested levels.
use Rattle.std.proofs.Common.{◌≡◌, ℕ, zero, suc, ◌≤◌, Bool, true, false, cond, Option, Some, None, option_map, ap, sym, subst, arith}
use Rattle.asn1_model.specs.Value.{Value, item, members, bag, fields, chosen, Values, no_more, member, Parts, absent, present, depth, depth_of_members, depth_of_parts}
use Rattle.asn1_model.specs.Schema.{Schema, enumerated, sequence_of, set_of, sequence, set, group, choice, Components, no_component, component, Alternatives, alternative}
use Rattle.asn1_model.specs.Versions.{carried, carried_parts, carried_alternative, map_each}
use Rattle.asn1_model.proofs.Forms.{chain_parts, map_parts}
use Rattle.asn1_laws_values.proofs.Messages.{some_parts}
use Rattle.asn1_laws_versions.proofs.Extending.{both_parts_parts}
use Rattle.asn1_laws_versions.proofs.Grown.{each_of}

members_less_deep : (g : Value → Option Value) (vs us : Values) → ((v u : Value) → g v ≡ Some u → depth u ≤ depth v) → map_each g vs ≡ Some us → depth_of_members us ≤ depth_of_members vs
unfolding depth_of_members
members_less_deep g no_more us k e = subst (λ us. depth_of_members us ≤ 0) (some_parts e) (omega arith)
members_less_deep g (member v vs) us k e =
    let a = each_of g v vs us e in
    let h = k v a.0 a.2 in
    let i = members_less_deep g vs a.1 k a.3 in
    subst (λ us. depth_of_members us ≤ depth_of_members (member v vs)) a.4 (omega arith)

-- a value that is unchanged, or does not exist
pub if_known : (b : Bool) (x u : Value) → cond b (Some x) None ≡ Some u → x ≡ u
if_known true x u e = some_parts e
if_known false x u e = cc

mutual
  unfolding depth depth_of_members depth_of_parts carried carried_parts carried_alternative

  pub lessened_depth : (s s' : Schema) (v u : Value) → carried false s s' v ≡ Some u → depth u ≤ depth v
  lessened_depth (enumerated roots m adds) (enumerated roots' m' adds') (item i) u e = subst (λ u. depth u ≤ depth (item i)) (if_known _ (item i) u e) (omega arith)
  lessened_depth (sequence_of z c s) (sequence_of z' c' s') (members vs) u e =
      let a = map_parts (map_each (λ v. carried false s s' v) vs) members u e in
      let h = members_less_deep (λ v. carried false s s' v) vs a.0 (λ v u i. lessened_depth s s' v u i) a.1 in
      subst (λ u. depth u ≤ depth (members vs)) a.2 (omega arith)
  lessened_depth (set_of z c s) (set_of z' c' s') (bag vs) u e =
      let a = map_parts (map_each (λ v. carried false s s' v) vs) bag u e in
      let h = members_less_deep (λ v. carried false s s' v) vs a.0 (λ v u i. lessened_depth s s' v u i) a.1 in
      subst (λ u. depth u ≤ depth (bag vs)) a.2 (omega arith)
  lessened_depth (sequence cs m adds) (sequence cs' m' adds') (fields ps qs) u e =
      let a = both_parts_parts (carried_parts false cs cs' ps) (carried_parts false adds adds' qs) u e in
      let h = lessened_parts_depth cs cs' ps a.0 a.2 in
      let k = lessened_parts_depth adds adds' qs a.1 a.3 in
      subst (λ u. depth u ≤ depth (fields ps qs)) a.4 (omega arith)
  lessened_depth (set cs m adds) (set cs' m' adds') (fields ps qs) u e =
      let a = both_parts_parts (carried_parts false cs cs' ps) (carried_parts false adds adds' qs) u e in
      let h = lessened_parts_depth cs cs' ps a.0 a.2 in
      let k = lessened_parts_depth adds adds' qs a.1 a.3 in
      subst (λ u. depth u ≤ depth (fields ps qs)) a.4 (omega arith)
  lessened_depth (group cs) (group cs') (fields ps qs) u e =
      let a = both_parts_parts (carried_parts false cs cs' ps) (Some qs) u e in
      let h = lessened_parts_depth cs cs' ps a.0 a.2 in
      let k : depth_of_parts a.1 ≡ depth_of_parts qs = ap depth_of_parts (sym (some_parts a.3)) in
      subst (λ u. depth u ≤ depth (fields ps qs)) a.4 (omega arith)
  lessened_depth (choice roots m adds) (choice roots' m' adds') (chosen false i v) u e =
      let a = map_parts (carried_alternative false roots roots' i v) (λ w. chosen false i w) u e in
      let h = lessened_alternative_depth roots roots' i v a.0 a.1 in
      subst (λ u. depth u ≤ depth (chosen false i v)) a.2 (omega arith)
  lessened_depth (choice roots m adds) (choice roots' m' adds') (chosen true i v) u e =
      let a = map_parts (carried_alternative false adds adds' i v) (λ w. chosen true i w) u e in
      let h = lessened_alternative_depth adds adds' i v a.0 a.1 in
      subst (λ u. depth u ≤ depth (chosen true i v)) a.2 (omega arith)
  lessened_depth s s' v u e = subst (λ u. depth u ≤ depth v) (some_parts e) (omega arith)

  lessened_parts_depth : (cs cs' : Components) (ps us : Parts) → carried_parts false cs cs' ps ≡ Some us → depth_of_parts us ≤ depth_of_parts ps
  lessened_parts_depth (component t o s cs) (component t' o' s' cs') (present v ps) us e =
      let d = chain_parts (carried false s s' v) (λ w. option_map (λ qs. present w qs) (carried_parts false cs cs' ps)) us e in
      let a = map_parts (carried_parts false cs cs' ps) (λ qs. present d.0 qs) us d.2 in
      let h = lessened_depth s s' v d.0 d.1 in
      let k = lessened_parts_depth cs cs' ps a.0 a.1 in
      subst (λ us. depth_of_parts us ≤ depth_of_parts (present v ps)) a.2 (omega arith)
  lessened_parts_depth (component t o s cs) (component t' o' s' cs') (absent ps) us e =
      let a = map_parts (carried_parts false cs cs' ps) absent us e in
      subst (λ us. depth_of_parts us ≤ depth_of_parts ps) a.2 (lessened_parts_depth cs cs' ps a.0 a.1)
  lessened_parts_depth no_component cs' ps us e = subst (λ us. depth_of_parts us ≤ depth_of_parts ps) (some_parts e) (omega arith)
  lessened_parts_depth cs cs' ps us e = cc

  lessened_alternative_depth : (others others' : Alternatives) (i : ℕ) (v u : Value) → carried_alternative false others others' i v ≡ Some u → depth u ≤ depth v
  lessened_alternative_depth (alternative t s others) (alternative t' s' others') zero v u e = lessened_depth s s' v u e
  lessened_alternative_depth (alternative t s others) (alternative t' s' others') (suc i) v u e = lessened_alternative_depth others others' i v u e
  lessened_alternative_depth others others' i v u e = cc
