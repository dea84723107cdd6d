-- Values carried over to a newer version are equal exactly if they were before, and normal exactly if they were
-- before.
use Rattle.std.proofs.Common.{◌≡◌, ℕ, zero, suc, ◌==◌, Bool, true, false, cond, ◌&&◌, Option, Some, None, option_map, refl, ap, sym, subst}
use Rattle.std.proofs.lemmas.Bool.{eqb-true}
use Rattle.asn1_model.specs.Value.{Value, members, bag, fields, chosen, Values, no_more, member, Parts, end, absent, present, same, same_members, same_bag, same_parts, same_truth, taken_out}
use Rattle.asn1_model.specs.Schema.{Schema, cut, boolean, null, integer, enumerated, bit_string, octet_string}
use Rattle.asn1_model.specs.Schema.{character_string, object_identifier, sequence_of, set_of, sequence, set, group}
use Rattle.asn1_model.specs.Schema.{choice, Components, no_component, component, Alternatives, no_alternative}
use Rattle.asn1_model.specs.Schema.{alternative}
use Rattle.asn1_model.specs.Versions.{carried, grow, carried_parts, carried_alternative, all_absent, map_each, Extends, ExtendsEach, ExtendsAlternatives}
use Rattle.asn1_model.proofs.Forms.{chain_parts, map_parts}
use Rattle.asn1_laws_values.proofs.Messages.{some_parts}
use Rattle.asn1_laws_versions.proofs.Extending.{both_parts_parts, absent_of}
use Rattle.std.specs.Option.{option_map_or}

-- ---- equality
as_before : (u u' t t' : Value) (b : Bool) → u' ≡ u → t' ≡ t → same u' t' ≡ b → same u t ≡ b
as_before u u' t t' b e f g = subst (λ u. same u t ≡ b) e (subst (λ t. same u' t ≡ b) f g)

-- a function that maps equal values to equal ones, and others to others
abbrev Keeps : (Value → Option Value) → Type 0
Keeps g = (v w u t : Value) → g v ≡ Some u → g w ≡ Some t → same u t ≡ same v w

abbrev pub EachOf : (Value → Option Value) → Value → Values → Values → Type 0
EachOf g u vs us = (a : Value) × (bs : Values) × (g u ≡ Some a) × (map_each g vs ≡ Some bs) × (member a bs ≡ us)

pub each_of : (g : Value → Option Value) (v : Value) (vs us : Values) → map_each g (member v vs) ≡ Some us → EachOf g v vs us
each_of g v vs us e =
    let a = chain_parts (g v) (λ w. option_map (λ ws. member w ws) (map_each g vs)) us e in
    let b = map_parts (map_each g vs) (λ ws. member a.0 ws) us a.2 in
    (a.0, b.0, a.1, b.1, b.2)

pub each_again : (g : Value → Option Value) (v w : Value) (vs ws : Values) → g v ≡ Some w → map_each g vs ≡ Some ws → map_each g (member v vs) ≡ Some (member w ws)
each_again g v w vs ws e f = rw (e, f) refl

members_by : (us us' ts ts' : Values) (b : Bool) → us' ≡ us → ts' ≡ ts → same_members us' ts' ≡ b → same_members us ts ≡ b
members_by us us' ts ts' b e f g = subst (λ us. same_members us ts ≡ b) e (subst (λ ts. same_members us' ts ≡ b) f g)

both_same : (a a' b b' : Bool) → a ≡ a' → b ≡ b' → (a && b) ≡ (a' && b')
both_same a a' b b' e f = cc

members_grown : (g : Value → Option Value) (vs ws us ts : Values) → Keeps g → map_each g vs ≡ Some us → map_each g ws ≡ Some ts → same_members us ts ≡ same_members vs ws
unfolding same_members
members_grown g no_more no_more us ts k e f = members_by us no_more ts no_more true (some_parts e) (some_parts f) refl
members_grown g no_more (member w ws) us ts k e f = let b = each_of g w ws ts f in members_by us no_more ts (member b.0 b.1) false (some_parts e) b.4 refl
members_grown g (member v vs) no_more us ts k e f = let a = each_of g v vs us e in members_by us (member a.0 a.1) ts no_more false a.4 (some_parts f) refl
members_grown g (member v vs) (member w ws) us ts k e f =
    let a = each_of g v vs us e in
    let b = each_of g w ws ts f in
    members_by us (member a.0 a.1) ts (member b.0 b.1) _ a.4 b.4 (both_same _ _ _ _ (k v w a.0 b.0 a.2 b.2) (members_grown g vs ws a.1 b.1 k a.3 b.3))

-- elements without one
abbrev Rests : (Value → Option Value) → Option Values → Option Values → Type 0
Rests g None None = Unit {0}
Rests g (Some r) (Some r') = map_each g r ≡ Some r'
Rests g o p = ⊥

more_rest : (g : Value → Option Value) (w t : Value) (o p : Option Values) → g w ≡ Some t → Rests g o p → Rests g (option_map (λ ws. member w ws) o) (option_map (λ ws. member t ws) p)
more_rest g w t None None e r = tt
more_rest g w t (Some s) (Some s') e r = each_again g w t s s' e r
more_rest g w t None (Some s') e r = absurd r
more_rest g w t (Some s) None e r = absurd r

rest_cases : (g : Value → Option Value) (b b' : Bool) (ws ts : Values) (o p : Option Values) → b' ≡ b → map_each g ws ≡ Some ts → Rests g o p → Rests g (cond b (Some ws) o) (cond b' (Some ts) p)
rest_cases g true true ws ts o p e f r = f
rest_cases g false false ws ts o p e f r = r
rest_cases g true false ws ts o p e f r = cc
rest_cases g false true ws ts o p e f r = cc

taken_grown : (g : Value → Option Value) (v u : Value) (ws ts : Values) → Keeps g → g v ≡ Some u → map_each g ws ≡ Some ts → Rests g (taken_out (λ w. same v w) ws) (taken_out (λ t. same u t) ts)
taken_grown g v u no_more ts k e f = subst (λ ts. Rests g None (taken_out (λ t. same u t) ts)) (some_parts f) tt
taken_grown g v u (member w ws) ts k e f =
    let b = each_of g w ws ts f in
    subst (λ ts. Rests g (taken_out (λ w. same v w) (member w ws)) (taken_out (λ t. same u t) ts)) b.4
    (rest_cases g (same v w) (same u b.0) ws b.1 _ _ (k v w u b.0 e b.2) b.3 (more_rest g w b.0 _ _ b.2 (taken_grown g v u ws b.1 k e b.3)))

with_rests : (g : Value → Option Value) (o p : Option Values) (f h : Values → Bool) → Rests g o p →
    ((r r' : Values) → map_each g r ≡ Some r' → h r' ≡ f r) → option_map_or h p false ≡ option_map_or f o false
with_rests g None None f h r k = refl
with_rests g (Some s) (Some s') f h r k = k s s' r
with_rests g None (Some s') f h r k = absurd r
with_rests g (Some s) None f h r k = absurd r

bag_by : (us us' ts ts' : Values) (b : Bool) → us' ≡ us → ts' ≡ ts → same_bag us' ts' ≡ b → same_bag us ts ≡ b
bag_by us us' ts ts' b e f g = subst (λ us. same_bag us ts ≡ b) e (subst (λ ts. same_bag us' ts ≡ b) f g)

bags_grown : (g : Value → Option Value) (vs ws us ts : Values) → Keeps g → map_each g vs ≡ Some us → map_each g ws ≡ Some ts → same_bag us ts ≡ same_bag vs ws
unfolding same_bag
bags_grown g no_more no_more us ts k e f = bag_by us no_more ts no_more true (some_parts e) (some_parts f) refl
bags_grown g no_more (member w ws) us ts k e f = let b = each_of g w ws ts f in bag_by us no_more ts (member b.0 b.1) false (some_parts e) b.4 refl
bags_grown g (member v vs) ws us ts k e f =
    let a = each_of g v vs us e in
    bag_by us (member a.0 a.1) ts ts _ a.4 refl
    (with_rests g (taken_out (λ w. same v w) ws) (taken_out (λ t. same a.0 t) ts) (λ rest. same_bag vs rest)
    (λ rest. same_bag a.1 rest) (taken_grown g v a.0 ws ts k a.2 f) (λ r r' q. bags_grown g vs r a.1 r' k a.3 q))

-- ---- parts
absent_same : (cs : Components) (us ts : Parts) → all_absent cs ≡ Some us → all_absent cs ≡ Some ts → same_parts us ts ≡ true
unfolding same_parts
absent_same no_component us ts e f = subst (λ us. same_parts us ts ≡ true) (some_parts e) (subst (λ ts. same_parts end ts ≡ true) (some_parts f) refl)
absent_same (component t o s cs) us ts e f =
    let a = absent_of o s t cs us e in
    let b = absent_of o s t cs ts f in
    subst (λ us. same_parts us ts ≡ true) a.2 (subst (λ ts. same_parts (absent a.0) ts ≡ true) b.2 (absent_same cs a.0 b.0 a.1 b.1))

parts_by : (us us' ts ts' : Parts) (b : Bool) → us' ≡ us → ts' ≡ ts → same_parts us' ts' ≡ b → same_parts us ts ≡ b
parts_by us us' ts ts' b e f g = subst (λ us. same_parts us ts ≡ b) e (subst (λ ts. same_parts us' ts ≡ b) f g)

fields_grown : (ps qs rs ss us vs ts ws : Parts) → same_parts us ts ≡ same_parts ps rs → same_parts vs ws ≡ same_parts qs ss → same (fields us vs) (fields ts ws) ≡ same (fields ps qs) (fields rs ss)
unfolding same
fields_grown ps qs rs ss us vs ts ws e f = both_same _ _ _ _ e f

chosen_grown : (a : Bool) (i j : ℕ) (v w u t : Value) → (i ≡ j → same u t ≡ same v w) → same (chosen a i u) (chosen a j t) ≡ same (chosen a i v) (chosen a j w)
unfolding same
chosen_grown a i j v w u t h = go (i == j) refl (same_truth a a)
  where
    go : (b : Bool) → (i == j) ≡ b → (c : Bool) → (c && (i == j) && same u t) ≡ (c && (i == j) && same v w)
    go true e c = ap (λ x. c && (i == j) && x) (h (eqb-true i j e))
    go false e c = let q : (c && false && same u t) ≡ (c && false && same v w) = none c in subst (λ b. (c && b && same u t) ≡ (c && b && same v w)) (sym e) q
      where
        none : (c : Bool) → (c && false && same u t) ≡ (c && false && same v w)
        none true = refl
        none false = refl

mutual
  unfolding same same_parts Extends ExtendsEach ExtendsAlternatives carried carried_parts carried_alternative

  pub same_grown : (s s' : Schema) (v w u t : Value) → Extends s s' → grow s s' v ≡ Some u → grow s s' w ≡ Some t → same u t ≡ same v w
  same_grown (sequence_of z c s) (sequence_of z' c' s') (members vs) (members ws) u t h e f =
      let a = map_parts (map_each (λ v. grow s s' v) vs) members u e in
      let b = map_parts (map_each (λ v. grow s s' v) ws) members t f in
      as_before u (members a.0) t (members b.0) _ a.2 b.2 (members_grown (λ v. grow s s' v) vs ws a.0 b.0 (λ v w u t i j. same_grown s s' v w u t h.2 i j) a.1 b.1)
  same_grown (sequence_of z c s) (sequence_of z' c' s') (members vs) w u t h e f = let a =
      map_parts (map_each (λ v. grow s s' v) vs) members u e in as_before u (members a.0) t w _ a.2 (some_parts f) refl
  same_grown (sequence_of z c s) (sequence_of z' c' s') v (members ws) u t h e f = let b =
      map_parts (map_each (λ v. grow s s' v) ws) members t f in as_before u v t (members b.0) _ (some_parts e) b.2 refl
  same_grown (sequence_of z c s) (sequence_of z' c' s') v w u t h e f = as_before u v t w _ (some_parts e) (some_parts f) refl
  same_grown (set_of z c s) (set_of z' c' s') (bag vs) (bag ws) u t h e f =
      let a = map_parts (map_each (λ v. grow s s' v) vs) bag u e in
      let b = map_parts (map_each (λ v. grow s s' v) ws) bag t f in
      as_before u (bag a.0) t (bag b.0) _ a.2 b.2 (bags_grown (λ v. grow s s' v) vs ws a.0 b.0 (λ v w u t i j. same_grown s s' v w u t h.2 i j) a.1 b.1)
  same_grown (set_of z c s) (set_of z' c' s') (bag vs) w u t h e f = let a = map_parts (map_each (λ v. grow s s' v) vs) bag u e in as_before u (bag a.0) t w _ a.2 (some_parts f) refl
  same_grown (set_of z c s) (set_of z' c' s') v (bag ws) u t h e f = let b = map_parts (map_each (λ v. grow s s' v) ws) bag t f in as_before u v t (bag b.0) _ (some_parts e) b.2 refl
  same_grown (set_of z c s) (set_of z' c' s') v w u t h e f = as_before u v t w _ (some_parts e) (some_parts f) refl
  same_grown (sequence cs m adds) (sequence cs' m' adds') (fields ps qs) (fields rs ss) u t h e f =
      let a = both_parts_parts (carried_parts true cs cs' ps) (carried_parts true adds adds' qs) u e in
      let b = both_parts_parts (carried_parts true cs cs' rs) (carried_parts true adds adds' ss) t f in
      as_before u (fields a.0 a.1) t (fields b.0 b.1) _ a.4 b.4
      (fields_grown ps qs rs ss a.0 a.1 b.0 b.1 (parts_grown false cs cs' ps rs a.0 b.0 h.0 a.2 b.2) (parts_grown m adds adds' qs ss a.1 b.1 h.2 a.3 b.3))
  same_grown (sequence cs m adds) (sequence cs' m' adds') (fields ps qs) w u t h e f = let a =
      both_parts_parts (carried_parts true cs cs' ps) (carried_parts true adds adds' qs) u e in as_before u (fields a.0 a.1) t w _ a.4 (some_parts f) refl
  same_grown (sequence cs m adds) (sequence cs' m' adds') v (fields rs ss) u t h e f = let b =
      both_parts_parts (carried_parts true cs cs' rs) (carried_parts true adds adds' ss) t f in as_before u v t (fields b.0 b.1) _ (some_parts e) b.4 refl
  same_grown (sequence cs m adds) (sequence cs' m' adds') v w u t h e f = as_before u v t w _ (some_parts e) (some_parts f) refl
  same_grown (set cs m adds) (set cs' m' adds') (fields ps qs) (fields rs ss) u t h e f =
      let a = both_parts_parts (carried_parts true cs cs' ps) (carried_parts true adds adds' qs) u e in
      let b = both_parts_parts (carried_parts true cs cs' rs) (carried_parts true adds adds' ss) t f in
      as_before u (fields a.0 a.1) t (fields b.0 b.1) _ a.4 b.4
      (fields_grown ps qs rs ss a.0 a.1 b.0 b.1 (parts_grown false cs cs' ps rs a.0 b.0 h.0 a.2 b.2) (parts_grown m adds adds' qs ss a.1 b.1 h.2 a.3 b.3))
  same_grown (set cs m adds) (set cs' m' adds') (fields ps qs) w u t h e f = let a =
      both_parts_parts (carried_parts true cs cs' ps) (carried_parts true adds adds' qs) u e in as_before u (fields a.0 a.1) t w _ a.4 (some_parts f) refl
  same_grown (set cs m adds) (set cs' m' adds') v (fields rs ss) u t h e f = let b =
      both_parts_parts (carried_parts true cs cs' rs) (carried_parts true adds adds' ss) t f in as_before u v t (fields b.0 b.1) _ (some_parts e) b.4 refl
  same_grown (set cs m adds) (set cs' m' adds') v w u t h e f = as_before u v t w _ (some_parts e) (some_parts f) refl
  same_grown (group cs) (group cs') (fields ps qs) (fields rs ss) u t h e f =
      let a = both_parts_parts (carried_parts true cs cs' ps) (Some qs) u e in
      let b = both_parts_parts (carried_parts true cs cs' rs) (Some ss) t f in
      as_before u (fields a.0 a.1) t (fields b.0 b.1) _ a.4 b.4
      (fields_grown ps qs rs ss a.0 a.1 b.0 b.1 (parts_grown false cs cs' ps rs a.0 b.0 h a.2 b.2) (parts_by a.1 qs b.1 ss _ (some_parts a.3) (some_parts b.3) refl))
  same_grown (group cs) (group cs') (fields ps qs) w u t h e f = let a = both_parts_parts (carried_parts true cs cs' ps) (Some qs) u e in as_before u (fields a.0 a.1) t w _ a.4 (some_parts f) refl
  same_grown (group cs) (group cs') v (fields rs ss) u t h e f = let b = both_parts_parts (carried_parts true cs cs' rs) (Some ss) t f in as_before u v t (fields b.0 b.1) _ (some_parts e) b.4 refl
  same_grown (group cs) (group cs') v w u t h e f = as_before u v t w _ (some_parts e) (some_parts f) refl
  same_grown (choice roots m adds) (choice roots' m' adds') (chosen false i v) (chosen false j w) u t h e f =
      let a = map_parts (carried_alternative true roots roots' i v) (λ w. chosen false i w) u e in
      let b = map_parts (carried_alternative true roots roots' j w) (λ w. chosen false j w) t f in
      as_before u (chosen false i a.0) t (chosen false j b.0) _ a.2 b.2
      (chosen_grown false i j v w a.0 b.0 (λ n. alternative_grown false roots roots' i v w a.0 b.0 h.0 a.1 (subst (λ k. carried_alternative true roots roots' k w ≡ Some b.0) (sym n) b.1)))
  same_grown (choice roots m adds) (choice roots' m' adds') (chosen true i v) (chosen true j w) u t h e f =
      let a = map_parts (carried_alternative true adds adds' i v) (λ w. chosen true i w) u e in
      let b = map_parts (carried_alternative true adds adds' j w) (λ w. chosen true j w) t f in
      as_before u (chosen true i a.0) t (chosen true j b.0) _ a.2 b.2
      (chosen_grown true i j v w a.0 b.0 (λ n. alternative_grown m adds adds' i v w a.0 b.0 h.2 a.1 (subst (λ k. carried_alternative true adds adds' k w ≡ Some b.0) (sym n) b.1)))
  same_grown (choice roots m adds) (choice roots' m' adds') (chosen false i v) (chosen true j w) u t h e f =
      let a = map_parts (carried_alternative true roots roots' i v) (λ w. chosen false i w) u e in
      let b = map_parts (carried_alternative true adds adds' j w) (λ w. chosen true j w) t f in
      as_before u (chosen false i a.0) t (chosen true j b.0) _ a.2 b.2 refl
  same_grown (choice roots m adds) (choice roots' m' adds') (chosen true i v) (chosen false j w) u t h e f =
      let a = map_parts (carried_alternative true adds adds' i v) (λ w. chosen true i w) u e in
      let b = map_parts (carried_alternative true roots roots' j w) (λ w. chosen false j w) t f in
      as_before u (chosen true i a.0) t (chosen false j b.0) _ a.2 b.2 refl
  same_grown (choice roots m adds) (choice roots' m' adds') (chosen false i v) w u t h e f = let a =
      map_parts (carried_alternative true roots roots' i v) (λ w. chosen false i w) u e in as_before u (chosen false i a.0) t w _ a.2 (some_parts f) refl
  same_grown (choice roots m adds) (choice roots' m' adds') (chosen true i v) w u t h e f = let a =
      map_parts (carried_alternative true adds adds' i v) (λ w. chosen true i w) u e in as_before u (chosen true i a.0) t w _ a.2 (some_parts f) refl
  same_grown (choice roots m adds) (choice roots' m' adds') v (chosen false j w) u t h e f = let b =
      map_parts (carried_alternative true roots roots' j w) (λ w. chosen false j w) t f in as_before u v t (chosen false j b.0) _ (some_parts e) b.2 refl
  same_grown (choice roots m adds) (choice roots' m' adds') v (chosen true j w) u t h e f = let b =
      map_parts (carried_alternative true adds adds' j w) (λ w. chosen true j w) t f in as_before u v t (chosen true j b.0) _ (some_parts e) b.2 refl
  same_grown (choice roots m adds) (choice roots' m' adds') v w u t h e f = as_before u v t w _ (some_parts e) (some_parts f) refl
  same_grown cut s' v w u t h e f = as_before u v t w _ (some_parts e) (some_parts f) refl
  same_grown boolean s' v w u t h e f = as_before u v t w _ (some_parts e) (some_parts f) refl
  same_grown null s' v w u t h e f = as_before u v t w _ (some_parts e) (some_parts f) refl
  same_grown object_identifier s' v w u t h e f = as_before u v t w _ (some_parts e) (some_parts f) refl
  same_grown (integer b c) s' v w u t h e f = as_before u v t w _ (some_parts e) (some_parts f) refl
  same_grown (enumerated rs m ds) s' v w u t h e f = as_before u v t w _ (some_parts e) (some_parts f) refl
  same_grown (bit_string z c) s' v w u t h e f = as_before u v t w _ (some_parts e) (some_parts f) refl
  same_grown (octet_string z c) s' v w u t h e f = as_before u v t w _ (some_parts e) (some_parts f) refl
  same_grown (character_string k z a c) s' v w u t h e f = as_before u v t w _ (some_parts e) (some_parts f) refl
  same_grown s s' v w u t h e f = absurd h

  parts_grown : (more : Bool) (cs cs' : Components) (ps qs us ts : Parts) → ExtendsEach more cs cs' → carried_parts true cs cs' ps
      ≡ Some us → carried_parts true cs cs' qs ≡ Some ts → same_parts us ts ≡ same_parts ps qs
  parts_grown more no_component cs' end end us ts h e f = absent_same cs' us ts e f
  parts_grown more no_component cs' end (absent qs) us ts h e f = cc
  parts_grown more no_component cs' end (present w qs) us ts h e f = cc
  parts_grown more no_component cs' (absent ps) qs us ts h e f = cc
  parts_grown more no_component cs' (present v ps) qs us ts h e f = cc
  parts_grown more (component t o s cs) no_component ps qs us ts h e f = absurd h
  parts_grown more (component t o s cs) (component t' o' s' cs') end qs us ts h e f = cc
  parts_grown more (component t o s cs) (component t' o' s' cs') (absent ps) end us ts h e f = cc
  parts_grown more (component t o s cs) (component t' o' s' cs') (present v ps) end us ts h e f = cc
  parts_grown more (component t o s cs) (component t' o' s' cs') (absent ps) (absent qs) us ts h e f =
      let a = map_parts (carried_parts true cs cs' ps) absent us e in
      let b = map_parts (carried_parts true cs cs' qs) absent ts f in
      parts_by us (absent a.0) ts (absent b.0) _ a.2 b.2 (parts_grown more cs cs' ps qs a.0 b.0 h.3 a.1 b.1)
  parts_grown more (component t o s cs) (component t' o' s' cs') (absent ps) (present w qs) us ts h e f =
      let a = map_parts (carried_parts true cs cs' ps) absent us e in
      let c = chain_parts (grow s s' w) (λ w. option_map (λ rs. present w rs) (carried_parts true cs cs' qs)) ts f in
      let b = map_parts (carried_parts true cs cs' qs) (λ rs. present c.0 rs) ts c.2 in
      parts_by us (absent a.0) ts (present c.0 b.0) _ a.2 b.2 refl
  parts_grown more (component t o s cs) (component t' o' s' cs') (present v ps) (absent qs) us ts h e f =
      let d = chain_parts (grow s s' v) (λ w. option_map (λ rs. present w rs) (carried_parts true cs cs' ps)) us e in
      let a = map_parts (carried_parts true cs cs' ps) (λ rs. present d.0 rs) us d.2 in
      let b = map_parts (carried_parts true cs cs' qs) absent ts f in
      parts_by us (present d.0 a.0) ts (absent b.0) _ a.2 b.2 refl
  parts_grown more (component t o s cs) (component t' o' s' cs') (present v ps) (present w qs) us ts h e f =
      let d = chain_parts (grow s s' v) (λ w. option_map (λ rs. present w rs) (carried_parts true cs cs' ps)) us e in
      let a = map_parts (carried_parts true cs cs' ps) (λ rs. present d.0 rs) us d.2 in
      let c = chain_parts (grow s s' w) (λ w. option_map (λ rs. present w rs) (carried_parts true cs cs' qs)) ts f in
      let b = map_parts (carried_parts true cs cs' qs) (λ rs. present c.0 rs) ts c.2 in
      parts_by us (present d.0 a.0) ts (present c.0 b.0) _ a.2 b.2 (both_same _ _ _ _ (same_grown s s' v w d.0 c.0 h.2 d.1 c.1) (parts_grown more cs cs' ps qs a.0 b.0 h.3 a.1 b.1))

  alternative_grown : (more : Bool) (others others' : Alternatives) (i : ℕ) (v w u t : Value) →
      ExtendsAlternatives more others others' → carried_alternative true others others' i v ≡ Some u → carried_alternative true others others' i w ≡ Some t → same u t ≡ same v w
  alternative_grown more no_alternative others' i v w u t h e f = cc
  alternative_grown more (alternative y s others) no_alternative i v w u t h e f = absurd h
  alternative_grown more (alternative y s others) (alternative y' s' others') zero v w u t h e f = same_grown s s' v w u t h.1 e f
  alternative_grown more (alternative y s others) (alternative y' s' others') (suc i) v w u t h e f = alternative_grown more others others' i v w u t h.2 e f
