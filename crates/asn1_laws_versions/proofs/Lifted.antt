-- A value equal to a carried value is the carried value of an equal one.
use Rattle.std.proofs.Common.{◌≡◌, ℕ, zero, suc, Bool, true, false, cond, ◌||◌, List, [], ◌∷◌, Option, Some, None, option_map, option_and_then, refl, ap, sym, ◌∙◌, subst}
use Rattle.std.proofs.lemmas.Bool.{and_parts, and_from, eqb-true, eq-eqb}
use Rattle.asn1_model.specs.Value.{Value, item, members, bag, fields, chosen, Values, no_more, member, values_of, Parts, end, absent, present, same, same_members, same_parts}
use Rattle.asn1_model.specs.Schema.{Schema, cut, boolean, null, integer, enumerated, bit_string, octet_string}
use Rattle.asn1_model.specs.Schema.{character_string, object_identifier, sequence_of, set_of, sequence, set, group}
use Rattle.asn1_model.specs.Schema.{choice, Components, no_component, component, Alternatives, no_alternative}
use Rattle.asn1_model.specs.Schema.{alternative}
use Rattle.asn1_model.specs.Form.{pick, arranged}
use Rattle.std.specs.Prelude.{is_some}
use Rattle.asn1_model.specs.Normal.{item_place}
use Rattle.asn1_model.specs.Versions.{carried, grow, carried_parts, carried_alternative, all_absent, map_each, Extends, ExtendsEach, ExtendsAlternatives}
use Rattle.asn1_model.proofs.Forms.{chain_parts, map_parts}
use Rattle.asn1_laws_values.proofs.Messages.{some_parts}
use Rattle.asn1_laws_values.proofs.Arranged.{arranged_parts}
use Rattle.asn1_laws_values.proofs.Listed.{listed, listed_again}
use Rattle.asn1_laws_values.proofs.Leaves.{truths_equal, numbers_equal}
use Rattle.asn1_laws_values.proofs.Same.{same_self}
use Rattle.asn1_laws_values.proofs.Bags.{EachSame, bag_matched, matched_same}
use Rattle.asn1_laws_versions.proofs.Extending.{both_parts_parts, both_parts_from, absent_of}
use Rattle.asn1_laws_versions.proofs.Grown.{each_of, each_again}

abbrev pub Lifted : (Value → Option Value) → Value → Value → Type 0
Lifted g x v = (y : Value) × (g y ≡ Some x) × (same y v ≡ true)

-- a function for which that is so
abbrev Lifts : (Value → Option Value) → Type 0
Lifts g = (v u x : Value) → g v ≡ Some u → same x u ≡ true → Lifted g x v

-- ---- elements
members_lifted : (g : Value → Option Value) (vs us xs : Values) → Lifts g → map_each g vs ≡ Some us → same_members xs us ≡ true →
    (ys : Values) × (map_each g ys ≡ Some xs) × (same_members ys vs ≡ true)
unfolding same_members
members_lifted g no_more us no_more k e f = (no_more, refl, refl)
members_lifted g no_more us (member x xs) k e f = let q : same_members (member x xs) no_more ≡ true = subst (λ us. same_members (member x xs) us ≡ true) (sym (some_parts e)) f in cc
members_lifted g (member v vs) us no_more k e f = let a = each_of g v vs us e in let q : same_members no_more (member a.0 a.1) ≡ true = subst (λ us. same_members no_more us ≡ true) (sym a.4) f in cc
members_lifted g (member v vs) us (member x xs) k e f =
    let a = each_of g v vs us e in
    let q : same_members (member x xs) (member a.0 a.1) ≡ true = subst (λ us. same_members (member x xs) us ≡ true) (sym a.4) f in
    let p = and_parts _ _ q in
    let y = k v a.0 x a.2 p.0 in
    let ys = members_lifted g vs a.1 xs k a.3 p.1 in
    (member y.0 ys.0, each_again g y.0 x ys.0 xs y.1 ys.1, and_from _ _ y.2 ys.2)

abbrev Along : (Value → Option Value) → List Value → List Value → Type 0
Along g [] [] = Unit {0}
Along g (y ∷ ys) (z ∷ zs) = (g y ≡ Some z) × Along g ys zs
Along g ys zs = ⊥

along_of : (g : Value → Option Value) (vs us : Values) → map_each g vs ≡ Some us → Along g (listed vs) (listed us)
along_of g no_more us e = subst (λ us. Along g [] (listed us)) (some_parts e) tt
along_of g (member v vs) us e = let a = each_of g v vs us e in subst (λ us. Along g (v ∷ listed vs) (listed us)) a.4 (a.2, along_of g vs a.1 a.3)

of_along : (g : Value → Option Value) (ys zs : List Value) → Along g ys zs → map_each g (values_of ys) ≡ Some (values_of zs)
of_along g [] [] h = refl
of_along g [] (z ∷ zs) h = absurd h
of_along g (y ∷ ys) [] h = absurd h
of_along g (y ∷ ys) (z ∷ zs) h = each_again g y z (values_of ys) (values_of zs) h.0 (of_along g ys zs h.1)

pick_along : (g : Value → Option Value) (i : ℕ) (xs bs : List Value) (z : Value) (rest : List Value) → Along g xs bs → pick i bs
    ≡ Some (z, rest) → (y : Value) × (more : List Value) × (pick i xs ≡ Some (y, more)) × (g y ≡ Some z) × Along g more rest
pick_along g i [] [] z rest h e = cc
pick_along g i [] (b ∷ bs) z rest h e = absurd h
pick_along g i (x ∷ xs) [] z rest h e = absurd h
pick_along g zero (x ∷ xs) (b ∷ bs) z rest h e =
    let p : Value × List Value = (b, bs) in
    let q : Value × List Value = (z, rest) in
    let f : p ≡ q = some_parts e in
    (x, xs, refl, subst (λ z. g x ≡ Some z) (ap (λ (r : Value × List Value). r.0) f) h.0, subst (λ l. Along g xs l) (ap (λ (r : Value × List Value). r.1) f) h.1)
pick_along g (suc i) (x ∷ xs) (b ∷ bs) z rest h e =
    let q = map_parts (pick i bs) (λ (p : Value × List Value). (p.0, b ∷ p.1)) (z, rest) e in
    let c : q.0.0 ≡ z = ap (λ (p : Value × List Value). p.0) q.2 in
    let d : b ∷ q.0.1 ≡ rest = ap (λ (p : Value × List Value). p.1) q.2 in
    let r = pick_along g i xs bs q.0.0 q.0.1 h.1 q.1 in
    (r.0, x ∷ r.1, ap (λ o. option_map (λ (p : Value × List Value). (p.0, x ∷ p.1)) o) r.2, subst (λ z. g r.0 ≡ Some z) c r.3, subst (λ l. Along g (x ∷ r.1) l) d (h.0, r.4))

arranged_along : (g : Value → Option Value) (is : List ℕ) (xs bs zs : List Value) → Along g xs bs → arranged is bs ≡ Some zs → (ys : List Value) × (arranged is xs ≡ Some ys) × Along g ys zs
arranged_along g [] [] [] zs h e = let a : [] ≡ zs = some_parts e in ([], refl, subst (λ l. Along g [] l) a tt)
arranged_along g [] [] (b ∷ bs) zs h e = absurd h
arranged_along g [] (x ∷ xs) [] zs h e = absurd h
arranged_along g [] (x ∷ xs) (b ∷ bs) zs h e = cc
arranged_along g (i ∷ is) xs bs zs h e =
    let q = arranged_parts i is bs zs e in
    let p = pick_along g i xs bs q.0 q.1 h q.3 in
    let r = arranged_along g is p.1 q.1 q.2 p.4 q.4 in
    (p.0 ∷ r.0, again p.0 p.1 r.0 p.2 r.1, subst (λ l. Along g (p.0 ∷ r.0) l) q.5 (p.3, r.2))
  where
    again : (x : Value) (rest us : List Value) → pick i xs ≡ Some (x, rest) → arranged is rest ≡ Some us → arranged (i ∷ is) xs ≡ Some (x ∷ us)
    again x rest us e f = rw (e, f) refl

each_lifted : (g : Value → Option Value) (ys zs xs : List Value) → Lifts g → Along g ys zs → EachSame xs zs → (ts : List Value) × Along g ts xs × EachSame ts ys
each_lifted g [] [] [] k h s = ([], tt, tt)
each_lifted g [] [] (x ∷ xs) k h s = absurd s
each_lifted g [] (z ∷ zs) xs k h s = absurd h
each_lifted g (y ∷ ys) [] xs k h s = absurd h
each_lifted g (y ∷ ys) (z ∷ zs) [] k h s = absurd s
each_lifted g (y ∷ ys) (z ∷ zs) (x ∷ xs) k h s =
    let a = k y z x h.0 s.0 in
    let r = each_lifted g ys zs xs k h.1 s.1 in
    (a.0 ∷ r.0, (a.1, r.1), (a.2, r.2))

bag_lifted : (g : Value → Option Value) (vs us xs : Values) → Lifts g → map_each g vs ≡ Some us → same (bag xs) (bag us) ≡ true →
    (ys : Values) × (map_each g ys ≡ Some xs) × (same (bag ys) (bag vs) ≡ true)
unfolding same
bag_lifted g vs us xs k e f =
    let m = bag_matched xs us f in
    let a = arranged_along g m.0 (listed vs) (listed us) m.1 (along_of g vs us e) m.2 in
    let l = each_lifted g a.0 m.1 (listed xs) k a.2 m.3 in
    let c : map_each g (values_of l.0) ≡ Some xs = of_along g l.0 (listed xs) l.1 ∙ ap Some (listed_again xs) in
    (values_of l.0, c, subst (λ ws. same (bag (values_of l.0)) (bag ws) ≡ true) (listed_again vs) (matched_same m.0 l.0 (listed vs) a.0 a.1 l.2))

-- ---- parts
abbrev PartsLifted : (Parts → Option Parts) → Parts → Parts → Type 0
PartsLifted g xs ps = (ys : Parts) × (g ys ≡ Some xs) × (same_parts ys ps ≡ true)

parts_self : (ps : Parts) → same_parts ps ps ≡ true
unfolding same
parts_self ps = (and_parts _ _ (same_self (fields ps end))).0

put_part : (o : Option Value) (w : Value) (p : Option Parts) (q : Parts) → o ≡ Some w → p ≡ Some q → option_and_then (λ w. option_map (λ q. present w q) p) o ≡ Some (present w q)
put_part o w p q e f = rw (e, f) refl

-- a value that is unchanged
itself : (g : Value → Option Value) (v u x : Value) → v ≡ u → g x ≡ Some x → same x u ≡ true → Lifted g x v
itself g v u x e f s = (x, f, subst (λ u. same x u ≡ true) (sym e) s)

none_same : {X : Type 0} (x u u' : Value) → u' ≡ u → same x u ≡ true → (same x u' ≡ true → X) → X
none_same x u u' e s k = k (subst (λ u. same x u ≡ true) (sym e) s)

false_true : {X : Type 0} → false ≡ true → X
false_true e = cc

fields_lifted : (ps qs ys zs : Parts) → same_parts ys ps ≡ true → same_parts zs qs ≡ true → same (fields ys zs) (fields ps qs) ≡ true
unfolding same
fields_lifted ps qs ys zs e f = and_from _ _ e f

chosen_lifted : (a : Bool) (i j : ℕ) (v y : Value) → j ≡ i → same y v ≡ true → same (chosen a j y) (chosen a i v) ≡ true
unfolding same
chosen_lifted true i j v y n e = and_from _ _ (eq-eqb j i n) e
chosen_lifted false i j v y n e = and_from _ _ (eq-eqb j i n) e

chosen_apart : (a b : Bool) (i j : ℕ) (u x : Value) → same (chosen b j x) (chosen a i u) ≡ true → (b ≡ a) × (j ≡ i) × (same x u ≡ true)
unfolding same
chosen_apart a b i j u x s =
    let p = and_parts _ _ s in
    let q = and_parts _ _ p.0 in
    (truths_equal b a q.0, eqb-true j i q.1, p.1)

item_there : (b : Bool) (v u : Value) → cond b (Some v) None ≡ Some u → (b ≡ true) × (v ≡ u)
item_there true v u e = (refl, some_parts e)
item_there false v u e = cc

item_kept : (b : Bool) (v : Value) → b ≡ true → cond b (Some v) None ≡ Some v
item_kept true v e = refl
item_kept false v e = cc

-- ---- what is dropped
mutual
  unfolding same same_parts Extends ExtendsEach ExtendsAlternatives carried carried_parts carried_alternative

  pub lessen_lifted : (s s' : Schema) (v u x : Value) → Extends s s' → carried false s s' v ≡ Some u → same x u ≡ true → Lifted (λ v. carried false s s' v) x v
  lessen_lifted (enumerated rs m ds) (enumerated rs' m' ds') (item n) u (item k) h e f =
      let a = item_there (is_some (item_place n rs) || is_some (item_place n ds)) (item n) u e in
      let q : same (item k) (item n) ≡ true = subst (λ u. same (item k) u ≡ true) (sym a.1) f in
      let j : k ≡ n = numbers_equal k n q in
      (item k, item_kept _ (item k) (subst (λ k. (is_some (item_place k rs) || is_some (item_place k ds)) ≡ true) (sym j) a.0), q)
  lessen_lifted (enumerated rs m ds) (enumerated rs' m' ds') (item n) u x h e f =
      let a = item_there (is_some (item_place n rs) || is_some (item_place n ds)) (item n) u e in
      none_same x u (item n) a.1 f (λ q. false_true q)
  lessen_lifted (enumerated rs m ds) (enumerated rs' m' ds') v u (item k) h e f = none_same (item k) u v (some_parts e) f (λ q. false_true q)
  lessen_lifted (enumerated rs m ds) (enumerated rs' m' ds') v u x h e f = itself _ v u x (some_parts e) refl f
  lessen_lifted (sequence_of z c s) (sequence_of z' c' s') (members vs) u (members xs) h e f =
      let a = map_parts (map_each (λ v. carried false s s' v) vs) members u e in
      let q : same (members xs) (members a.0) ≡ true = subst (λ u. same (members xs) u ≡ true) (sym a.2) f in
      let l = members_lifted (λ v. carried false s s' v) vs a.0 xs (λ v u x i j. lessen_lifted s s' v u x h.2 i j) a.1 q in
      (members l.0, ap (option_map members) l.1, l.2)
  lessen_lifted (sequence_of z c s) (sequence_of z' c' s') (members vs) u x h e f = let a =
      map_parts (map_each (λ v. carried false s s' v) vs) members u e in none_same x u (members a.0) a.2 f (λ q. false_true q)
  lessen_lifted (sequence_of z c s) (sequence_of z' c' s') v u (members xs) h e f = none_same (members xs) u v (some_parts e) f (λ q. false_true q)
  lessen_lifted (sequence_of z c s) (sequence_of z' c' s') v u x h e f = itself _ v u x (some_parts e) refl f
  lessen_lifted (set_of z c s) (set_of z' c' s') (bag vs) u (bag xs) h e f =
      let a = map_parts (map_each (λ v. carried false s s' v) vs) bag u e in
      let l = bag_lifted (λ v. carried false s s' v) vs a.0 xs (λ v u x i j. lessen_lifted s s' v u x h.2 i j) a.1 (subst (λ u. same (bag xs) u ≡ true) (sym a.2) f) in
      (bag l.0, ap (option_map bag) l.1, l.2)
  lessen_lifted (set_of z c s) (set_of z' c' s') (bag vs) u x h e f = let a = map_parts (map_each (λ v. carried false s s' v) vs) bag u e in none_same x u (bag a.0) a.2 f (λ q. false_true q)
  lessen_lifted (set_of z c s) (set_of z' c' s') v u (bag xs) h e f = none_same (bag xs) u v (some_parts e) f (λ q. false_true q)
  lessen_lifted (set_of z c s) (set_of z' c' s') v u x h e f = itself _ v u x (some_parts e) refl f
  lessen_lifted (sequence cs m adds) (sequence cs' m' adds') (fields ps qs) u (fields xs zs) h e f =
      let a = both_parts_parts (carried_parts false cs cs' ps) (carried_parts false adds adds' qs) u e in
      let q = and_parts _ _ (subst (λ u. same (fields xs zs) u ≡ true) (sym a.4) f) in
      let l = lessen_parts_lifted false cs cs' ps a.0 xs h.0 a.2 q.0 in
      let n = lessen_parts_lifted m adds adds' qs a.1 zs h.2 a.3 q.1 in
      (fields l.0 n.0, both_parts_from _ _ xs zs l.1 n.1, fields_lifted ps qs l.0 n.0 l.2 n.2)
  lessen_lifted (sequence cs m adds) (sequence cs' m' adds') (fields ps qs) u x h e f = let a =
      both_parts_parts (carried_parts false cs cs' ps) (carried_parts false adds adds' qs) u e in none_same x u (fields a.0 a.1) a.4 f (λ q. false_true q)
  lessen_lifted (sequence cs m adds) (sequence cs' m' adds') v u (fields xs zs) h e f = none_same (fields xs zs) u v (some_parts e) f (λ q. false_true q)
  lessen_lifted (sequence cs m adds) (sequence cs' m' adds') v u x h e f = itself _ v u x (some_parts e) refl f
  lessen_lifted (set cs m adds) (set cs' m' adds') (fields ps qs) u (fields xs zs) h e f =
      let a = both_parts_parts (carried_parts false cs cs' ps) (carried_parts false adds adds' qs) u e in
      let q = and_parts _ _ (subst (λ u. same (fields xs zs) u ≡ true) (sym a.4) f) in
      let l = lessen_parts_lifted false cs cs' ps a.0 xs h.0 a.2 q.0 in
      let n = lessen_parts_lifted m adds adds' qs a.1 zs h.2 a.3 q.1 in
      (fields l.0 n.0, both_parts_from _ _ xs zs l.1 n.1, fields_lifted ps qs l.0 n.0 l.2 n.2)
  lessen_lifted (set cs m adds) (set cs' m' adds') (fields ps qs) u x h e f = let a =
      both_parts_parts (carried_parts false cs cs' ps) (carried_parts false adds adds' qs) u e in none_same x u (fields a.0 a.1) a.4 f (λ q. false_true q)
  lessen_lifted (set cs m adds) (set cs' m' adds') v u (fields xs zs) h e f = none_same (fields xs zs) u v (some_parts e) f (λ q. false_true q)
  lessen_lifted (set cs m adds) (set cs' m' adds') v u x h e f = itself _ v u x (some_parts e) refl f
  lessen_lifted (group cs) (group cs') (fields ps qs) u (fields xs zs) h e f =
      let a = both_parts_parts (carried_parts false cs cs' ps) (Some qs) u e in
      let q = and_parts _ _ (subst (λ u. same (fields xs zs) u ≡ true) (sym a.4) f) in
      let l = lessen_parts_lifted false cs cs' ps a.0 xs h a.2 q.0 in
      (fields l.0 zs, both_parts_from _ _ xs zs l.1 refl, fields_lifted ps qs l.0 zs l.2 (subst (λ qs. same_parts zs qs ≡ true) (sym (some_parts a.3)) q.1))
  lessen_lifted (group cs) (group cs') (fields ps qs) u x h e f = let a = both_parts_parts (carried_parts false cs cs' ps) (Some qs) u e in none_same x u (fields a.0 a.1) a.4 f (λ q. false_true q)
  lessen_lifted (group cs) (group cs') v u (fields xs zs) h e f = none_same (fields xs zs) u v (some_parts e) f (λ q. false_true q)
  lessen_lifted (group cs) (group cs') v u x h e f = itself _ v u x (some_parts e) refl f
  lessen_lifted (choice roots m adds) (choice roots' m' adds') (chosen false i v) u (chosen b j x) h e f =
      let a = map_parts (carried_alternative false roots roots' i v) (λ w. chosen false i w) u e in
      let q = chosen_apart false b i j a.0 x (subst (λ u. same (chosen b j x) u ≡ true) (sym a.2) f) in
      let l = lessen_alternative_lifted false roots roots' i v a.0 x h.0 a.1 q.2 in
      (chosen false i l.0, ap (option_map (λ w. chosen false i w)) l.1 ∙ ap (λ k. Some (chosen false k x)) (sym q.1) ∙ ap (λ b. Some (chosen b j x)) (sym q.0), chosen_lifted false i i v l.0 refl l.2)
  lessen_lifted (choice roots m adds) (choice roots' m' adds') (chosen true i v) u (chosen b j x) h e f =
      let a = map_parts (carried_alternative false adds adds' i v) (λ w. chosen true i w) u e in
      let q = chosen_apart true b i j a.0 x (subst (λ u. same (chosen b j x) u ≡ true) (sym a.2) f) in
      let l = lessen_alternative_lifted m adds adds' i v a.0 x h.2 a.1 q.2 in
      (chosen true i l.0, ap (option_map (λ w. chosen true i w)) l.1 ∙ ap (λ k. Some (chosen true k x)) (sym q.1) ∙ ap (λ b. Some (chosen b j x)) (sym q.0), chosen_lifted true i i v l.0 refl l.2)
  lessen_lifted (choice roots m adds) (choice roots' m' adds') (chosen false i v) u x h e f = let a =
      map_parts (carried_alternative false roots roots' i v) (λ w. chosen false i w) u e in none_same x u (chosen false i a.0) a.2 f (λ q. false_true q)
  lessen_lifted (choice roots m adds) (choice roots' m' adds') (chosen true i v) u x h e f = let a =
      map_parts (carried_alternative false adds adds' i v) (λ w. chosen true i w) u e in none_same x u (chosen true i a.0) a.2 f (λ q. false_true q)
  lessen_lifted (choice roots m adds) (choice roots' m' adds') v u (chosen b j x) h e f = none_same (chosen b j x) u v (some_parts e) f (λ q. false_true q)
  lessen_lifted (choice roots m adds) (choice roots' m' adds') v u x h e f = itself _ v u x (some_parts e) refl f
  lessen_lifted cut s' v u x h e f = itself _ v u x (some_parts e) refl f
  lessen_lifted boolean s' v u x h e f = itself _ v u x (some_parts e) refl f
  lessen_lifted null s' v u x h e f = itself _ v u x (some_parts e) refl f
  lessen_lifted object_identifier s' v u x h e f = itself _ v u x (some_parts e) refl f
  lessen_lifted (integer b c) s' v u x h e f = itself _ v u x (some_parts e) refl f
  lessen_lifted (bit_string z c) s' v u x h e f = itself _ v u x (some_parts e) refl f
  lessen_lifted (octet_string z c) s' v u x h e f = itself _ v u x (some_parts e) refl f
  lessen_lifted (character_string k z a c) s' v u x h e f = itself _ v u x (some_parts e) refl f
  lessen_lifted s s' v u x h e f = absurd h

  lessen_parts_lifted : (more : Bool) (cs cs' : Components) (ps us xs : Parts) → ExtendsEach more cs cs' →
      carried_parts false cs cs' ps ≡ Some us → same_parts xs us ≡ true → PartsLifted (λ ps. carried_parts false cs cs' ps) xs ps
  lessen_parts_lifted more no_component cs' ps us end h e f = (ps, refl, parts_self ps)
  lessen_parts_lifted more no_component cs' ps us (absent xs) h e f = let q : same_parts (absent xs) end ≡ true = subst (λ us. same_parts (absent xs) us ≡ true) (sym (some_parts e)) f in false_true q
  lessen_parts_lifted more no_component cs' ps us (present x xs) h e f = let q : same_parts (present x xs) end ≡ true =
      subst (λ us. same_parts (present x xs) us ≡ true) (sym (some_parts e)) f in false_true q
  lessen_parts_lifted more (component t o s cs) no_component ps us xs h e f = absurd h
  lessen_parts_lifted more (component t o s cs) (component t' o' s' cs') end us xs h e f = cc
  lessen_parts_lifted more (component t o s cs) (component t' o' s' cs') (absent ps) us (absent xs) h e f =
      let a = map_parts (carried_parts false cs cs' ps) absent us e in
      let l = lessen_parts_lifted more cs cs' ps a.0 xs h.3 a.1 (subst (λ us. same_parts (absent xs) us ≡ true) (sym a.2) f) in
      (absent l.0, ap (option_map absent) l.1, l.2)
  lessen_parts_lifted more (component t o s cs) (component t' o' s' cs') (absent ps) us xs h e f =
      let a = map_parts (carried_parts false cs cs' ps) absent us e in
      let q : same_parts xs (absent a.0) ≡ true = subst (λ us. same_parts xs us ≡ true) (sym a.2) f in
      false_true q
  lessen_parts_lifted more (component t o s cs) (component t' o' s' cs') (present v ps) us (present x xs) h e f =
      let d = chain_parts (carried false s s' v) (λ w. option_map (λ rs. present w rs) (carried_parts false cs cs' ps)) us e in
      let a = map_parts (carried_parts false cs cs' ps) (λ rs. present d.0 rs) us d.2 in
      let q = and_parts _ _ (subst (λ us. same_parts (present x xs) us ≡ true) (sym a.2) f) in
      let k = lessen_lifted s s' v d.0 x h.2 d.1 q.0 in
      let l = lessen_parts_lifted more cs cs' ps a.0 xs h.3 a.1 q.1 in
      (present k.0 l.0, put_part _ x _ xs k.1 l.1, and_from _ _ k.2 l.2)
  lessen_parts_lifted more (component t o s cs) (component t' o' s' cs') (present v ps) us xs h e f =
      let d = chain_parts (carried false s s' v) (λ w. option_map (λ rs. present w rs) (carried_parts false cs cs' ps)) us e in
      let a = map_parts (carried_parts false cs cs' ps) (λ rs. present d.0 rs) us d.2 in
      let q : same_parts xs (present d.0 a.0) ≡ true = subst (λ us. same_parts xs us ≡ true) (sym a.2) f in
      false_true q

  lessen_alternative_lifted : (more : Bool) (others others' : Alternatives) (i : ℕ) (v u x : Value) →
      ExtendsAlternatives more others others' → carried_alternative false others others' i v ≡ Some u → same x u ≡ true → Lifted (λ v. carried_alternative false others others' i v) x v
  lessen_alternative_lifted more no_alternative others' i v u x h e f = cc
  lessen_alternative_lifted more (alternative t s others) no_alternative i v u x h e f = absurd h
  lessen_alternative_lifted more (alternative t s others) (alternative t' s' others') zero v u x h e f = lessen_lifted s s' v u x h.1 e f
  lessen_alternative_lifted more (alternative t s others) (alternative t' s' others') (suc i) v u x h e f = lessen_alternative_lifted more others others' i v u x h.2 e f

-- ---- what is grown
absent_equal : (cs : Components) (us xs : Parts) → all_absent cs ≡ Some us → same_parts xs us ≡ true → xs ≡ us
unfolding same_parts
absent_equal no_component us end e f = some_parts e
absent_equal no_component us (absent xs) e f = let q : same_parts (absent xs) end ≡ true = subst (λ us. same_parts (absent xs) us ≡ true) (sym (some_parts e)) f in false_true q
absent_equal no_component us (present x xs) e f = let q : same_parts (present x xs) end ≡ true = subst (λ us. same_parts (present x xs) us ≡ true) (sym (some_parts e)) f in false_true q
absent_equal (component t o s cs) us (absent xs) e f =
    let a = absent_of o s t cs us e in
    ap absent (absent_equal cs a.0 xs a.1 (subst (λ us. same_parts (absent xs) us ≡ true) (sym a.2) f)) ∙ a.2
absent_equal (component t o s cs) us xs e f =
    let a = absent_of o s t cs us e in
    let q : same_parts xs (absent a.0) ≡ true = subst (λ us. same_parts xs us ≡ true) (sym a.2) f in
    false_true q

mutual
  unfolding same same_parts Extends ExtendsEach ExtendsAlternatives carried carried_parts carried_alternative

  pub grow_lifted : (s s' : Schema) (v u x : Value) → Extends s s' → grow s s' v ≡ Some u → same x u ≡ true → Lifted (λ v. grow s s' v) x v
  grow_lifted (sequence_of z c s) (sequence_of z' c' s') (members vs) u (members xs) h e f =
      let a = map_parts (map_each (λ v. grow s s' v) vs) members u e in
      let q : same (members xs) (members a.0) ≡ true = subst (λ u. same (members xs) u ≡ true) (sym a.2) f in
      let l = members_lifted (λ v. grow s s' v) vs a.0 xs (λ v u x i j. grow_lifted s s' v u x h.2 i j) a.1 q in
      (members l.0, ap (option_map members) l.1, l.2)
  grow_lifted (sequence_of z c s) (sequence_of z' c' s') (members vs) u x h e f = let a =
      map_parts (map_each (λ v. grow s s' v) vs) members u e in none_same x u (members a.0) a.2 f (λ q. false_true q)
  grow_lifted (sequence_of z c s) (sequence_of z' c' s') v u (members xs) h e f = none_same (members xs) u v (some_parts e) f (λ q. false_true q)
  grow_lifted (sequence_of z c s) (sequence_of z' c' s') v u x h e f = itself _ v u x (some_parts e) refl f
  grow_lifted (set_of z c s) (set_of z' c' s') (bag vs) u (bag xs) h e f =
      let a = map_parts (map_each (λ v. grow s s' v) vs) bag u e in
      let l = bag_lifted (λ v. grow s s' v) vs a.0 xs (λ v u x i j. grow_lifted s s' v u x h.2 i j) a.1 (subst (λ u. same (bag xs) u ≡ true) (sym a.2) f) in
      (bag l.0, ap (option_map bag) l.1, l.2)
  grow_lifted (set_of z c s) (set_of z' c' s') (bag vs) u x h e f = let a = map_parts (map_each (λ v. grow s s' v) vs) bag u e in none_same x u (bag a.0) a.2 f (λ q. false_true q)
  grow_lifted (set_of z c s) (set_of z' c' s') v u (bag xs) h e f = none_same (bag xs) u v (some_parts e) f (λ q. false_true q)
  grow_lifted (set_of z c s) (set_of z' c' s') v u x h e f = itself _ v u x (some_parts e) refl f
  grow_lifted (sequence cs m adds) (sequence cs' m' adds') (fields ps qs) u (fields xs zs) h e f =
      let a = both_parts_parts (carried_parts true cs cs' ps) (carried_parts true adds adds' qs) u e in
      let q = and_parts _ _ (subst (λ u. same (fields xs zs) u ≡ true) (sym a.4) f) in
      let l = grow_parts_lifted false cs cs' ps a.0 xs h.0 a.2 q.0 in
      let n = grow_parts_lifted m adds adds' qs a.1 zs h.2 a.3 q.1 in
      (fields l.0 n.0, both_parts_from _ _ xs zs l.1 n.1, fields_lifted ps qs l.0 n.0 l.2 n.2)
  grow_lifted (sequence cs m adds) (sequence cs' m' adds') (fields ps qs) u x h e f = let a =
      both_parts_parts (carried_parts true cs cs' ps) (carried_parts true adds adds' qs) u e in none_same x u (fields a.0 a.1) a.4 f (λ q. false_true q)
  grow_lifted (sequence cs m adds) (sequence cs' m' adds') v u (fields xs zs) h e f = none_same (fields xs zs) u v (some_parts e) f (λ q. false_true q)
  grow_lifted (sequence cs m adds) (sequence cs' m' adds') v u x h e f = itself _ v u x (some_parts e) refl f
  grow_lifted (set cs m adds) (set cs' m' adds') (fields ps qs) u (fields xs zs) h e f =
      let a = both_parts_parts (carried_parts true cs cs' ps) (carried_parts true adds adds' qs) u e in
      let q = and_parts _ _ (subst (λ u. same (fields xs zs) u ≡ true) (sym a.4) f) in
      let l = grow_parts_lifted false cs cs' ps a.0 xs h.0 a.2 q.0 in
      let n = grow_parts_lifted m adds adds' qs a.1 zs h.2 a.3 q.1 in
      (fields l.0 n.0, both_parts_from _ _ xs zs l.1 n.1, fields_lifted ps qs l.0 n.0 l.2 n.2)
  grow_lifted (set cs m adds) (set cs' m' adds') (fields ps qs) u x h e f = let a =
      both_parts_parts (carried_parts true cs cs' ps) (carried_parts true adds adds' qs) u e in none_same x u (fields a.0 a.1) a.4 f (λ q. false_true q)
  grow_lifted (set cs m adds) (set cs' m' adds') v u (fields xs zs) h e f = none_same (fields xs zs) u v (some_parts e) f (λ q. false_true q)
  grow_lifted (set cs m adds) (set cs' m' adds') v u x h e f = itself _ v u x (some_parts e) refl f
  grow_lifted (group cs) (group cs') (fields ps qs) u (fields xs zs) h e f =
      let a = both_parts_parts (carried_parts true cs cs' ps) (Some qs) u e in
      let q = and_parts _ _ (subst (λ u. same (fields xs zs) u ≡ true) (sym a.4) f) in
      let l = grow_parts_lifted false cs cs' ps a.0 xs h a.2 q.0 in
      (fields l.0 zs, both_parts_from _ _ xs zs l.1 refl, fields_lifted ps qs l.0 zs l.2 (subst (λ qs. same_parts zs qs ≡ true) (sym (some_parts a.3)) q.1))
  grow_lifted (group cs) (group cs') (fields ps qs) u x h e f = let a = both_parts_parts (carried_parts true cs cs' ps) (Some qs) u e in none_same x u (fields a.0 a.1) a.4 f (λ q. false_true q)
  grow_lifted (group cs) (group cs') v u (fields xs zs) h e f = none_same (fields xs zs) u v (some_parts e) f (λ q. false_true q)
  grow_lifted (group cs) (group cs') v u x h e f = itself _ v u x (some_parts e) refl f
  grow_lifted (choice roots m adds) (choice roots' m' adds') (chosen false i v) u (chosen b j x) h e f =
      let a = map_parts (carried_alternative true roots roots' i v) (λ w. chosen false i w) u e in
      let q = chosen_apart false b i j a.0 x (subst (λ u. same (chosen b j x) u ≡ true) (sym a.2) f) in
      let l = grow_alternative_lifted false roots roots' i v a.0 x h.0 a.1 q.2 in
      (chosen false i l.0, ap (option_map (λ w. chosen false i w)) l.1 ∙ ap (λ k. Some (chosen false k x)) (sym q.1) ∙ ap (λ b. Some (chosen b j x)) (sym q.0), chosen_lifted false i i v l.0 refl l.2)
  grow_lifted (choice roots m adds) (choice roots' m' adds') (chosen true i v) u (chosen b j x) h e f =
      let a = map_parts (carried_alternative true adds adds' i v) (λ w. chosen true i w) u e in
      let q = chosen_apart true b i j a.0 x (subst (λ u. same (chosen b j x) u ≡ true) (sym a.2) f) in
      let l = grow_alternative_lifted m adds adds' i v a.0 x h.2 a.1 q.2 in
      (chosen true i l.0, ap (option_map (λ w. chosen true i w)) l.1 ∙ ap (λ k. Some (chosen true k x)) (sym q.1) ∙ ap (λ b. Some (chosen b j x)) (sym q.0), chosen_lifted true i i v l.0 refl l.2)
  grow_lifted (choice roots m adds) (choice roots' m' adds') (chosen false i v) u x h e f = let a =
      map_parts (carried_alternative true roots roots' i v) (λ w. chosen false i w) u e in none_same x u (chosen false i a.0) a.2 f (λ q. false_true q)
  grow_lifted (choice roots m adds) (choice roots' m' adds') (chosen true i v) u x h e f = let a =
      map_parts (carried_alternative true adds adds' i v) (λ w. chosen true i w) u e in none_same x u (chosen true i a.0) a.2 f (λ q. false_true q)
  grow_lifted (choice roots m adds) (choice roots' m' adds') v u (chosen b j x) h e f = none_same (chosen b j x) u v (some_parts e) f (λ q. false_true q)
  grow_lifted (choice roots m adds) (choice roots' m' adds') v u x h e f = itself _ v u x (some_parts e) refl f
  grow_lifted cut s' v u x h e f = itself _ v u x (some_parts e) refl f
  grow_lifted boolean s' v u x h e f = itself _ v u x (some_parts e) refl f
  grow_lifted null s' v u x h e f = itself _ v u x (some_parts e) refl f
  grow_lifted object_identifier s' v u x h e f = itself _ v u x (some_parts e) refl f
  grow_lifted (integer b c) s' v u x h e f = itself _ v u x (some_parts e) refl f
  grow_lifted (enumerated rs m ds) s' v u x h e f = itself _ v u x (some_parts e) refl f
  grow_lifted (bit_string z c) s' v u x h e f = itself _ v u x (some_parts e) refl f
  grow_lifted (octet_string z c) s' v u x h e f = itself _ v u x (some_parts e) refl f
  grow_lifted (character_string k z a c) s' v u x h e f = itself _ v u x (some_parts e) refl f
  grow_lifted s s' v u x h e f = absurd h

  grow_parts_lifted : (more : Bool) (cs cs' : Components) (ps us xs : Parts) → ExtendsEach more cs cs' →
      carried_parts true cs cs' ps ≡ Some us → same_parts xs us ≡ true → PartsLifted (λ ps. carried_parts true cs cs' ps) xs ps
  grow_parts_lifted more no_component cs' end us xs h e f = (end, e ∙ ap Some (sym (absent_equal cs' us xs e f)), refl)
  grow_parts_lifted more no_component cs' (absent ps) us xs h e f = cc
  grow_parts_lifted more no_component cs' (present v ps) us xs h e f = cc
  grow_parts_lifted more (component t o s cs) no_component ps us xs h e f = absurd h
  grow_parts_lifted more (component t o s cs) (component t' o' s' cs') end us xs h e f = cc
  grow_parts_lifted more (component t o s cs) (component t' o' s' cs') (absent ps) us (absent xs) h e f =
      let a = map_parts (carried_parts true cs cs' ps) absent us e in
      let l = grow_parts_lifted more cs cs' ps a.0 xs h.3 a.1 (subst (λ us. same_parts (absent xs) us ≡ true) (sym a.2) f) in
      (absent l.0, ap (option_map absent) l.1, l.2)
  grow_parts_lifted more (component t o s cs) (component t' o' s' cs') (absent ps) us xs h e f =
      let a = map_parts (carried_parts true cs cs' ps) absent us e in
      let q : same_parts xs (absent a.0) ≡ true = subst (λ us. same_parts xs us ≡ true) (sym a.2) f in
      false_true q
  grow_parts_lifted more (component t o s cs) (component t' o' s' cs') (present v ps) us (present x xs) h e f =
      let d = chain_parts (grow s s' v) (λ w. option_map (λ rs. present w rs) (carried_parts true cs cs' ps)) us e in
      let a = map_parts (carried_parts true cs cs' ps) (λ rs. present d.0 rs) us d.2 in
      let q = and_parts _ _ (subst (λ us. same_parts (present x xs) us ≡ true) (sym a.2) f) in
      let k = grow_lifted s s' v d.0 x h.2 d.1 q.0 in
      let l = grow_parts_lifted more cs cs' ps a.0 xs h.3 a.1 q.1 in
      (present k.0 l.0, put_part _ x _ xs k.1 l.1, and_from _ _ k.2 l.2)
  grow_parts_lifted more (component t o s cs) (component t' o' s' cs') (present v ps) us xs h e f =
      let d = chain_parts (grow s s' v) (λ w. option_map (λ rs. present w rs) (carried_parts true cs cs' ps)) us e in
      let a = map_parts (carried_parts true cs cs' ps) (λ rs. present d.0 rs) us d.2 in
      let q : same_parts xs (present d.0 a.0) ≡ true = subst (λ us. same_parts xs us ≡ true) (sym a.2) f in
      false_true q

  grow_alternative_lifted : (more : Bool) (others others' : Alternatives) (i : ℕ) (v u x : Value) →
      ExtendsAlternatives more others others' → carried_alternative true others others' i v ≡ Some u → same x u ≡ true → Lifted (λ v. carried_alternative true others others' i v) x v
  grow_alternative_lifted more no_alternative others' i v u x h e f = cc
  grow_alternative_lifted more (alternative t s others) no_alternative i v u x h e f = absurd h
  grow_alternative_lifted more (alternative t s others) (alternative t' s' others') zero v u x h e f = grow_lifted s s' v u x h.1 e f
  grow_alternative_lifted more (alternative t s others) (alternative t' s' others') (suc i) v u x h e f = grow_alternative_lifted more others others' i v u x h.2 e f
