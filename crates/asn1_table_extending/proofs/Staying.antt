-- A value of two versions of a type is carried over unchanged.
use Rattle.std.proofs.Common.{◌≡◌, ℕ, zero, suc, Bool, true, false, cond, not, ◌&&◌, ◌==◌, Option, Some, None, option_map, option_and_then, refl, ap, sym, ◌∙◌, subst}
use Rattle.std.proofs.lemmas.Bool.{and_parts, and_from, eqb-true}
use Rattle.asn1_model.specs.Value.{Value, members, bag, fields, chosen, Values, no_more, member, Parts, end, absent, present, are_all}
use Rattle.asn1_model.specs.Value.{same, same_members, same_bag, same_parts, same_truth, taken_out}
use Rattle.asn1_model.specs.Schema.{Schema, sequence_of, set_of, sequence, set, group, choice, Components, no_component}
use Rattle.asn1_model.specs.Schema.{component, Alternatives, no_alternative, alternative}
use Rattle.asn1_model.specs.Lawful.{is_of, are_of, is_of_alternative, member_count}
use Rattle.asn1_model.specs.Normal.{is_required}
use Rattle.asn1_model.specs.Numbers.{is_count_within}
use Rattle.asn1_model.proofs.Forms.{map_parts}
use Rattle.asn1_laws_values.proofs.Counts.{rest_parts}
use Rattle.asn1_laws_values.proofs.Messages.{some_parts}
use Rattle.asn1_model.specs.Versions.{carried, map_each, both_parts, grow, carried_parts, carried_alternative, Extends, ExtendsEach, ExtendsAlternatives}

-- ---- elements

-- two tests, of elements of each version, by which an element that is the same stays
abbrev pub Keeps : (Value → Option Value) → (Value → Bool) → (Value → Bool) → Type 0
Keeps f p q = (v w : Value) → p v ≡ true → q w ≡ true → same v w ≡ true → f v ≡ Some v

one_more : (f : Value → Option Value) (v : Value) (vs : Values) → f v ≡ Some v → map_each f vs ≡ Some vs → map_each f (member v vs) ≡ Some (member v vs)
one_more f v vs a b = rw (a, b) refl

members_stay : (f : Value → Option Value) (p q : Value → Bool) → Keeps f p q → (vs ws : Values) → are_all p vs ≡ true → are_all q ws ≡ true → same_members vs ws ≡ true → map_each f vs ≡ Some vs
unfolding same_members
members_stay f p q k no_more ws a b e = refl
members_stay f p q k (member v vs) no_more a b e = cc
members_stay f p q k (member v vs) (member w ws) a b e =
    let x = and_parts (p v) (are_all p vs) a in
    let y = and_parts (q w) (are_all q ws) b in
    let z = and_parts (same v w) (same_members vs ws) e in
    one_more f v vs (k v w x.0 y.0 z.0) (members_stay f p q k vs ws x.1 y.1 z.1)

-- an element that was taken out passes the test, and so do it and the rest another that all pass
taken : (f q : Value → Bool) (ws rest : Values) → are_all q ws ≡ true → taken_out f ws ≡ Some rest → (w : Value) × (f w ≡ true) × (q w ≡ true) × (are_all q rest ≡ true)
taken f q no_more rest b e = cc
taken f q (member w ws) rest b e = go (f w) refl e (λ us h. taken f q ws us y.1 h)
  where
    y : (q w ≡ true) × (are_all q ws ≡ true)
    y = and_parts (q w) (are_all q ws) b

    go : (t : Bool) → f w ≡ t → cond t (Some ws) (option_map (λ us. member w us) (taken_out f ws)) ≡ Some rest →
        ((us : Values) → taken_out f ws ≡ Some us → (u : Value) × (f u ≡ true) × (q u ≡ true) × (are_all q us ≡ true)) →
        (u : Value) × (f u ≡ true) × (q u ≡ true) × (are_all q rest ≡ true)
    go true h i k = (w, h, y.0, subst (λ us. are_all q us ≡ true) (some_parts i) y.1)
    go false h i k =
        let m = map_parts (taken_out f ws) (λ us. member w us) rest i in
        let r = k m.0 m.1 in
        (r.0, r.1, r.2, subst (λ us. are_all q us ≡ true) m.2 (and_from _ _ y.0 r.3))

bag_stays : (f : Value → Option Value) (p q : Value → Bool) → Keeps f p q → (vs ws : Values) → are_all p vs ≡ true → are_all q ws ≡ true → same_bag vs ws ≡ true → map_each f vs ≡ Some vs
unfolding same_bag
bag_stays f p q k no_more ws a b e = refl
bag_stays f p q k (member v vs) ws a b e =
    let x = and_parts (p v) (are_all p vs) a in
    let r = rest_parts (taken_out (λ w. same v w) ws) (λ rest. same_bag vs rest) e in
    let t = taken (λ w. same v w) q ws r.0 b r.1 in
    one_more f v vs (k v t.0 x.0 t.2 t.1) (bag_stays f p q k vs r.0 x.1 t.3 r.2)

-- ---- parts
both_stay : (o u : Option Parts) (ps qs : Parts) → o ≡ Some ps → u ≡ Some qs → both_parts o u ≡ Some (fields ps qs)
both_stay o u ps qs e f = rw (e, f) refl

part_stays : (o : Option Value) (u : Option Parts) (v : Value) (ps : Parts) → o ≡ Some v → u ≡ Some ps → option_and_then (λ w. option_map (λ qs. present w qs) u) o ≡ Some (present v ps)
part_stays o u v ps e f = rw (e, f) refl

-- ---- types
mutual
  unfolding carried carried_parts carried_alternative is_of are_of is_of_alternative Extends ExtendsEach ExtendsAlternatives same same_parts

  -- a value of both versions is carried over unchanged
  pub stays : (s s' : Schema) (v w : Value) → Extends s s' → is_of s v ≡ true → is_of s' w ≡ true → same v w ≡ true → grow s s' v ≡ Some v
  stays (sequence_of z h s) (sequence_of z' h' s') (members vs) (members ws) x e f q =
      ap (option_map members) (members_stay (λ v. grow s s' v) (λ v. is_of s v) (λ w. is_of s' w) (λ v w a b c. stays s s' v w x.2 a b c) vs ws
      ((and_parts (is_count_within h (member_count vs)) (are_all (λ v. is_of s v) vs) e).1)
      ((and_parts (is_count_within h' (member_count ws)) (are_all (λ w. is_of s' w) ws) f).1) q)
  stays (sequence_of z h s) (sequence_of z' h' s') (members vs) w x e f q = cc
  stays (sequence_of z h s) (sequence_of z' h' s') v w x e f q = refl
  stays (sequence_of z h s) s' v w x e f q = absurd x
  stays (set_of z h s) (set_of z' h' s') (bag vs) (bag ws) x e f q =
      ap (option_map bag) (bag_stays (λ v. grow s s' v) (λ v. is_of s v) (λ w. is_of s' w) (λ v w a b c. stays s s' v w x.2 a b c) vs ws
      ((and_parts (is_count_within h (member_count vs)) (are_all (λ v. is_of s v) vs) e).1)
      ((and_parts (is_count_within h' (member_count ws)) (are_all (λ w. is_of s' w) ws) f).1) q)
  stays (set_of z h s) (set_of z' h' s') (bag vs) w x e f q = cc
  stays (set_of z h s) (set_of z' h' s') v w x e f q = refl
  stays (set_of z h s) s' v w x e f q = absurd x
  stays (sequence cs e adds) (sequence cs' e' adds') (fields ps qs) (fields rs ss) x a b q =
      let y = and_parts (are_of cs ps) (are_of adds qs) a in
      let z = and_parts (are_of cs' rs) (are_of adds' ss) b in
      let u = and_parts (same_parts ps rs) (same_parts qs ss) q in
      both_stay _ _ ps qs (parts_stay false cs cs' ps rs x.0 y.0 z.0 u.0) (parts_stay e adds adds' qs ss x.2 y.1 z.1 u.1)
  stays (sequence cs e adds) (sequence cs' e' adds') (fields ps qs) w x a b q = cc
  stays (sequence cs e adds) (sequence cs' e' adds') v w x a b q = refl
  stays (sequence cs e adds) s' v w x a b q = absurd x
  stays (set cs e adds) (set cs' e' adds') (fields ps qs) (fields rs ss) x a b q =
      let y = and_parts (are_of cs ps) (are_of adds qs) a in
      let z = and_parts (are_of cs' rs) (are_of adds' ss) b in
      let u = and_parts (same_parts ps rs) (same_parts qs ss) q in
      both_stay _ _ ps qs (parts_stay false cs cs' ps rs x.0 y.0 z.0 u.0) (parts_stay e adds adds' qs ss x.2 y.1 z.1 u.1)
  stays (set cs e adds) (set cs' e' adds') (fields ps qs) w x a b q = cc
  stays (set cs e adds) (set cs' e' adds') v w x a b q = refl
  stays (set cs e adds) s' v w x a b q = absurd x
  stays (group cs) (group cs') (fields ps end) (fields rs end) x a b q =
      let u = and_parts (same_parts ps rs) (same_parts end end) q in
      both_stay _ _ ps end (parts_stay false cs cs' ps rs x a b u.0) refl
  stays (group cs) (group cs') (fields ps end) w x a b q = cc
  stays (group cs) (group cs') v w x a b q = cc
  stays (group cs) s' v w x a b q = absurd x
  stays (choice roots e adds) (choice roots' e' adds') (chosen false i v) (chosen false j w) x a b q =
      let u = and_parts (i == j) (same v w) q in
      ap (option_map (λ w. chosen false i w))
      (alternative_stays false roots roots' i v w x.0 a (subst (λ k. is_of_alternative roots' k w ≡ true) (sym (eqb-true i j u.0)) b) u.1)
  stays (choice roots e adds) (choice roots' e' adds') (chosen true i v) (chosen true j w) x a b q =
      let u = and_parts (i == j) (same v w) q in
      let y = and_parts e (is_of_alternative adds i v) a in
      let z = and_parts e' (is_of_alternative adds' j w) b in
      ap (option_map (λ w. chosen true i w))
      (alternative_stays e adds adds' i v w x.2 y.1 (subst (λ k. is_of_alternative adds' k w ≡ true) (sym (eqb-true i j u.0)) z.1) u.1)
  stays (choice roots e adds) (choice roots' e' adds') (chosen false i v) w x a b q = cc
  stays (choice roots e adds) (choice roots' e' adds') (chosen true i v) w x a b q = cc
  stays (choice roots e adds) (choice roots' e' adds') v w x a b q = refl
  stays (choice roots e adds) s' v w x a b q = absurd x
  stays s s' v w x e f q = refl

  parts_stay : (more : Bool) (cs cs' : Components) (ps rs : Parts) → ExtendsEach more cs cs' → are_of cs ps ≡ true → are_of cs' rs ≡ true → same_parts ps rs ≡ true →
      carried_parts true cs cs' ps ≡ Some ps
  parts_stay more no_component no_component end rs x a b q = refl
  parts_stay more no_component (component t' o' s' cs') end end x a b q = cc
  parts_stay more no_component (component t' o' s' cs') end rs x a b q = cc
  parts_stay more no_component cs' ps rs x a b q = cc
  parts_stay more (component t o s cs) (component t' o' s' cs') (present v ps) (present w rs) x a b q =
      let y = and_parts (is_of s v) (are_of cs ps) a in
      let z = and_parts (is_of s' w) (are_of cs' rs) b in
      let u = and_parts (same v w) (same_parts ps rs) q in
      part_stays (grow s s' v) (carried_parts true cs cs' ps) v ps (stays s s' v w x.2 y.0 z.0 u.0) (parts_stay more cs cs' ps rs x.3 y.1 z.1 u.1)
  parts_stay more (component t o s cs) (component t' o' s' cs') (absent ps) (absent rs) x a b q =
      let y = and_parts (not (is_required o)) (are_of cs ps) a in
      let z = and_parts (not (is_required o')) (are_of cs' rs) b in
      ap (option_map absent) (parts_stay more cs cs' ps rs x.3 y.1 z.1 q)
  parts_stay more (component t o s cs) (component t' o' s' cs') ps rs x a b q = cc
  parts_stay more (component t o s cs) no_component ps rs x a b q = absurd x

  alternative_stays : (more : Bool) (others others' : Alternatives) (i : ℕ) (v w : Value) → ExtendsAlternatives more others others' →
      is_of_alternative others i v ≡ true → is_of_alternative others' i w ≡ true → same v w ≡ true → carried_alternative true others others' i v ≡ Some v
  alternative_stays more no_alternative others' i v w x a b q = cc
  alternative_stays more (alternative t s others) (alternative t' s' others') zero v w x a b q = stays s s' v w x.1 a b q
  alternative_stays more (alternative t s others) (alternative t' s' others') (suc i) v w x a b q = alternative_stays more others others' i v w x.2 a b q
  alternative_stays more (alternative t s others) no_alternative i v w x a b q = absurd x
