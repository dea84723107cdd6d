-- A value that is carried over to a newer version, and then reduced to what the older one knows, is unchanged.
use Rattle.std.proofs.Common.{◌≡◌, ℕ, zero, suc, Bool, true, false, cond, ◌&&◌, ◌||◌, Option, Some, None, option_map, option_and_then, refl, ap, sym, ◌∙◌, subst}
use Rattle.std.proofs.lemmas.Bool.{and_parts}
use Rattle.asn1_model.specs.Value.{Value, item, members, bag, fields, chosen, Values, no_more, member, Parts, end, absent, present}
use Rattle.asn1_model.specs.Schema.{Schema, enumerated, sequence_of, set_of, sequence, set, group, choice, Components, no_component, component, Alternatives, alternative}
use Rattle.asn1_model.specs.Value.{are_all}
use Rattle.asn1_model.specs.Tidy.{is_normal}
use Rattle.std.specs.Prelude.{is_some}
use Rattle.asn1_model.specs.Normal.{item_place}
use Rattle.asn1_model.specs.Lawful.{is_of, are_of, is_of_alternative}
use Rattle.asn1_model.specs.Versions.{carried, grow, carried_parts, carried_alternative, drop, map_each, Extends}
use Rattle.asn1_model.proofs.Forms.{chain_parts, map_parts}
use Rattle.asn1_laws_values.proofs.Messages.{some_parts}
use Rattle.asn1_laws_values.proofs.Normal.{normal_stays}
use Rattle.asn1_laws_versions.proofs.Extending.{both_parts_parts, both_parts_from}
use Rattle.asn1_laws_versions.proofs.Grown.{each_of, each_again}
use Rattle.asn1_laws_versions.proofs.Normals.{grown_is_normal}

known : (a e b : Bool) (v : Value) → (a || (e && b)) ≡ true → cond (a || b) (Some v) None ≡ Some v
known true e b v h = refl
known false true b v h = ap (λ t. cond t (Some v) None) h
known false false b v h = cc

members_back : (g f : Value → Option Value) (test : Value → Bool) (vs us : Values) →
    ((v u : Value) → test v ≡ true → g v ≡ Some u → f u ≡ Some v) → are_all test vs ≡ true → map_each g vs ≡ Some us → map_each f us ≡ Some vs
members_back g f test no_more us k t e = subst (λ us. map_each f us ≡ Some no_more) (some_parts e) refl
members_back g f test (member v vs) us k t e =
    let p = and_parts _ _ t in
    let a = each_of g v vs us e in
    subst (λ us. map_each f us ≡ Some (member v vs)) a.4 (each_again f a.0 v a.1 vs (k v a.0 p.0 a.2) (members_back g f test vs a.1 k p.1 a.3))

-- a value that is unchanged
as_it_was : (f : Value → Option Value) (v u : Value) → f v ≡ Some v → Some v ≡ Some u → f u ≡ Some v
as_it_was f v u h e = subst (λ u. f u ≡ Some v) (some_parts e) h

put_part : (o : Option Value) (w : Value) (p : Option Parts) (q : Parts) → o ≡ Some w → p ≡ Some q → option_and_then (λ w. option_map (λ q. present w q) p) o ≡ Some (present w q)
put_part o w p q e f = rw (e, f) refl

mutual
  unfolding carried carried_parts carried_alternative is_of are_of is_of_alternative

  pub grown_back : (s s' : Schema) (v u : Value) → is_of s v ≡ true → grow s s' v ≡ Some u → carried false s s' u ≡ Some v
  grown_back (enumerated roots m adds) (enumerated roots' m' adds') (item i) u t e =
      as_it_was (carried false (enumerated roots m adds) (enumerated roots' m' adds')) (item i) u (known (is_some (item_place i roots)) m (is_some (item_place i adds)) (item i) t) e
  grown_back (sequence_of z c s) (sequence_of z' c' s') (members vs) u t e =
      let a = map_parts (map_each (λ v. grow s s' v) vs) members u e in
      subst (λ u. carried false (sequence_of z c s) (sequence_of z' c' s') u ≡ Some (members vs)) a.2
      (ap (option_map members) (members_back (λ v. grow s s' v) (λ v. carried false s s' v) (λ v. is_of s v) vs a.0 (λ v u i j. grown_back s s' v u i j) ((and_parts _ _ t).1) a.1))
  grown_back (set_of z c s) (set_of z' c' s') (bag vs) u t e =
      let a = map_parts (map_each (λ v. grow s s' v) vs) bag u e in
      subst (λ u. carried false (set_of z c s) (set_of z' c' s') u ≡ Some (bag vs)) a.2
      (ap (option_map bag) (members_back (λ v. grow s s' v) (λ v. carried false s s' v) (λ v. is_of s v) vs a.0 (λ v u i j. grown_back s s' v u i j) ((and_parts _ _ t).1) a.1))
  grown_back (sequence cs m adds) (sequence cs' m' adds') (fields ps qs) u t e =
      let a = both_parts_parts (carried_parts true cs cs' ps) (carried_parts true adds adds' qs) u e in
      let p = and_parts _ _ t in
      subst (λ u. carried false (sequence cs m adds) (sequence cs' m' adds') u ≡ Some (fields ps qs)) a.4
      (both_parts_from _ _ ps qs (parts_back cs cs' ps a.0 p.0 a.2) (parts_back adds adds' qs a.1 p.1 a.3))
  grown_back (set cs m adds) (set cs' m' adds') (fields ps qs) u t e =
      let a = both_parts_parts (carried_parts true cs cs' ps) (carried_parts true adds adds' qs) u e in
      let p = and_parts _ _ t in
      subst (λ u. carried false (set cs m adds) (set cs' m' adds') u ≡ Some (fields ps qs)) a.4 (both_parts_from _ _ ps qs (parts_back cs cs' ps a.0 p.0 a.2) (parts_back adds adds' qs a.1 p.1 a.3))
  grown_back (group cs) (group cs') (fields ps end) u t e =
      let a = both_parts_parts (carried_parts true cs cs' ps) (Some end) u e in
      subst (λ u. carried false (group cs) (group cs') u ≡ Some (fields ps end)) a.4 (both_parts_from _ _ ps end (parts_back cs cs' ps a.0 t a.2) (sym a.3))
  grown_back (choice roots m adds) (choice roots' m' adds') (chosen false i v) u t e =
      let a = map_parts (carried_alternative true roots roots' i v) (λ w. chosen false i w) u e in
      subst (λ u. carried false (choice roots m adds) (choice roots' m' adds') u ≡ Some (chosen false i v)) a.2 (ap (option_map (λ w. chosen false i w)) (alternative_back roots roots' i v a.0 t a.1))
  grown_back (choice roots m adds) (choice roots' m' adds') (chosen true i v) u t e =
      let a = map_parts (carried_alternative true adds adds' i v) (λ w. chosen true i w) u e in
      subst (λ u. carried false (choice roots m adds) (choice roots' m' adds') u ≡ Some (chosen true i v)) a.2
      (ap (option_map (λ w. chosen true i w)) (alternative_back adds adds' i v a.0 ((and_parts _ _ t).1) a.1))
  grown_back s s' v u t e = cc

  parts_back : (cs cs' : Components) (ps us : Parts) → are_of cs ps ≡ true → carried_parts true cs cs' ps ≡ Some us → carried_parts false cs cs' us ≡ Some ps
  parts_back (component t o s cs) (component t' o' s' cs') (present v ps) us k e =
      let p = and_parts _ _ k in
      let d = chain_parts (grow s s' v) (λ w. option_map (λ qs. present w qs) (carried_parts true cs cs' ps)) us e in
      let a = map_parts (carried_parts true cs cs' ps) (λ qs. present d.0 qs) us d.2 in
      subst (λ us. carried_parts false (component t o s cs) (component t' o' s' cs') us ≡ Some (present v ps)) a.2
      (put_part (carried false s s' d.0) v (carried_parts false cs cs' a.0) ps (grown_back s s' v d.0 p.0 d.1) (parts_back cs cs' ps a.0 p.1 a.1))
  parts_back (component t o s cs) (component t' o' s' cs') (absent ps) us k e =
      let a = map_parts (carried_parts true cs cs' ps) absent us e in
      subst (λ us. carried_parts false (component t o s cs) (component t' o' s' cs') us ≡ Some (absent ps)) a.2 (ap (option_map absent) (parts_back cs cs' ps a.0 ((and_parts _ _ k).1) a.1))
  parts_back no_component cs' end us k e = refl
  parts_back cs cs' ps us k e = cc

  alternative_back : (others others' : Alternatives) (i : ℕ) (v u : Value) → is_of_alternative others i v ≡ true →
      carried_alternative true others others' i v ≡ Some u → carried_alternative false others others' i u ≡ Some v
  alternative_back (alternative t s others) (alternative t' s' others') zero v u k e = grown_back s s' v u k e
  alternative_back (alternative t s others) (alternative t' s' others') (suc i) v u k e = alternative_back others others' i v u k e
  alternative_back others others' i v u k e = cc

pub dropped_back : (s s' : Schema) (v u : Value) → Extends s s' → is_of s v ≡ true → is_normal s v ≡ true → grow s s' v ≡ Some u → drop s s' u ≡ Some v
dropped_back s s' v u h t n e = ap (carried false s s') (normal_stays s' u (grown_is_normal s s' v u h n e)) ∙ grown_back s s' v u t e
