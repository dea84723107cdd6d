-- A dropped value is its own normal form unless a component is left at its default; and its nested levels.
use Rattle.std.proofs.Common.{◌≡◌, ◌⊎◌, inl, inr, ℕ, zero, suc, ◌+◌, max, Bool, true, false, cond, not, ◌&&◌, ◌||◌, Option, Some, None, option_map, refl, ap, sym, ◌∙◌, subst}
use Rattle.std.proofs.lemmas.Bool.{and_parts, and_cases, and_left, and_right}
use Rattle.asn1_model.specs.Value.{Value, item, members, bag, fields, chosen, Values, no_more, member, Parts, end, absent, present, depth, depth_of_members, depth_of_parts, are_all, are_absent}
use Rattle.asn1_model.specs.Schema.{Schema, enumerated, sequence_of, set_of, sequence, set, group, choice, Components, no_component, component, Alternatives, no_alternative, alternative}
use Rattle.asn1_model.specs.Lawful.{is_of, are_of, is_of_alternative}
use Rattle.asn1_model.specs.Normal.{normal, normal_parts, is_at_default, is_group_left_out}
use Rattle.asn1_model.specs.Tidy.{is_normal, are_normal, is_normal_alternative}
use Rattle.asn1_model.specs.Versions.{carried, carried_parts, carried_alternative, map_each, Extends, ExtendsEach, ExtendsAlternatives}
use Rattle.asn1_model.proofs.Forms.{chain_parts, map_parts}
use Rattle.asn1_laws_values.proofs.Messages.{some_parts}
use Rattle.asn1_laws_values.proofs.Normal.{normal_stays}
use Rattle.asn1_laws_values.proofs.Normals.{not_normal}
use Rattle.asn1_laws_versions.specs.Losses.{OfSome, LeavesDefault, PartsLeaveDefault, AlternativeLeavesDefault, most_of, seen_depth, seen_depth_of_parts, seen_depth_of_alternative}
use Rattle.asn1_laws_versions.proofs.Extending.{both_parts_parts}
use Rattle.asn1_laws_versions.proofs.Dropping.{if_known}
use Rattle.asn1_laws_versions.proofs.Grown.{each_of}

either : {A B C : Type 0} → A ⊎ B → (A → C) → (B → C) → C
either (inl a) f g = f a
either (inr b) f g = g b

not_so : (b : Bool) → not b ≡ true → b ≡ false
not_so true e = cc
not_so false e = refl

-- ---- what leaves a default is not normal
some_left : (g : Value → Option Value) (P : Value → Type 0) (test : Value → Bool) →
    ((v w : Value) → g v ≡ Some w → P v → test w ≡ false) → (vs us : Values) → map_each g vs ≡ Some us → OfSome P vs → are_all test us ≡ false
some_left g P test h no_more us e l = absurd l
some_left g P test h (member v vs) us e (inl l) = let a = each_of g v vs us e in subst (λ us. are_all test us ≡ false) a.4 (and_left _ _ (h v a.0 a.2 l))
some_left g P test h (member v vs) us e (inr l) = let a = each_of g v vs us e in subst (λ us. are_all test us ≡ false) a.4 (and_right _ _ (some_left g P test h vs a.1 a.3 l))

at_default : (a b c d : Bool) → a ≡ true → (not a && b && c && d) ≡ false
at_default a b c d e = rw e refl

not_inside : (a b c d : Bool) → c ≡ false → (a && b && c && d) ≡ false
not_inside a b c d e = and_left (a && b && c) d (and_right (a && b) c e)

mutual
  unfolding carried carried_parts carried_alternative is_normal are_normal is_normal_alternative LeavesDefault PartsLeaveDefault AlternativeLeavesDefault

  pub left_clashes : (s s' : Schema) (v w : Value) → carried false s s' v ≡ Some w → LeavesDefault s s' v → is_normal s w ≡ false
  left_clashes (sequence_of z h s) (sequence_of z' h' s') (members vs) w e l =
      let a = map_parts (map_each (λ v. carried false s s' v) vs) members w e in
      subst (λ w. is_normal (sequence_of z h s) w ≡ false) a.2
      (some_left (λ v. carried false s s' v) (λ v. LeavesDefault s s' v) (λ w. is_normal s w) (λ v w f l. left_clashes s s' v w f l) vs a.0 a.1 l)
  left_clashes (set_of z h s) (set_of z' h' s') (bag vs) w e l =
      let a = map_parts (map_each (λ v. carried false s s' v) vs) bag w e in
      subst (λ w. is_normal (set_of z h s) w ≡ false) a.2 (some_left (λ v. carried false s s' v) (λ v. LeavesDefault s s' v) (λ w. is_normal s w) (λ v w f l. left_clashes s s' v w f l) vs a.0 a.1 l)
  left_clashes (sequence cs m adds) (sequence cs' m' adds') (fields ps qs) w e (inl l) =
      let a = both_parts_parts (carried_parts false cs cs' ps) (carried_parts false adds adds' qs) w e in
      subst (λ w. is_normal (sequence cs m adds) w ≡ false) a.4 (and_left _ _ (parts_clash cs cs' ps a.0 a.2 l))
  left_clashes (sequence cs m adds) (sequence cs' m' adds') (fields ps qs) w e (inr l) =
      let a = both_parts_parts (carried_parts false cs cs' ps) (carried_parts false adds adds' qs) w e in
      subst (λ w. is_normal (sequence cs m adds) w ≡ false) a.4 (and_right _ _ (parts_clash adds adds' qs a.1 a.3 l))
  left_clashes (set cs m adds) (set cs' m' adds') (fields ps qs) w e (inl l) =
      let a = both_parts_parts (carried_parts false cs cs' ps) (carried_parts false adds adds' qs) w e in
      subst (λ w. is_normal (set cs m adds) w ≡ false) a.4 (and_left _ _ (parts_clash cs cs' ps a.0 a.2 l))
  left_clashes (set cs m adds) (set cs' m' adds') (fields ps qs) w e (inr l) =
      let a = both_parts_parts (carried_parts false cs cs' ps) (carried_parts false adds adds' qs) w e in
      subst (λ w. is_normal (set cs m adds) w ≡ false) a.4 (and_right _ _ (parts_clash adds adds' qs a.1 a.3 l))
  left_clashes (group cs) (group cs') (fields ps qs) w e l =
      let a = both_parts_parts (carried_parts false cs cs' ps) (Some qs) w e in
      subst (λ w. is_normal (group cs) w ≡ false) a.4 (parts_clash cs cs' ps a.0 a.2 l)
  left_clashes (choice roots m adds) (choice roots' m' adds') (chosen false i v) w e l =
      let a = map_parts (carried_alternative false roots roots' i v) (λ w. chosen false i w) w e in
      subst (λ w. is_normal (choice roots m adds) w ≡ false) a.2 (alternative_clashes roots roots' i v a.0 a.1 l)
  left_clashes (choice roots m adds) (choice roots' m' adds') (chosen true i v) w e l =
      let a = map_parts (carried_alternative false adds adds' i v) (λ w. chosen true i w) w e in
      subst (λ w. is_normal (choice roots m adds) w ≡ false) a.2 (alternative_clashes adds adds' i v a.0 a.1 l)
  left_clashes s s' v w e l = absurd l

  parts_clash : (cs cs' : Components) (ps us : Parts) → carried_parts false cs cs' ps ≡ Some us → PartsLeaveDefault cs cs' ps → are_normal cs us ≡ false
  parts_clash (component t o s cs) (component t' o' s' cs') (present v ps) us e (inl l) =
      let d = chain_parts (carried false s s' v) (λ w. option_map (λ qs. present w qs) (carried_parts false cs cs' ps)) us e in
      let a = map_parts (carried_parts false cs cs' ps) (λ qs. present d.0 qs) us d.2 in
      let w : l.0 ≡ d.0 = some_parts (sym l.1 ∙ d.1) in
      let k : is_at_default o s d.0 ≡ true = subst (λ w. is_at_default o s w ≡ true) w l.2 in
      subst (λ us. are_normal (component t o s cs) us ≡ false) a.2 (at_default (is_at_default o s d.0) (not (is_group_left_out s d.0)) (is_normal s d.0) (are_normal cs a.0) k)
  parts_clash (component t o s cs) (component t' o' s' cs') (present v ps) us e (inr (inl l)) =
      let d = chain_parts (carried false s s' v) (λ w. option_map (λ qs. present w qs) (carried_parts false cs cs' ps)) us e in
      let a = map_parts (carried_parts false cs cs' ps) (λ qs. present d.0 qs) us d.2 in
      subst (λ us. are_normal (component t o s cs) us ≡ false) a.2
      (not_inside (not (is_at_default o s d.0)) (not (is_group_left_out s d.0)) (is_normal s d.0) (are_normal cs a.0) (left_clashes s s' v d.0 d.1 l))
  parts_clash (component t o s cs) (component t' o' s' cs') (present v ps) us e (inr (inr l)) =
      let d = chain_parts (carried false s s' v) (λ w. option_map (λ qs. present w qs) (carried_parts false cs cs' ps)) us e in
      let a = map_parts (carried_parts false cs cs' ps) (λ qs. present d.0 qs) us d.2 in
      subst (λ us. are_normal (component t o s cs) us ≡ false) a.2
      (and_right (not (is_at_default o s d.0) && not (is_group_left_out s d.0) && is_normal s d.0) (are_normal cs a.0) (parts_clash cs cs' ps a.0 a.1 l))
  parts_clash (component t o s cs) (component t' o' s' cs') (absent ps) us e l =
      let a = map_parts (carried_parts false cs cs' ps) absent us e in
      subst (λ us. are_normal (component t o s cs) us ≡ false) a.2 (parts_clash cs cs' ps a.0 a.1 l)
  parts_clash cs cs' ps us e l = absurd l

  alternative_clashes : (others others' : Alternatives) (i : ℕ) (v w : Value) → carried_alternative false others others' i v
      ≡ Some w → AlternativeLeavesDefault others others' i v → is_normal_alternative others i w ≡ false
  alternative_clashes (alternative t s others) (alternative t' s' others') zero v w e l = left_clashes s s' v w e l
  alternative_clashes (alternative t s others) (alternative t' s' others') (suc i) v w e l = alternative_clashes others others' i v w e l
  alternative_clashes others others' i v w e l = absurd l

-- ---- its nested levels
members_seen : (g : Value → Option Value) (f : Value → ℕ) (vs us : Values) → ((v u : Value) → g v ≡ Some u → depth u ≡ f v) → map_each g vs ≡ Some us → depth_of_members us ≡ most_of f vs
unfolding depth_of_members
members_seen g f no_more us k e = subst (λ us. depth_of_members us ≡ 0) (some_parts e) refl
members_seen g f (member v vs) us k e =
    let a = each_of g v vs us e in
    let h = k v a.0 a.2 in
    let i = members_seen g f vs a.1 k a.3 in
    subst (λ us. depth_of_members us ≡ most_of f (member v vs)) a.4 (two h i)
  where
    two : {a b c d : ℕ} → a ≡ b → c ≡ d → max a c ≡ max b d
    two e f = cc

both_depths : {a b c d : ℕ} → a ≡ b → c ≡ d → max a c + 1 ≡ max b d + 1
both_depths e f = cc

mutual
  unfolding depth depth_of_members depth_of_parts carried carried_parts carried_alternative seen_depth seen_depth_of_parts seen_depth_of_alternative

  pub dropped_depth : (s s' : Schema) (v u : Value) → carried false s s' v ≡ Some u → depth u ≡ seen_depth s s' v
  dropped_depth (enumerated roots m adds) (enumerated roots' m' adds') (item i) u e = ap depth (sym (if_known _ (item i) u e))
  dropped_depth (sequence_of z c s) (sequence_of z' c' s') (members vs) u e =
      let a = map_parts (map_each (λ v. carried false s s' v) vs) members u e in
      subst (λ u. depth u ≡ seen_depth (sequence_of z c s) (sequence_of z' c' s') (members vs)) a.2
      (ap (λ n. n + 1) (members_seen (λ v. carried false s s' v) (λ v. seen_depth s s' v) vs a.0 (λ v u i. dropped_depth s s' v u i) a.1))
  dropped_depth (set_of z c s) (set_of z' c' s') (bag vs) u e =
      let a = map_parts (map_each (λ v. carried false s s' v) vs) bag u e in
      subst (λ u. depth u ≡ seen_depth (set_of z c s) (set_of z' c' s') (bag vs)) a.2
      (ap (λ n. n + 1) (members_seen (λ v. carried false s s' v) (λ v. seen_depth s s' v) vs a.0 (λ v u i. dropped_depth s s' v u i) a.1))
  dropped_depth (sequence cs m adds) (sequence cs' m' adds') (fields ps qs) u e =
      let a = both_parts_parts (carried_parts false cs cs' ps) (carried_parts false adds adds' qs) u e in
      subst (λ u. depth u ≡ seen_depth (sequence cs m adds) (sequence cs' m' adds') (fields ps qs)) a.4
      (both_depths (dropped_parts_depth cs cs' ps a.0 a.2) (dropped_parts_depth adds adds' qs a.1 a.3))
  dropped_depth (set cs m adds) (set cs' m' adds') (fields ps qs) u e =
      let a = both_parts_parts (carried_parts false cs cs' ps) (carried_parts false adds adds' qs) u e in
      subst (λ u. depth u ≡ seen_depth (set cs m adds) (set cs' m' adds') (fields ps qs)) a.4 (both_depths (dropped_parts_depth cs cs' ps a.0 a.2) (dropped_parts_depth adds adds' qs a.1 a.3))
  dropped_depth (group cs) (group cs') (fields ps qs) u e =
      let a = both_parts_parts (carried_parts false cs cs' ps) (Some qs) u e in
      subst (λ u. depth u ≡ seen_depth (group cs) (group cs') (fields ps qs)) a.4 (both_depths (dropped_parts_depth cs cs' ps a.0 a.2) (ap depth_of_parts (sym (some_parts a.3))))
  dropped_depth (choice roots m adds) (choice roots' m' adds') (chosen false i v) u e =
      let a = map_parts (carried_alternative false roots roots' i v) (λ w. chosen false i w) u e in
      subst (λ u. depth u ≡ seen_depth (choice roots m adds) (choice roots' m' adds') (chosen false i v)) a.2 (ap (λ n. n + 1) (dropped_alternative_depth roots roots' i v a.0 a.1))
  dropped_depth (choice roots m adds) (choice roots' m' adds') (chosen true i v) u e =
      let a = map_parts (carried_alternative false adds adds' i v) (λ w. chosen true i w) u e in
      subst (λ u. depth u ≡ seen_depth (choice roots m adds) (choice roots' m' adds') (chosen true i v)) a.2 (ap (λ n. n + 1) (dropped_alternative_depth adds adds' i v a.0 a.1))
  dropped_depth s s' v u e = ap depth (sym (some_parts e))

  dropped_parts_depth : (cs cs' : Components) (ps us : Parts) → carried_parts false cs cs' ps ≡ Some us → depth_of_parts us ≡ seen_depth_of_parts cs cs' ps
  dropped_parts_depth (component t o s cs) (component t' o' s' cs') (present v ps) us e =
      let d = chain_parts (carried false s s' v) (λ w. option_map (λ qs. present w qs) (carried_parts false cs cs' ps)) us e in
      let a = map_parts (carried_parts false cs cs' ps) (λ qs. present d.0 qs) us d.2 in
      let h = dropped_depth s s' v d.0 d.1 in
      let k = dropped_parts_depth cs cs' ps a.0 a.1 in
      subst (λ us. depth_of_parts us ≡ max (seen_depth s s' v) (seen_depth_of_parts cs cs' ps)) a.2 cc
  dropped_parts_depth (component t o s cs) (component t' o' s' cs') (absent ps) us e =
      let a = map_parts (carried_parts false cs cs' ps) absent us e in
      subst (λ us. depth_of_parts us ≡ seen_depth_of_parts cs cs' ps) a.2 (dropped_parts_depth cs cs' ps a.0 a.1)
  dropped_parts_depth no_component cs' ps us e = subst (λ us. depth_of_parts us ≡ 0) (some_parts e) refl
  dropped_parts_depth cs cs' ps us e = cc

  dropped_alternative_depth : (others others' : Alternatives) (i : ℕ) (v u : Value) → carried_alternative false others others' i v ≡ Some u → depth u ≡ seen_depth_of_alternative others others' i v
  dropped_alternative_depth (alternative t s others) (alternative t' s' others') zero v u e = dropped_depth s s' v u e
  dropped_alternative_depth (alternative t s others) (alternative t' s' others') (suc i) v u e = dropped_alternative_depth others others' i v u e
  dropped_alternative_depth others others' i v u e = cc

-- ---- what is not normal leaves a default
some_found : (g : Value → Option Value) (P : Value → Type 0) (of tidy test : Value → Bool) →
    ((v w : Value) → of v ≡ true → tidy v ≡ true → g v ≡ Some w → test w ≡ false → P v) → (vs us : Values) → are_all of vs ≡ true →
    are_all tidy vs ≡ true → map_each g vs ≡ Some us → are_all test us ≡ false → OfSome P vs
some_found g P of tidy test k no_more us o n e f = let b : true ≡ false = subst (λ us. are_all test us ≡ false) (sym (some_parts e)) f in cc
some_found g P of tidy test k (member v vs) us o n e f =
    let a = each_of g v vs us e in
    let p = and_parts _ _ o in
    let q = and_parts _ _ n in
    let h : are_all test (member a.0 a.1) ≡ false = subst (λ us. are_all test us ≡ false) (sym a.4) f in
    either (and_cases (test a.0) (are_all test a.1) h) (λ h. inl (k v a.0 p.0 q.0 a.2 h)) (λ h. inr (some_found g P of tidy test k vs a.1 p.1 q.1 a.3 h))

none_is_some : {P : Type 0} (w : Value) → None ≡ Some w → P
none_is_some w e = cc

-- what makes a part not normal
four_cases : {P : Type 0} (a b c d : Bool) → (not a && not b && c && d) ≡ false → (a ≡ true → P) → (b ≡ true → P) → (c ≡ false → P) → (d ≡ false → P) → P
four_cases true b c d e f g h k = f refl
four_cases false true c d e f g h k = g refl
four_cases false false false d e f g h k = h refl
four_cases false false true d e f g h k = k e

-- what makes a part absent in the normal form
left_out_by : (a b : Bool) (ps qs : Parts) (v : Value) → are_absent (cond (a || b) (absent ps) (present v qs)) ≡ true → (a ≡ true) ⊎ (b ≡ true)
left_out_by true b ps qs v e = inl refl
left_out_by false true ps qs v e = inr refl
left_out_by false false ps qs v e = cc

mutual
  unfolding carried carried_parts carried_alternative is_of are_of is_of_alternative is_normal are_normal
      is_normal_alternative normal normal_parts Extends ExtendsEach ExtendsAlternatives LeavesDefault PartsLeaveDefault
      AlternativeLeavesDefault

  pub clash_leaves : (s s' : Schema) (v w : Value) → Extends s s' → is_of s' v ≡ true → is_normal s' v ≡ true → carried false s s' v ≡ Some w → is_normal s w ≡ false → LeavesDefault s s' v
  clash_leaves (sequence_of z h s) (sequence_of z' h' s') (members vs) w x o n e f =
      let a = map_parts (map_each (λ v. carried false s s' v) vs) members w e in
      let k : are_all (λ w. is_normal s w) a.0 ≡ false = subst (λ w. is_normal (sequence_of z h s) w ≡ false) (sym a.2) f in
      some_found (λ v. carried false s s' v) (λ v. LeavesDefault s s' v) (λ v. is_of s' v) (λ v. is_normal s' v)
      (λ w. is_normal s w) (λ v w o n e f. clash_leaves s s' v w x.2 o n e f) vs a.0 ((and_parts _ _ o).1) n a.1 k
  clash_leaves (sequence_of z h s) (sequence_of z' h' s') v w x o n e f = cc
  clash_leaves (sequence_of z h s) s' v w x o n e f = absurd x
  clash_leaves (set_of z h s) (set_of z' h' s') (bag vs) w x o n e f =
      let a = map_parts (map_each (λ v. carried false s s' v) vs) bag w e in
      let k : are_all (λ w. is_normal s w) a.0 ≡ false = subst (λ w. is_normal (set_of z h s) w ≡ false) (sym a.2) f in
      some_found (λ v. carried false s s' v) (λ v. LeavesDefault s s' v) (λ v. is_of s' v) (λ v. is_normal s' v)
      (λ w. is_normal s w) (λ v w o n e f. clash_leaves s s' v w x.2 o n e f) vs a.0 ((and_parts _ _ o).1) n a.1 k
  clash_leaves (set_of z h s) (set_of z' h' s') v w x o n e f = cc
  clash_leaves (set_of z h s) s' v w x o n e f = absurd x
  clash_leaves (sequence cs m adds) (sequence cs' m' adds') (fields ps qs) w x o n e f =
      let a = both_parts_parts (carried_parts false cs cs' ps) (carried_parts false adds adds' qs) w e in
      let p = and_parts _ _ o in
      let q = and_parts _ _ n in
      let k : is_normal (sequence cs m adds) (fields a.0 a.1) ≡ false = subst (λ w. is_normal (sequence cs m adds) w ≡ false) (sym a.4) f in
      either (and_cases (are_normal cs a.0) (are_normal adds a.1) k) (λ k. inl (parts_leave cs cs' ps a.0 false x.0 p.0 q.0 a.2 k)) (λ k. inr (parts_leave adds adds' qs a.1 m x.2 p.1 q.1 a.3 k))
  clash_leaves (sequence cs m adds) (sequence cs' m' adds') v w x o n e f = cc
  clash_leaves (sequence cs m adds) s' v w x o n e f = absurd x
  clash_leaves (set cs m adds) (set cs' m' adds') (fields ps qs) w x o n e f =
      let a = both_parts_parts (carried_parts false cs cs' ps) (carried_parts false adds adds' qs) w e in
      let p = and_parts _ _ o in
      let q = and_parts _ _ n in
      let k : is_normal (set cs m adds) (fields a.0 a.1) ≡ false = subst (λ w. is_normal (set cs m adds) w ≡ false) (sym a.4) f in
      either (and_cases (are_normal cs a.0) (are_normal adds a.1) k) (λ k. inl (parts_leave cs cs' ps a.0 false x.0 p.0 q.0 a.2 k)) (λ k. inr (parts_leave adds adds' qs a.1 m x.2 p.1 q.1 a.3 k))
  clash_leaves (set cs m adds) (set cs' m' adds') v w x o n e f = cc
  clash_leaves (set cs m adds) s' v w x o n e f = absurd x
  clash_leaves (group cs) (group cs') (fields ps end) w x o n e f =
      let a = both_parts_parts (carried_parts false cs cs' ps) (Some end) w e in
      let k : are_normal cs a.0 ≡ false = subst (λ w. is_normal (group cs) w ≡ false) (sym a.4) f in
      parts_leave cs cs' ps a.0 false x o n a.2 k
  clash_leaves (group cs) (group cs') v w x o n e f = cc
  clash_leaves (group cs) s' v w x o n e f = absurd x
  clash_leaves (choice roots m adds) (choice roots' m' adds') (chosen false i v) w x o n e f =
      let a = map_parts (carried_alternative false roots roots' i v) (λ w. chosen false i w) w e in
      let k : is_normal_alternative roots i a.0 ≡ false = subst (λ w. is_normal (choice roots m adds) w ≡ false) (sym a.2) f in
      alternative_leaves roots roots' i v a.0 false x.0 o n a.1 k
  clash_leaves (choice roots m adds) (choice roots' m' adds') (chosen true i v) w x o n e f =
      let a = map_parts (carried_alternative false adds adds' i v) (λ w. chosen true i w) w e in
      let k : is_normal_alternative adds i a.0 ≡ false = subst (λ w. is_normal (choice roots m adds) w ≡ false) (sym a.2) f in
      alternative_leaves adds adds' i v a.0 m x.2 ((and_parts _ _ o).1) n a.1 k
  clash_leaves (choice roots m adds) (choice roots' m' adds') v w x o n e f = cc
  clash_leaves (choice roots m adds) s' v w x o n e f = absurd x
  clash_leaves s s' v w x o n e f = cc

  parts_leave : (cs cs' : Components) (ps us : Parts) (more : Bool) → ExtendsEach more cs cs' → are_of cs' ps ≡ true →
      are_normal cs' ps ≡ true → carried_parts false cs cs' ps ≡ Some us → are_normal cs us ≡ false → PartsLeaveDefault cs cs' ps
  parts_leave (component t o s cs) (component t' o' s' cs') (present v ps) us more x h n e f =
      let d = chain_parts (carried false s s' v) (λ w. option_map (λ qs. present w qs) (carried_parts false cs cs' ps)) us e in
      let a = map_parts (carried_parts false cs cs' ps) (λ qs. present d.0 qs) us d.2 in
      let k : are_normal (component t o s cs) (present d.0 a.0) ≡ false = subst (λ us. are_normal (component t o s cs) us ≡ false) (sym a.2) f in
      let p = and_parts _ _ h in
      let q = and_parts _ _ n in
      let r = and_parts _ _ q.0 in
      let there = not_so (is_group_left_out s' v) ((and_parts (not (is_at_default o' s' v)) (not (is_group_left_out s' v)) r.0).1) in
      four_cases (is_at_default o s d.0) (is_group_left_out s d.0) (is_normal s d.0) (are_normal cs a.0) k
      (λ k. inl (d.0, d.1, k))
      (λ k. inr (inl (group_leaves s s' v d.0 x.2 p.0 r.1 there d.1 k)))
      (λ k. inr (inl (clash_leaves s s' v d.0 x.2 p.0 r.1 d.1 k)))
      (λ k. inr (inr (parts_leave cs cs' ps a.0 more x.3 p.1 q.1 a.1 k)))
  parts_leave (component t o s cs) (component t' o' s' cs') (absent ps) us more x h n e f =
      let a = map_parts (carried_parts false cs cs' ps) absent us e in
      parts_leave cs cs' ps a.0 more x.3 ((and_parts _ _ h).1) n a.1 (subst (λ us. are_normal (component t o s cs) us ≡ false) (sym a.2) f)
  parts_leave (component t o s cs) (component t' o' s' cs') end us more x h n e f = cc
  parts_leave (component t o s cs) no_component ps us more x h n e f = absurd x
  parts_leave no_component cs' ps us more x h n e f = cc

  alternative_leaves : (others others' : Alternatives) (i : ℕ) (v w : Value) (more : Bool) →
      ExtendsAlternatives more others others' → is_of_alternative others' i v ≡ true → is_normal_alternative others' i v ≡ true →
      carried_alternative false others others' i v ≡ Some w → is_normal_alternative others i w ≡ false → AlternativeLeavesDefault others others' i v
  alternative_leaves (alternative t s others) (alternative t' s' others') zero v w more x o n e f = clash_leaves s s' v w x.1 o n e f
  alternative_leaves (alternative t s others) (alternative t' s' others') (suc i) v w more x o n e f = alternative_leaves others others' i v w more x.2 o n e f
  alternative_leaves (alternative t s others) no_alternative i v w more x o n e f = absurd x
  alternative_leaves no_alternative others' i v w more x o n e f = none_is_some w e

  -- a group with nothing left in it, though a component was present
  group_leaves : (s s' : Schema) (v w : Value) → Extends s s' → is_of s' v ≡ true → is_normal s' v ≡ true → is_group_left_out s' v
      ≡ false → carried false s s' v ≡ Some w → is_group_left_out s w ≡ true → LeavesDefault s s' v
  group_leaves (group cs) (group cs') (fields ps end) w x o n k e f =
      let a = both_parts_parts (carried_parts false cs cs' ps) (Some end) w e in
      let h : are_absent (normal_parts cs a.0) ≡ true = subst (λ w. is_group_left_out (group cs) w ≡ true) (sym a.4) f in
      emptied_leave cs cs' ps a.0 x o n k a.2 h
  group_leaves (group cs) (group cs') v w x o n k e f = cc
  group_leaves (group cs) s' v w x o n k e f = absurd x
  group_leaves s s' v w x o n k e f = cc

  emptied_leave : (cs cs' : Components) (ps us : Parts) → ExtendsEach false cs cs' → are_of cs' ps ≡ true → are_normal cs' ps
      ≡ true → are_absent (normal_parts cs' ps) ≡ false → carried_parts false cs cs' ps ≡ Some us → are_absent (normal_parts cs us) ≡ true → PartsLeaveDefault cs cs' ps
  emptied_leave (component t o s cs) (component t' o' s' cs') (present v ps) us x h n k e f =
      let d = chain_parts (carried false s s' v) (λ w. option_map (λ qs. present w qs) (carried_parts false cs cs' ps)) us e in
      let a = map_parts (carried_parts false cs cs' ps) (λ qs. present d.0 qs) us d.2 in
      let g : are_absent (normal_parts (component t o s cs) (present d.0 a.0)) ≡ true = subst (λ us. are_absent (normal_parts (component t o s cs) us) ≡ true) (sym a.2) f in
      let p = and_parts _ _ h in
      let q = and_parts _ _ n in
      let r = and_parts _ _ q.0 in
      let there = not_so (is_group_left_out s' v) ((and_parts (not (is_at_default o' s' v)) (not (is_group_left_out s' v)) r.0).1) in
      either (left_out_by (is_at_default o s d.0) (is_group_left_out s d.0) (normal_parts cs a.0) (normal_parts cs a.0) (normal s d.0) g)
      (λ g. inl (d.0, d.1, g))
      (λ g. inr (inl (group_leaves s s' v d.0 x.2 p.0 r.1 there d.1 g)))
  emptied_leave (component t o s cs) (component t' o' s' cs') (absent ps) us x h n k e f =
      let a = map_parts (carried_parts false cs cs' ps) absent us e in
      emptied_leave cs cs' ps a.0 x.3 ((and_parts _ _ h).1) n k a.1 (subst (λ us. are_absent (normal_parts (component t o s cs) us) ≡ true) (sym a.2) f)
  emptied_leave (component t o s cs) (component t' o' s' cs') end us x h n k e f = cc
  emptied_leave (component t o s cs) no_component ps us x h n k e f = absurd x
  emptied_leave no_component no_component end us x h n k e f = cc
  emptied_leave no_component no_component ps us x h n k e f = cc
  emptied_leave no_component (component t' o' s' cs') ps us x h n k e f = absurd x

-- ---- what conflicts with the normal form
by_test : {P : Type 0} (s : Schema) (w : Value) (b : Bool) → is_normal s w ≡ b → ¬ (normal s w ≡ w) → (is_normal s w ≡ false → P) → P
by_test s w true e h k = absurd (h (normal_stays s w e))
by_test s w false e h k = k e

pub clash_is_left : (s t : Schema) (v w : Value) → Extends s t → is_of t v ≡ true → is_normal t v ≡ true → carried false s t v
    ≡ Some w → (u : Value) × (carried false s t v ≡ Some u) × ¬ (normal s u ≡ u) → LeavesDefault s t v
clash_is_left s t v w x o n e h = by_test s h.0 (is_normal s h.0) refl h.2 (λ k. clash_leaves s t v h.0 x o n h.1 k)

pub left_is_clash : (s t : Schema) (v w : Value) → carried false s t v ≡ Some w → LeavesDefault s t v → ¬ (normal s w ≡ w)
left_is_clash s t v w e h = not_normal s w (left_clashes s t v w e h)
