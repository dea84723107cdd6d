-- The normal form of a carried value is what the normal form is carried over to.
use Rattle.std.proofs.Common.{◌≡◌, ℕ, zero, suc, Bool, true, false, ◌||◌, List, Option, Some, option_map, option_and_then, refl, ap, sym, ◌∙◌, subst}
use Rattle.asn1_model.specs.Value.{Value, members, bag, fields, chosen, Values, no_more, member, Parts, end, absent, present, map_members, are_absent, same}
use Rattle.asn1_model.specs.Schema.{Tag, Presence, required, optional, by_default, Schema, cut, boolean, null, integer}
use Rattle.asn1_model.specs.Schema.{enumerated, bit_string, octet_string, character_string, object_identifier}
use Rattle.asn1_model.specs.Schema.{sequence_of, set_of, sequence, set, group, choice, Components, no_component}
use Rattle.asn1_model.specs.Schema.{component, Alternatives, no_alternative, alternative}
use Rattle.asn1_model.specs.Normal.{normal, normal_parts, normal_alternative, is_empty_group, is_default_by}
use Rattle.asn1_model.specs.Tidy.{is_normal}
use Rattle.asn1_model.specs.Versions.{carried, grow, carried_parts, carried_alternative, all_absent, map_each, KeepsPresence, Extends, ExtendsEach, ExtendsAlternatives}
use Rattle.asn1_model.proofs.Forms.{chain_parts, map_parts}
use Rattle.asn1_laws_values.proofs.Messages.{some_parts}
use Rattle.asn1_laws_values.proofs.Normals.{normal_normal}
use Rattle.asn1_laws_values.proofs.Counts.{both_true}
use Rattle.asn1_laws_values.proofs.Same.{same_turned, same_chained}
use Rattle.asn1_laws_values.proofs.Normal.{normal_stays}
use Rattle.asn1_laws_versions.proofs.Extending.{both_parts_parts, both_parts_from, absent_of}
use Rattle.asn1_laws_versions.proofs.Grown.{each_of, each_again, same_grown}
use Rattle.std.specs.Prelude.{cond}

-- ---- groups
absent_kept : (cs cs' : Components) (ps us : Parts) → ExtendsEach false cs cs' → carried_parts true cs cs' ps ≡ Some us → are_absent us ≡ are_absent ps
unfolding ExtendsEach carried_parts
absent_kept no_component no_component end us h e = subst (λ us. are_absent us ≡ true) (some_parts e) refl
absent_kept no_component no_component (absent ps) us h e = cc
absent_kept no_component no_component (present v ps) us h e = cc
absent_kept no_component (component t' o' s' cs') ps us h e = absurd h
absent_kept (component t o s cs) no_component ps us h e = absurd h
absent_kept (component t o s cs) (component t' o' s' cs') end us h e = cc
absent_kept (component t o s cs) (component t' o' s' cs') (absent ps) us h e =
    let a = map_parts (carried_parts true cs cs' ps) absent us e in
    subst (λ us. are_absent us ≡ are_absent ps) a.2 (absent_kept cs cs' ps a.0 h.3 a.1)
absent_kept (component t o s cs) (component t' o' s' cs') (present v ps) us h e =
    let d = chain_parts (grow s s' v) (λ w. option_map (λ rs. present w rs) (carried_parts true cs cs' ps)) us e in
    let a = map_parts (carried_parts true cs cs' ps) (λ rs. present d.0 rs) us d.2 in
    subst (λ us. are_absent us ≡ false) a.2 refl

empty_kept : (s s' : Schema) (v u : Value) → Extends s s' → grow s s' v ≡ Some u → is_empty_group s v ≡ is_empty_group s' u
unfolding Extends carried
empty_kept (group cs) (group cs') (fields ps qs) u h e =
    let a = both_parts_parts (carried_parts true cs cs' ps) (Some qs) u e in
    subst (λ u. are_absent ps ≡ is_empty_group (group cs') u) a.4 (sym (absent_kept cs cs' ps a.0 h a.2))
empty_kept (group cs) (group cs') v u h e = subst (λ u. is_empty_group (group cs) v ≡ is_empty_group (group cs') u) (some_parts e) refl
empty_kept (group cs) s' v u h e = absurd h
empty_kept s (group cs') v u h e = absurd h
empty_kept s s' v u h e = refl

-- ---- defaults
abbrev Carries : Schema → Schema → Value → Value → Type 0
Carries s s' v u = grow s s' (normal s v) ≡ Some (normal s' u)

as_the_default : (y w d : Value) → same w d ≡ true → same y w ≡ same y d
as_the_default y w d e = both_true (same y w) (same y d) (λ f. same_chained y w d f e) (λ f. same_chained y d w f (same_turned w d e))

default_kept : (s s' : Schema) (o o' : Presence) (x y : Value) → Extends s s' → KeepsPresence s s' o o' → grow s s' x ≡ Some y →
    is_default_by (λ d. normal s d) o x ≡ is_default_by (λ d. normal s' d) o' y
default_kept s s' required required x y h k e = refl
default_kept s s' optional optional x y h k e = refl
default_kept s s' (by_default d) (by_default d') x y h k e = sym (same_grown s s' x (normal s d) y k.0 h e k.1) ∙ as_the_default y k.0 (normal s' d') k.2
default_kept s s' o o' x y h k e = absurd k

-- ---- elements and parts
members_carried : (g n n' : Value → Option Value) (f f' : Value → Value) (vs us : Values) →
    ((v u : Value) → g v ≡ Some u → g (f v) ≡ Some (f' u)) → map_each g vs ≡ Some us → map_each g (map_members f vs) ≡ Some (map_members f' us)
members_carried g n n' f f' no_more us k e = subst (λ us. Some no_more ≡ Some (map_members f' us)) (some_parts e) refl
members_carried g n n' f f' (member v vs) us k e =
    let a = each_of g v vs us e in
    subst (λ us. map_each g (map_members f (member v vs)) ≡ Some (map_members f' us)) a.4
    (each_again g (f v) (f' a.0) (map_members f vs) (map_members f' a.1) (k v a.0 a.2) (members_carried g n n' f f' vs a.1 k a.3))

absent_stay : (cs : Components) (us : Parts) → all_absent cs ≡ Some us → normal_parts cs us ≡ us
unfolding normal_parts
absent_stay no_component us e = refl
absent_stay (component t o s cs) us e = let a = absent_of o s t cs us e in subst (λ us. normal_parts (component t o s cs) us ≡ us) a.2 (ap absent (absent_stay cs a.0 a.1))

put_part : (o : Option Value) (w : Value) (p : Option Parts) (q : Parts) → o ≡ Some w → p ≡ Some q → option_and_then (λ w. option_map (λ q. present w q) p) o ≡ Some (present w q)
put_part o w p q e f = rw (e, f) refl

part_kept : (t t' : List Tag) (o o' : Presence) (s s' : Schema) (cs cs' : Components) (b b' : Bool) (x y : Value) (ps qs : Parts) →
    b ≡ b' → grow s s' x ≡ Some y → carried_parts true cs cs' ps ≡ Some qs →
    carried_parts true (component t o s cs) (component t' o' s' cs') (cond b (absent ps) (present x ps)) ≡ Some (cond b' (absent qs) (present y qs))
unfolding carried_parts
part_kept t t' o o' s s' cs cs' true true x y ps qs h e f = ap (option_map absent) f
part_kept t t' o o' s s' cs cs' false false x y ps qs h e f = put_part (grow s s' x) y (carried_parts true cs cs' ps) qs e f
part_kept t t' o o' s s' cs cs' true false x y ps qs h e f = cc
part_kept t t' o o' s s' cs cs' false true x y ps qs h e f = cc

either_same : (a a' b b' : Bool) → a ≡ a' → b ≡ b' → (a || b) ≡ (a' || b')
either_same a a' b b' e f = cc

-- a value that is unchanged
left_alone : (f : Value → Option Value) (n : Value → Value) (v u : Value) → f v ≡ Some (n v) → v ≡ u → f v ≡ Some (n u)
left_alone f n v u e h = subst (λ u. f v ≡ Some (n u)) h e

mutual
  unfolding normal normal_parts normal_alternative Extends ExtendsEach ExtendsAlternatives carried carried_parts carried_alternative

  pub normal_grown : (s s' : Schema) (v u : Value) → Extends s s' → grow s s' v ≡ Some u → Carries s s' v u
  normal_grown (sequence_of z c s) (sequence_of z' c' s') (members vs) u h e =
      let a = map_parts (map_each (λ v. grow s s' v) vs) members u e in
      subst (λ u. Carries (sequence_of z c s) (sequence_of z' c' s') (members vs) u) a.2
      (ap (option_map members) (members_carried (λ v. grow s s' v) (λ v. grow s s' v) (λ v. grow s s' v) (λ v. normal s v) (λ v. normal s' v) vs a.0 (λ v u i. normal_grown s s' v u h.2 i) a.1))
  normal_grown (sequence_of z c s) (sequence_of z' c' s') v u h e = left_alone (λ v. Some v) (λ v. normal (sequence_of z' c' s') v) v u refl (some_parts e)
  normal_grown (set_of z c s) (set_of z' c' s') (bag vs) u h e =
      let a = map_parts (map_each (λ v. grow s s' v) vs) bag u e in
      subst (λ u. Carries (set_of z c s) (set_of z' c' s') (bag vs) u) a.2
      (ap (option_map bag) (members_carried (λ v. grow s s' v) (λ v. grow s s' v) (λ v. grow s s' v) (λ v. normal s v) (λ v. normal s' v) vs a.0 (λ v u i. normal_grown s s' v u h.2 i) a.1))
  normal_grown (set_of z c s) (set_of z' c' s') v u h e = left_alone (λ v. Some v) (λ v. normal (set_of z' c' s') v) v u refl (some_parts e)
  normal_grown (sequence cs m adds) (sequence cs' m' adds') (fields ps qs) u h e =
      let a = both_parts_parts (carried_parts true cs cs' ps) (carried_parts true adds adds' qs) u e in
      subst (λ u. Carries (sequence cs m adds) (sequence cs' m' adds') (fields ps qs) u) a.4
      (both_parts_from _ _ (normal_parts cs' a.0) (normal_parts adds' a.1) (parts_normal false cs cs' ps a.0 h.0 a.2) (parts_normal m adds adds' qs a.1 h.2 a.3))
  normal_grown (sequence cs m adds) (sequence cs' m' adds') v u h e = left_alone (λ v. Some v) (λ v. normal (sequence cs' m' adds') v) v u refl (some_parts e)
  normal_grown (set cs m adds) (set cs' m' adds') (fields ps qs) u h e =
      let a = both_parts_parts (carried_parts true cs cs' ps) (carried_parts true adds adds' qs) u e in
      subst (λ u. Carries (set cs m adds) (set cs' m' adds') (fields ps qs) u) a.4
      (both_parts_from _ _ (normal_parts cs' a.0) (normal_parts adds' a.1) (parts_normal false cs cs' ps a.0 h.0 a.2) (parts_normal m adds adds' qs a.1 h.2 a.3))
  normal_grown (set cs m adds) (set cs' m' adds') v u h e = left_alone (λ v. Some v) (λ v. normal (set cs' m' adds') v) v u refl (some_parts e)
  normal_grown (group cs) (group cs') (fields ps qs) u h e =
      let a = both_parts_parts (carried_parts true cs cs' ps) (Some qs) u e in
      subst (λ u. Carries (group cs) (group cs') (fields ps qs) u) a.4 (both_parts_from _ _ (normal_parts cs' a.0) a.1 (parts_normal false cs cs' ps a.0 h a.2) a.3)
  normal_grown (group cs) (group cs') v u h e = left_alone (λ v. Some v) (λ v. normal (group cs') v) v u refl (some_parts e)
  normal_grown (choice roots m adds) (choice roots' m' adds') (chosen false i v) u h e =
      let a = map_parts (carried_alternative true roots roots' i v) (λ w. chosen false i w) u e in
      subst (λ u. Carries (choice roots m adds) (choice roots' m' adds') (chosen false i v) u) a.2 (ap (option_map (λ w. chosen false i w)) (alternative_normal false roots roots' i v a.0 h.0 a.1))
  normal_grown (choice roots m adds) (choice roots' m' adds') (chosen true i v) u h e =
      let a = map_parts (carried_alternative true adds adds' i v) (λ w. chosen true i w) u e in
      subst (λ u. Carries (choice roots m adds) (choice roots' m' adds') (chosen true i v) u) a.2 (ap (option_map (λ w. chosen true i w)) (alternative_normal m adds adds' i v a.0 h.2 a.1))
  normal_grown (choice roots m adds) (choice roots' m' adds') v u h e = left_alone (λ v. Some v) (λ v. normal (choice roots' m' adds') v) v u refl (some_parts e)
  normal_grown cut cut v u h e = e
  normal_grown boolean boolean v u h e = e
  normal_grown null null v u h e = e
  normal_grown object_identifier object_identifier v u h e = e
  normal_grown (integer b c) (integer b' c') v u h e = e
  normal_grown (enumerated rs m ds) (enumerated rs' m' ds') v u h e = e
  normal_grown (bit_string z c) (bit_string z' c') v u h e = e
  normal_grown (octet_string z c) (octet_string z' c') v u h e = e
  normal_grown (character_string k z a c) (character_string k' z' a' c') v u h e = e
  normal_grown s s' v u h e = absurd h

  parts_normal : (more : Bool) (cs cs' : Components) (ps us : Parts) → ExtendsEach more cs cs' → carried_parts true cs cs' ps
      ≡ Some us → carried_parts true cs cs' (normal_parts cs ps) ≡ Some (normal_parts cs' us)
  parts_normal more no_component cs' end us h e = e ∙ ap Some (sym (absent_stay cs' us e))
  parts_normal more no_component cs' (absent ps) us h e = cc
  parts_normal more no_component cs' (present v ps) us h e = cc
  parts_normal more (component t o s cs) no_component ps us h e = absurd h
  parts_normal more (component t o s cs) (component t' o' s' cs') end us h e = cc
  parts_normal more (component t o s cs) (component t' o' s' cs') (absent ps) us h e =
      let a = map_parts (carried_parts true cs cs' ps) absent us e in
      subst (λ us. carried_parts true (component t o s cs) (component t' o' s' cs') (absent (normal_parts cs ps))
      ≡ Some (normal_parts (component t' o' s' cs') us)) a.2 (ap (option_map absent) (parts_normal more cs cs' ps a.0 h.3 a.1))
  parts_normal more (component t o s cs) (component t' o' s' cs') (present v ps) us h e =
      let d = chain_parts (grow s s' v) (λ w. option_map (λ rs. present w rs) (carried_parts true cs cs' ps)) us e in
      let a = map_parts (carried_parts true cs cs' ps) (λ rs. present d.0 rs) us d.2 in
      let n : Carries s s' v d.0 = normal_grown s s' v d.0 h.2 d.1 in
      let tests = either_same _ _ _ _ (default_kept s s' o o' (normal s v) (normal s' d.0) h.2 h.1 n) (empty_kept s s' (normal s v) (normal s' d.0) h.2 n) in
      subst (λ us. carried_parts true (component t o s cs) (component t' o' s' cs')
      (normal_parts (component t o s cs) (present v ps)) ≡ Some (normal_parts (component t' o' s' cs') us)) a.2
      (part_kept t t' o o' s s' cs cs' _ _ (normal s v) (normal s' d.0) (normal_parts cs ps) (normal_parts cs' a.0) tests n (parts_normal more cs cs' ps a.0 h.3 a.1))

  alternative_normal : (more : Bool) (others others' : Alternatives) (i : ℕ) (v u : Value) →
      ExtendsAlternatives more others others' → carried_alternative true others others' i v ≡ Some u →
      carried_alternative true others others' i (normal_alternative others i v) ≡ Some (normal_alternative others' i u)
  alternative_normal more no_alternative others' i v u h e = cc
  alternative_normal more (alternative y s others) no_alternative i v u h e = absurd h
  alternative_normal more (alternative y s others) (alternative y' s' others') zero v u h e = normal_grown s s' v u h.1 e
  alternative_normal more (alternative y s others) (alternative y' s' others') (suc i) v u h e = alternative_normal more others others' i v u h.2 e

-- what is normal in the older version is normal in the newer one
pub grown_is_normal : (s s' : Schema) (v u : Value) → Extends s s' → is_normal s v ≡ true → grow s s' v ≡ Some u → is_normal s' u ≡ true
grown_is_normal s s' v u h n e =
    let a : grow s s' v ≡ Some (normal s' u) = ap (grow s s') (sym (normal_stays s v n)) ∙ normal_grown s s' v u h e in
    subst (λ w. is_normal s' w ≡ true) (some_parts (sym a ∙ e)) (normal_normal s' u)
