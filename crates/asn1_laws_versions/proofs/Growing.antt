-- A value of the older version can be carried over to the newer one if its normal form can.
use Rattle.std.proofs.Common.{◌≡◌, ◌⊎◌, inl, inr, ℕ, zero, suc, Bool, true, false, ◌||◌, List, Option, Some, None, option_map, option_and_then, refl, ap}
use Rattle.std.proofs.lemmas.Bool.{and_parts}
use Rattle.asn1_model.specs.Value.{Value, members, bag, fields, chosen, Values, no_more, member, Parts, end, absent, present, map_members, are_absent}
use Rattle.asn1_model.specs.Schema.{Tag, Presence, required, optional, by_default, Schema, cut, boolean, null, integer}
use Rattle.asn1_model.specs.Schema.{enumerated, bit_string, octet_string, character_string, object_identifier}
use Rattle.asn1_model.specs.Schema.{sequence_of, set_of, sequence, set, group, choice, Components, no_component}
use Rattle.asn1_model.specs.Schema.{component, Alternatives, no_alternative, alternative}
use Rattle.asn1_model.specs.Normal.{normal, normal_parts, normal_alternative, is_empty_group, is_default_by}
use Rattle.asn1_model.specs.Value.{are_all}
use Rattle.asn1_model.specs.Lawful.{is_of, are_of, is_of_alternative}
use Rattle.asn1_model.specs.Versions.{carried, grow, carried_parts, carried_alternative, map_each, KeepsPresence, Extends, ExtendsEach, ExtendsAlternatives}
use Rattle.asn1_model.proofs.Forms.{chain_parts, map_parts}
use Rattle.asn1_laws_versions.proofs.Extending.{both_parts_parts, both_parts_from}
use Rattle.asn1_laws_versions.proofs.Grown.{each_of, each_again}
use Rattle.asn1_laws_versions.proofs.Alike.{carried_alike}
use Rattle.asn1_laws_versions.proofs.Normals.{normal_grown}
use Rattle.std.specs.Prelude.{cond}

-- a value that can be carried over, and parts
abbrev Grows : (Value → Option Value) → Value → Type 0
Grows g v = (y : Value) × (g v ≡ Some y)

abbrev PartsGrow : Components → Components → Parts → Type 0
PartsGrow cs cs' ps = (qs : Parts) × (carried_parts true cs cs' ps ≡ Some qs)

either_true : (a b : Bool) → (a || b) ≡ true → (a ≡ true) ⊎ (b ≡ true)
either_true true b e = inl refl
either_true false b e = inr e

-- ---- elements
members_grow : (g : Value → Option Value) (f : Value → Value) (test : Value → Bool) (vs us : Values) →
    ((v u : Value) → test v ≡ true → g (f v) ≡ Some u → Grows g v) → are_all test vs ≡ true → map_each g (map_members f vs) ≡ Some us → (ws : Values) × (map_each g vs ≡ Some ws)
members_grow g f test no_more us k t e = (no_more, refl)
members_grow g f test (member v vs) us k t e =
    let p = and_parts _ _ t in
    let a = each_of g (f v) (map_members f vs) us e in
    let y = k v a.0 p.0 a.2 in
    let ys = members_grow g f test vs a.1 k p.1 a.3 in
    (member y.0 ys.0, each_again g v y.0 vs ys.0 y.1 ys.1)

-- ---- what is left out in the normal form
kept_absent : (t t' : List Tag) (o o' : Presence) (s s' : Schema) (cs cs' : Components) (b : Bool) (x : Value) (ps : Parts) →
    (are_absent ps ≡ true → PartsGrow cs cs' ps) → are_absent (cond b (absent ps) (present x ps)) ≡ true → PartsGrow (component t o s cs) (component t' o' s' cs') (cond b (absent ps) (present x ps))
unfolding carried_parts
kept_absent t t' o o' s s' cs cs' true x ps k a = let u = k a in (absent u.0, ap (option_map absent) u.1)
kept_absent t t' o o' s s' cs cs' false x ps k a = cc

-- a group with nothing left in it gains no parts
none_left : (cs cs' : Components) (ps : Parts) → ExtendsEach false cs cs' → are_of cs ps ≡ true → are_absent (normal_parts cs ps) ≡ true → PartsGrow cs cs' (normal_parts cs ps)
unfolding ExtendsEach are_of normal_parts carried_parts
none_left no_component no_component end h k a = (end, refl)
none_left no_component no_component (absent ps) h k a = cc
none_left no_component no_component (present v ps) h k a = cc
none_left no_component (component t' o' s' cs') ps h k a = absurd h
none_left (component t o s cs) no_component ps h k a = absurd h
none_left (component t o s cs) (component t' o' s' cs') end h k a = cc
none_left (component t o s cs) (component t' o' s' cs') (absent ps) h k a =
    let l = none_left cs cs' ps h.3 ((and_parts _ _ k).1) a in
    (absent l.0, ap (option_map absent) l.1)
none_left (component t o s cs) (component t' o' s' cs') (present v ps) h k a =
    kept_absent t t' o o' s s' cs cs' _ (normal s v) (normal_parts cs ps) (λ a. none_left cs cs' ps h.3 ((and_parts _ _ k).1) a) a

empty_grows : (s s' : Schema) (v : Value) → Extends s s' → is_of s v ≡ true → is_empty_group s (normal s v) ≡ true → Grows (λ v. grow s s' v) (normal s v)
unfolding Extends is_of normal carried
empty_grows (group cs) (group cs') (fields ps end) h k e =
    let l = none_left cs cs' ps h k e in
    (fields l.0 end, both_parts_from _ _ l.0 end l.1 refl)
empty_grows (group cs) (group cs') v h k e = cc
empty_grows (group cs) s' v h k e = absurd h
empty_grows s s' v h k e = cc

default_grows : (s s' : Schema) (o o' : Presence) (x : Value) → Extends s s' → KeepsPresence s s' o o' → is_default_by (λ d. normal s d) o x ≡ true → Grows (λ v. grow s s' v) x
default_grows s s' (by_default d) (by_default d') x h k e = let y = carried_alike s s' (normal s d) k.0 x h k.1 e in (y.0, y.1)
default_grows s s' (by_default d) required x h k e = absurd k
default_grows s s' (by_default d) optional x h k e = absurd k
default_grows s s' required o' x h k e = cc
default_grows s s' optional o' x h k e = cc

left_out_grows : (s s' : Schema) (o o' : Presence) (v : Value) → Extends s s' → KeepsPresence s s' o o' → is_of s v ≡ true →
    (is_default_by (λ d. normal s d) o (normal s v) ≡ true) ⊎ (is_empty_group s (normal s v) ≡ true) → Grows (λ v. grow s s' v) (normal s v)
left_out_grows s s' o o' v h p k (inl e) = default_grows s s' o o' (normal s v) h p e
left_out_grows s s' o o' v h p k (inr e) = empty_grows s s' v h k e

-- a part that is left out or kept, and the further ones
kept_grows : (t t' : List Tag) (o o' : Presence) (s s' : Schema) (cs cs' : Components) (b : Bool) (x : Value) (ps us : Parts) →
    (b ≡ true → Grows (λ v. grow s s' v) x) →
    carried_parts true (component t o s cs) (component t' o' s' cs') (cond b (absent ps) (present x ps)) ≡ Some us → Grows (λ v. grow s s' v) x × PartsGrow cs cs' ps
unfolding carried_parts
kept_grows t t' o o' s s' cs cs' true x ps us k e = let a = map_parts (carried_parts true cs cs' ps) absent us e in (k refl, (a.0, a.1))
kept_grows t t' o o' s s' cs cs' false x ps us k e =
    let d = chain_parts (grow s s' x) (λ w. option_map (λ rs. present w rs) (carried_parts true cs cs' ps)) us e in
    let a = map_parts (carried_parts true cs cs' ps) (λ rs. present d.0 rs) us d.2 in
    ((d.0, d.1), (a.0, a.1))

put_part : (o : Option Value) (w : Value) (p : Option Parts) (q : Parts) → o ≡ Some w → p ≡ Some q → option_and_then (λ w. option_map (λ q. present w q) p) o ≡ Some (present w q)
put_part o w p q e f = rw (e, f) refl

mutual
  unfolding normal normal_parts normal_alternative Extends ExtendsEach ExtendsAlternatives carried carried_parts carried_alternative is_of are_of is_of_alternative

  grows : (s s' : Schema) (v x : Value) → Extends s s' → is_of s v ≡ true → grow s s' (normal s v) ≡ Some x → Grows (λ v. grow s s' v) v
  grows (sequence_of z c s) (sequence_of z' c' s') (members vs) x h k e =
      let a = map_parts (map_each (λ v. grow s s' v) (map_members (λ v. normal s v) vs)) members x e in
      let l = members_grow (λ v. grow s s' v) (λ v. normal s v) (λ v. is_of s v) vs a.0 (λ v u i j. grows s s' v u h.2 i j) ((and_parts _ _ k).1) a.1 in
      (members l.0, ap (option_map members) l.1)
  grows (sequence_of z c s) (sequence_of z' c' s') v x h k e = cc
  grows (set_of z c s) (set_of z' c' s') (bag vs) x h k e =
      let a = map_parts (map_each (λ v. grow s s' v) (map_members (λ v. normal s v) vs)) bag x e in
      let l = members_grow (λ v. grow s s' v) (λ v. normal s v) (λ v. is_of s v) vs a.0 (λ v u i j. grows s s' v u h.2 i j) ((and_parts _ _ k).1) a.1 in
      (bag l.0, ap (option_map bag) l.1)
  grows (set_of z c s) (set_of z' c' s') v x h k e = cc
  grows (sequence cs m adds) (sequence cs' m' adds') (fields ps qs) x h k e =
      let a = both_parts_parts (carried_parts true cs cs' (normal_parts cs ps)) (carried_parts true adds adds' (normal_parts adds qs)) x e in
      let p = and_parts _ _ k in
      let l = parts_grow false cs cs' ps a.0 h.0 p.0 a.2 in
      let n = parts_grow m adds adds' qs a.1 h.2 p.1 a.3 in
      (fields l.0 n.0, both_parts_from _ _ l.0 n.0 l.1 n.1)
  grows (sequence cs m adds) (sequence cs' m' adds') v x h k e = cc
  grows (set cs m adds) (set cs' m' adds') (fields ps qs) x h k e =
      let a = both_parts_parts (carried_parts true cs cs' (normal_parts cs ps)) (carried_parts true adds adds' (normal_parts adds qs)) x e in
      let p = and_parts _ _ k in
      let l = parts_grow false cs cs' ps a.0 h.0 p.0 a.2 in
      let n = parts_grow m adds adds' qs a.1 h.2 p.1 a.3 in
      (fields l.0 n.0, both_parts_from _ _ l.0 n.0 l.1 n.1)
  grows (set cs m adds) (set cs' m' adds') v x h k e = cc
  grows (group cs) (group cs') (fields ps end) x h k e =
      let a = both_parts_parts (carried_parts true cs cs' (normal_parts cs ps)) (Some end) x e in
      let l = parts_grow false cs cs' ps a.0 h k a.2 in
      (fields l.0 end, both_parts_from _ _ l.0 end l.1 refl)
  grows (group cs) (group cs') v x h k e = cc
  grows (choice roots m adds) (choice roots' m' adds') (chosen false i v) x h k e =
      let a = map_parts (carried_alternative true roots roots' i (normal_alternative roots i v)) (λ w. chosen false i w) x e in
      let l = alternative_grows false roots roots' i v a.0 h.0 k a.1 in
      (chosen false i l.0, ap (option_map (λ w. chosen false i w)) l.1)
  grows (choice roots m adds) (choice roots' m' adds') (chosen true i v) x h k e =
      let a = map_parts (carried_alternative true adds adds' i (normal_alternative adds i v)) (λ w. chosen true i w) x e in
      let l = alternative_grows m adds adds' i v a.0 h.2 ((and_parts _ _ k).1) a.1 in
      (chosen true i l.0, ap (option_map (λ w. chosen true i w)) l.1)
  grows (choice roots m adds) (choice roots' m' adds') v x h k e = cc
  grows cut s' v x h k e = (v, refl)
  grows boolean s' v x h k e = (v, refl)
  grows null s' v x h k e = (v, refl)
  grows object_identifier s' v x h k e = (v, refl)
  grows (integer b c) s' v x h k e = (v, refl)
  grows (enumerated rs m ds) s' v x h k e = (v, refl)
  grows (bit_string z c) s' v x h k e = (v, refl)
  grows (octet_string z c) s' v x h k e = (v, refl)
  grows (character_string y z a c) s' v x h k e = (v, refl)
  grows s s' v x h k e = absurd h

  parts_grow : (more : Bool) (cs cs' : Components) (ps us : Parts) → ExtendsEach more cs cs' → are_of cs ps ≡ true → carried_parts true cs cs' (normal_parts cs ps) ≡ Some us → PartsGrow cs cs' ps
  parts_grow more no_component cs' end us h k e = (us, e)
  parts_grow more no_component cs' (absent ps) us h k e = cc
  parts_grow more no_component cs' (present v ps) us h k e = cc
  parts_grow more (component t o s cs) no_component ps us h k e = absurd h
  parts_grow more (component t o s cs) (component t' o' s' cs') end us h k e = cc
  parts_grow more (component t o s cs) (component t' o' s' cs') (absent ps) us h k e =
      let a = map_parts (carried_parts true cs cs' (normal_parts cs ps)) absent us e in
      let l = parts_grow more cs cs' ps a.0 h.3 ((and_parts _ _ k).1) a.1 in
      (absent l.0, ap (option_map absent) l.1)
  parts_grow more (component t o s cs) (component t' o' s' cs') (present v ps) us h k e =
      let p = and_parts _ _ k in
      let b = kept_grows t t' o o' s s' cs cs' _ (normal s v) (normal_parts cs ps) us (λ f. left_out_grows s s' o o' v h.2 h.1 p.0 (either_true _ _ f)) e in
      let y = grows s s' v b.0.0 h.2 p.0 b.0.1 in
      let l = parts_grow more cs cs' ps b.1.0 h.3 p.1 b.1.1 in
      (present y.0 l.0, put_part _ y.0 _ l.0 y.1 l.1)

  alternative_grows : (more : Bool) (others others' : Alternatives) (i : ℕ) (v x : Value) →
      ExtendsAlternatives more others others' → is_of_alternative others i v ≡ true →
      carried_alternative true others others' i (normal_alternative others i v) ≡ Some x → Grows (λ v. carried_alternative true others others' i v) v
  alternative_grows more no_alternative others' i v x h k e = cc
  alternative_grows more (alternative t s others) no_alternative i v x h k e = absurd h
  alternative_grows more (alternative t s others) (alternative t' s' others') zero v x h k e = grows s s' v x h.1 k e
  alternative_grows more (alternative t s others) (alternative t' s' others') (suc i) v x h k e = alternative_grows more others others' i v x h.2 k e

-- the normal form is carried over exactly if the value is, and as the normal form of that
pub normal_growth : (s s' : Schema) (u : Value) → Extends s s' → is_of s u ≡ true → grow s s' (normal s u) ≡ option_map (λ v. normal s' v) (grow s s' u)
normal_growth s s' u h k = both (grow s s' u) (grow s s' (normal s u)) (λ v e. normal_grown s s' u v h e) (λ x e. grows s s' u x h k e)
  where
    both : (o p : Option Value) → ((v : Value) → o ≡ Some v → p ≡ Some (normal s' v)) → ((x : Value) → p ≡ Some x → (y : Value) × (o ≡ Some y)) → p ≡ option_map (λ v. normal s' v) o
    both (Some v) p f g = f v refl
    both None None f g = refl
    both None (Some x) f g = let y = g x refl in let e : None ≡ Some y.0 = y.1 in cc
