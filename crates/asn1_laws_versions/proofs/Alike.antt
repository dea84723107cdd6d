-- Of equal values, both or neither can be carried over to a newer version.
use Rattle.std.proofs.Common.{◌≡◌, ℕ, zero, suc, Bool, true, false, List, [], ◌∷◌, Option, Some, option_map, option_and_then, refl, ap, sym, ◌∙◌, subst}
use Rattle.std.proofs.lemmas.Bool.{and_parts, eqb-true}
use Rattle.asn1_model.specs.Value.{Value, members, bag, fields, chosen, Values, no_more, member, values_of, Parts, end, absent, present, same, same_members, same_parts}
use Rattle.asn1_model.specs.Schema.{Schema, cut, boolean, null, integer, enumerated, bit_string, octet_string}
use Rattle.asn1_model.specs.Schema.{character_string, object_identifier, sequence_of, set_of, sequence, set, group}
use Rattle.asn1_model.specs.Schema.{choice, Components, no_component, component, Alternatives, no_alternative}
use Rattle.asn1_model.specs.Schema.{alternative}
use Rattle.asn1_model.specs.Form.{pick, arranged}
use Rattle.asn1_model.specs.Versions.{carried, grow, carried_parts, carried_alternative, map_each, Extends, ExtendsEach, ExtendsAlternatives}
use Rattle.asn1_model.proofs.Forms.{chain_parts, map_parts}
use Rattle.asn1_laws_values.proofs.Messages.{some_parts}
use Rattle.asn1_laws_values.proofs.Arranged.{arranged_parts}
use Rattle.asn1_laws_values.proofs.Listed.{listed, listed_again}
use Rattle.asn1_laws_values.proofs.Bags.{EachSame, bag_matched}
use Rattle.asn1_laws_versions.proofs.Extending.{both_parts_parts, both_parts_from}
use Rattle.asn1_laws_versions.proofs.Grown.{each_of, each_again, same_grown}

-- a value that can be carried over
abbrev Grows : (Value → Option Value) → Value → Type 0
Grows g v = (y : Value) × (g v ≡ Some y)

-- a function for which a value can be carried over if an equal one can
abbrev GrowsAlike : (Value → Option Value) → Type 0
GrowsAlike g = (v x w : Value) → g v ≡ Some x → same w v ≡ true → Grows g w

false_true : {X : Type 0} → false ≡ true → X
false_true e = cc

-- ---- elements
members_grow : (g : Value → Option Value) (vs us ws : Values) → GrowsAlike g → map_each g vs ≡ Some us → same_members ws vs ≡ true → (ys : Values) × (map_each g ws ≡ Some ys)
unfolding same_members
members_grow g no_more us no_more k e f = (no_more, refl)
members_grow g no_more us (member w ws) k e f = false_true f
members_grow g (member v vs) us no_more k e f = false_true f
members_grow g (member v vs) us (member w ws) k e f =
    let a = each_of g v vs us e in
    let p = and_parts _ _ f in
    let y = k v a.0 w a.2 p.0 in
    let ys = members_grow g vs a.1 ws k a.3 p.1 in
    (member y.0 ys.0, each_again g w y.0 ws ys.0 y.1 ys.1)

-- ---- SET OF
abbrev EachGrows : (Value → Option Value) → List Value → Type 0
EachGrows g [] = Unit {0}
EachGrows g (v ∷ vs) = Grows g v × EachGrows g vs

each_grows : (g : Value → Option Value) (vs us : Values) → map_each g vs ≡ Some us → EachGrows g (listed vs)
each_grows g no_more us e = tt
each_grows g (member v vs) us e = let a = each_of g v vs us e in ((a.0, a.2), each_grows g vs a.1 a.3)

all_grow : (g : Value → Option Value) (vs : List Value) → EachGrows g vs → (ys : Values) × (map_each g (values_of vs) ≡ Some ys)
all_grow g [] h = (no_more, refl)
all_grow g (v ∷ vs) h = let ys = all_grow g vs h.1 in (member h.0.0 ys.0, each_again g v h.0.0 (values_of vs) ys.0 h.0.1 ys.1)

picked_grows : (g : Value → Option Value) (i : ℕ) (vs : List Value) (w : Value) (rest : List Value) → EachGrows g vs → pick i vs ≡ Some (w, rest) → Grows g w × EachGrows g rest
picked_grows g i [] w rest h e = cc
picked_grows g zero (v ∷ vs) w rest h e =
    let p : Value × List Value = (v, vs) in
    let q : Value × List Value = (w, rest) in
    let f : p ≡ q = some_parts e in
    (subst (λ w. Grows g w) (ap (λ (r : Value × List Value). r.0) f) h.0, subst (λ l. EachGrows g l) (ap (λ (r : Value × List Value). r.1) f) h.1)
picked_grows g (suc i) (v ∷ vs) w rest h e =
    let q = map_parts (pick i vs) (λ (p : Value × List Value). (p.0, v ∷ p.1)) (w, rest) e in
    let c : q.0.0 ≡ w = ap (λ (p : Value × List Value). p.0) q.2 in
    let d : v ∷ q.0.1 ≡ rest = ap (λ (p : Value × List Value). p.1) q.2 in
    let r = picked_grows g i vs q.0.0 q.0.1 h.1 q.1 in
    (subst (λ w. Grows g w) c r.0, subst (λ l. EachGrows g l) d (h.0, r.1))

arranged_grows : (g : Value → Option Value) (is : List ℕ) (vs ws : List Value) → EachGrows g vs → arranged is vs ≡ Some ws → EachGrows g ws
arranged_grows g [] [] ws h e = subst (λ l. EachGrows g l) (some_parts e) tt
arranged_grows g [] (v ∷ vs) ws h e = cc
arranged_grows g (i ∷ is) vs ws h e =
    let q = arranged_parts i is vs ws e in
    let p = picked_grows g i vs q.0 q.1 h q.3 in
    subst (λ l. EachGrows g l) q.5 (p.0, arranged_grows g is q.1 q.2 p.1 q.4)

paired_grows : (g : Value → Option Value) (ws vs : List Value) → GrowsAlike g → EachSame ws vs → EachGrows g vs → EachGrows g ws
paired_grows g [] [] k s h = tt
paired_grows g [] (v ∷ vs) k s h = absurd s
paired_grows g (w ∷ ws) [] k s h = absurd s
paired_grows g (w ∷ ws) (v ∷ vs) k s h = (k v h.0.0 w h.0.1 s.0, paired_grows g ws vs k s.1 h.1)

bag_grows : (g : Value → Option Value) (vs us ws : Values) → GrowsAlike g → map_each g vs ≡ Some us → same (bag ws) (bag vs) ≡ true → (ys : Values) × (map_each g ws ≡ Some ys)
unfolding same
bag_grows g vs us ws k e f =
    let m = bag_matched ws vs f in
    let a = all_grow g (listed ws) (paired_grows g (listed ws) m.1 k m.3 (arranged_grows g m.0 (listed vs) m.1 (each_grows g vs us e) m.2)) in
    (a.0, ap (map_each g) (sym (listed_again ws)) ∙ a.1)

-- ---- parts
put_part : (o : Option Value) (w : Value) (p : Option Parts) (q : Parts) → o ≡ Some w → p ≡ Some q → option_and_then (λ w. option_map (λ q. present w q) p) o ≡ Some (present w q)
put_part o w p q e f = rw (e, f) refl

-- ---- choices
same_choice : (b : Bool) (i j : ℕ) (v w : Value) → same (chosen b j w) (chosen b i v) ≡ true → (j ≡ i) × (same w v ≡ true)
unfolding same
same_choice b i j v w f =
    let p = and_parts _ _ f in
    (eqb-true j i ((and_parts _ _ p.0).1), p.1)

at_place : (others others' : Alternatives) (i j : ℕ) (w : Value) → j ≡ i → Grows (λ v. carried_alternative true others others' i v) w → Grows (λ v. carried_alternative true others others' j v) w
at_place others others' i j w n h = subst (λ k. Grows (λ v. carried_alternative true others others' k v) w) (sym n) h

mutual
  unfolding same same_parts Extends ExtendsEach ExtendsAlternatives carried carried_parts carried_alternative

  grows_alike : (s s' : Schema) (v x w : Value) → Extends s s' → grow s s' v ≡ Some x → same w v ≡ true → Grows (λ v. grow s s' v) w
  grows_alike (sequence_of z c s) (sequence_of z' c' s') (members vs) x (members ws) h e f =
      let a = map_parts (map_each (λ v. grow s s' v) vs) members x e in
      let l = members_grow (λ v. grow s s' v) vs a.0 ws (λ v x w i j. grows_alike s s' v x w h.2 i j) a.1 f in
      (members l.0, ap (option_map members) l.1)
  grows_alike (sequence_of z c s) (sequence_of z' c' s') v x (members ws) h e f = false_true f
  grows_alike (sequence_of z c s) (sequence_of z' c' s') v x w h e f = (w, refl)
  grows_alike (set_of z c s) (set_of z' c' s') (bag vs) x (bag ws) h e f =
      let a = map_parts (map_each (λ v. grow s s' v) vs) bag x e in
      let l = bag_grows (λ v. grow s s' v) vs a.0 ws (λ v x w i j. grows_alike s s' v x w h.2 i j) a.1 f in
      (bag l.0, ap (option_map bag) l.1)
  grows_alike (set_of z c s) (set_of z' c' s') v x (bag ws) h e f = false_true f
  grows_alike (set_of z c s) (set_of z' c' s') v x w h e f = (w, refl)
  grows_alike (sequence cs m adds) (sequence cs' m' adds') (fields ps qs) x (fields rs ts) h e f =
      let a = both_parts_parts (carried_parts true cs cs' ps) (carried_parts true adds adds' qs) x e in
      let p = and_parts _ _ f in
      let l = parts_alike false cs cs' ps a.0 rs h.0 a.2 p.0 in
      let n = parts_alike m adds adds' qs a.1 ts h.2 a.3 p.1 in
      (fields l.0 n.0, both_parts_from _ _ l.0 n.0 l.1 n.1)
  grows_alike (sequence cs m adds) (sequence cs' m' adds') v x (fields rs ts) h e f = false_true f
  grows_alike (sequence cs m adds) (sequence cs' m' adds') v x w h e f = (w, refl)
  grows_alike (set cs m adds) (set cs' m' adds') (fields ps qs) x (fields rs ts) h e f =
      let a = both_parts_parts (carried_parts true cs cs' ps) (carried_parts true adds adds' qs) x e in
      let p = and_parts _ _ f in
      let l = parts_alike false cs cs' ps a.0 rs h.0 a.2 p.0 in
      let n = parts_alike m adds adds' qs a.1 ts h.2 a.3 p.1 in
      (fields l.0 n.0, both_parts_from _ _ l.0 n.0 l.1 n.1)
  grows_alike (set cs m adds) (set cs' m' adds') v x (fields rs ts) h e f = false_true f
  grows_alike (set cs m adds) (set cs' m' adds') v x w h e f = (w, refl)
  grows_alike (group cs) (group cs') (fields ps qs) x (fields rs ts) h e f =
      let a = both_parts_parts (carried_parts true cs cs' ps) (Some qs) x e in
      let l = parts_alike false cs cs' ps a.0 rs h a.2 ((and_parts _ _ f).0) in
      (fields l.0 ts, both_parts_from _ _ l.0 ts l.1 refl)
  grows_alike (group cs) (group cs') v x (fields rs ts) h e f = false_true f
  grows_alike (group cs) (group cs') v x w h e f = (w, refl)
  grows_alike (choice roots m adds) (choice roots' m' adds') (chosen false i v) x (chosen false j w) h e f =
      let a = map_parts (carried_alternative true roots roots' i v) (λ w. chosen false i w) x e in
      let p = same_choice false i j v w f in
      let l = at_place roots roots' i j w p.0 (alternative_alike false roots roots' i v a.0 w h.0 a.1 p.1) in
      (chosen false j l.0, ap (option_map (λ w. chosen false j w)) l.1)
  grows_alike (choice roots m adds) (choice roots' m' adds') (chosen true i v) x (chosen true j w) h e f =
      let a = map_parts (carried_alternative true adds adds' i v) (λ w. chosen true i w) x e in
      let p = same_choice true i j v w f in
      let l = at_place adds adds' i j w p.0 (alternative_alike m adds adds' i v a.0 w h.2 a.1 p.1) in
      (chosen true j l.0, ap (option_map (λ w. chosen true j w)) l.1)
  grows_alike (choice roots m adds) (choice roots' m' adds') v x (chosen b j w) h e f = false_true f
  grows_alike (choice roots m adds) (choice roots' m' adds') v x w h e f = (w, refl)
  grows_alike cut s' v x w h e f = (w, refl)
  grows_alike boolean s' v x w h e f = (w, refl)
  grows_alike null s' v x w h e f = (w, refl)
  grows_alike object_identifier s' v x w h e f = (w, refl)
  grows_alike (integer b c) s' v x w h e f = (w, refl)
  grows_alike (enumerated rs m ds) s' v x w h e f = (w, refl)
  grows_alike (bit_string z c) s' v x w h e f = (w, refl)
  grows_alike (octet_string z c) s' v x w h e f = (w, refl)
  grows_alike (character_string k z a c) s' v x w h e f = (w, refl)
  grows_alike s s' v x w h e f = absurd h

  parts_alike : (more : Bool) (cs cs' : Components) (ps us qs : Parts) → ExtendsEach more cs cs' → carried_parts true cs cs' ps
      ≡ Some us → same_parts qs ps ≡ true → (rs : Parts) × (carried_parts true cs cs' qs ≡ Some rs)
  parts_alike more no_component cs' end us end h e f = (us, e)
  parts_alike more no_component cs' end us (absent qs) h e f = false_true f
  parts_alike more no_component cs' end us (present w qs) h e f = false_true f
  parts_alike more no_component cs' (absent ps) us qs h e f = cc
  parts_alike more no_component cs' (present v ps) us qs h e f = cc
  parts_alike more (component t o s cs) no_component ps us qs h e f = absurd h
  parts_alike more (component t o s cs) (component t' o' s' cs') end us qs h e f = cc
  parts_alike more (component t o s cs) (component t' o' s' cs') (absent ps) us (absent qs) h e f =
      let a = map_parts (carried_parts true cs cs' ps) absent us e in
      let l = parts_alike more cs cs' ps a.0 qs h.3 a.1 f in
      (absent l.0, ap (option_map absent) l.1)
  parts_alike more (component t o s cs) (component t' o' s' cs') (absent ps) us qs h e f = false_true f
  parts_alike more (component t o s cs) (component t' o' s' cs') (present v ps) us (present w qs) h e f =
      let d = chain_parts (grow s s' v) (λ w. option_map (λ rs. present w rs) (carried_parts true cs cs' ps)) us e in
      let a = map_parts (carried_parts true cs cs' ps) (λ rs. present d.0 rs) us d.2 in
      let p = and_parts _ _ f in
      let k = grows_alike s s' v d.0 w h.2 d.1 p.0 in
      let l = parts_alike more cs cs' ps a.0 qs h.3 a.1 p.1 in
      (present k.0 l.0, put_part _ k.0 _ l.0 k.1 l.1)
  parts_alike more (component t o s cs) (component t' o' s' cs') (present v ps) us qs h e f = false_true f

  alternative_alike : (more : Bool) (others others' : Alternatives) (i : ℕ) (v x w : Value) →
      ExtendsAlternatives more others others' → carried_alternative true others others' i v ≡ Some x → same w v ≡ true → Grows (λ v. carried_alternative true others others' i v) w
  alternative_alike more no_alternative others' i v x w h e f = cc
  alternative_alike more (alternative t s others) no_alternative i v x w h e f = absurd h
  alternative_alike more (alternative t s others) (alternative t' s' others') zero v x w h e f = grows_alike s s' v x w h.1 e f
  alternative_alike more (alternative t s others) (alternative t' s' others') (suc i) v x w h e f = alternative_alike more others others' i v x w h.2 e f

-- and the results are equal
pub carried_alike : (s s' : Schema) (v x w : Value) → Extends s s' → grow s s' v ≡ Some x → same w v ≡ true → (y : Value) × (grow s s' w ≡ Some y) × (same y x ≡ true)
carried_alike s s' v x w h e f =
    let y = grows_alike s s' v x w h e f in
    (y.0, y.1, same_grown s s' w v y.0 x h y.1 e ∙ f)
