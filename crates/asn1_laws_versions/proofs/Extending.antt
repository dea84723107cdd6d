-- Growing twice is growing once.
use Rattle.std.proofs.Common.{◌≡◌, ℕ, zero, suc, Bool, true, false, List, Option, Some, None, option_map, option_and_then, refl, ap, sym, ◌∙◌, subst}
use Rattle.asn1_model.specs.Value.{Value, members, bag, fields, chosen, Values, no_more, member, Parts, end, absent, present}
use Rattle.asn1_model.specs.Schema.{Tag, Presence, required, optional, by_default, Schema, cut, boolean, null, integer}
use Rattle.asn1_model.specs.Schema.{enumerated, bit_string, octet_string, character_string, object_identifier}
use Rattle.asn1_model.specs.Schema.{sequence_of, set_of, sequence, set, group, choice, Components, no_component}
use Rattle.asn1_model.specs.Schema.{component, Alternatives, no_alternative, alternative}
use Rattle.asn1_model.specs.Versions.{carried, grow, carried_parts, carried_alternative, all_absent, map_each, both_parts, KeepsPresence, Extends, ExtendsEach, ExtendsAlternatives}
use Rattle.asn1_model.proofs.Forms.{chain_parts, map_parts}
use Rattle.asn1_laws_values.proofs.Messages.{some_parts}

pub both_parts_parts : (o p : Option Parts) (u : Value) → both_parts o p ≡ Some u → (ps : Parts) × (qs : Parts) × (o ≡ Some ps) × (p ≡ Some qs) × (fields ps qs ≡ u)
both_parts_parts None p u e = cc
both_parts_parts (Some ps) None u e = cc
both_parts_parts (Some ps) (Some qs) u e = (ps, qs, refl, refl, some_parts e)

pub both_parts_from : (o p : Option Parts) (ps qs : Parts) → o ≡ Some ps → p ≡ Some qs → both_parts o p ≡ Some (fields ps qs)
both_parts_from o p ps qs e f = rw (e, f) refl

-- ---- growing twice
each_twice : (f g h : Value → Option Value) (vs us ws : Values) → ((v u w : Value) → f v ≡ Some u → g u ≡ Some w → h v ≡ Some w) →
    map_each f vs ≡ Some us → map_each g us ≡ Some ws → map_each h vs ≡ Some ws
each_twice f g h no_more us ws k e i = let a : no_more ≡ us = some_parts e in subst (λ us. map_each g us ≡ Some ws) (sym a) i
each_twice f g h (member v vs) us ws k e i =
    let a = chain_parts (f v) (λ w. option_map (λ ws. member w ws) (map_each f vs)) us e in
    let b = map_parts (map_each f vs) (λ ws. member a.0 ws) us a.2 in
    let j : map_each g (member a.0 b.0) ≡ Some ws = subst (λ us. map_each g us ≡ Some ws) (sym b.2) i in
    let c = chain_parts (g a.0) (λ w. option_map (λ ws. member w ws) (map_each g b.0)) ws j in
    let d = map_parts (map_each g b.0) (λ ws. member c.0 ws) ws c.2 in
    rest (h v) c.0 (map_each h vs) d.0 (k v a.0 c.0 a.1 c.1) (each_twice f g h vs b.0 d.0 k b.1 d.1) ∙ ap Some d.2
  where
    rest : (o : Option Value) (w : Value) (p : Option Values) (ws : Values) → o ≡ Some w → p ≡ Some ws → option_and_then (λ w. option_map (λ ws. member w ws) p) o ≡ Some (member w ws)
    rest o w p ws e f = rw (e, f) refl

kept_absent : (s s' : Schema) (o o' : Presence) (t t' : List Tag) (cs cs' : Components) (us : Parts) (p : Option Parts) →
    KeepsPresence s s' o o' → all_absent (component t o s cs) ≡ Some us → p ≡ all_absent cs' → option_map absent p ≡ all_absent (component t' o' s' cs')
kept_absent s s' required required t t' cs cs' us p h e q = cc
kept_absent s s' optional optional t t' cs cs' us p h e q = ap (option_map absent) q
kept_absent s s' (by_default d) (by_default d') t t' cs cs' us p h e q = ap (option_map absent) q
kept_absent s s' o o' t t' cs cs' us p h e q = absurd h

pub absent_of : (o : Presence) (s : Schema) (t : List Tag) (cs : Components) (us : Parts) → all_absent (component t o s cs) ≡ Some us → (ps : Parts) × (all_absent cs ≡ Some ps) × (absent ps ≡ us)
absent_of required s t cs us e = cc
absent_of optional s t cs us e = map_parts (all_absent cs) absent us e
absent_of (by_default d) s t cs us e = map_parts (all_absent cs) absent us e

-- what is absent in one version is absent in the next
absent_twice : (more : Bool) (cs cs' : Components) (us : Parts) → ExtendsEach more cs cs' → all_absent cs ≡ Some us → carried_parts true cs cs' us ≡ all_absent cs'
unfolding ExtendsEach carried_parts
absent_twice more no_component cs' us h e = let a : end ≡ us = some_parts e in subst (λ us. carried_parts true no_component cs' us ≡ all_absent cs') a refl
absent_twice more (component t o s cs) no_component us h e = absurd h
absent_twice more (component t o s cs) (component t' o' s' cs') us h e =
    let b = absent_of o s t cs us e in
    subst (λ us. carried_parts true (component t o s cs) (component t' o' s' cs') us ≡ all_absent (component t' o' s' cs')) b.2
    (kept_absent s s' o o' t t' cs cs' us (carried_parts true cs cs' b.0) h.1 e (absent_twice more cs cs' b.0 h.3 b.1))

-- a value that is unchanged
stays : (f : Value → Option Value) (v u w : Value) → Some v ≡ Some u → f u ≡ Some w → f v ≡ Some w
stays f v u w e i = subst (λ u. f u ≡ Some w) (sym (some_parts e)) i

mutual
  unfolding Extends ExtendsEach ExtendsAlternatives carried carried_parts carried_alternative

  pub grown_twice : (s t r : Schema) (v u w : Value) → Extends s t → Extends t r → grow s t v ≡ Some u → grow t r u ≡ Some w → grow s r v ≡ Some w
  grown_twice (sequence_of z c s) (sequence_of z' c' t) (sequence_of y d r) (members vs) u w h k e f =
      let a = map_parts (map_each (λ v. grow s t v) vs) members u e in
      let g : grow (sequence_of z' c' t) (sequence_of y d r) (members a.0) ≡ Some w = subst (λ u. grow (sequence_of z' c' t) (sequence_of y d r) u ≡ Some w) (sym a.2) f in
      let b = map_parts (map_each (λ v. grow t r v) a.0) members w g in
      ap (option_map members) (each_twice (λ v. grow s t v) (λ v. grow t r v) (λ v. grow s r v) vs a.0 b.0 (λ v u w i j. grown_twice s t r v u w h.2 k.2 i j) a.1 b.1) ∙ ap Some b.2
  grown_twice (sequence_of z c s) (sequence_of z' c' t) (sequence_of y d r) v u w h k e f = stays (λ u. grow (sequence_of z' c' t) (sequence_of y d r) u) v u w e f
  grown_twice (sequence_of z c s) (sequence_of z' c' t) r v u w h k e f = absurd k
  grown_twice (set_of z c s) (set_of z' c' t) (set_of y d r) (bag vs) u w h k e f =
      let a = map_parts (map_each (λ v. grow s t v) vs) bag u e in
      let g : grow (set_of z' c' t) (set_of y d r) (bag a.0) ≡ Some w = subst (λ u. grow (set_of z' c' t) (set_of y d r) u ≡ Some w) (sym a.2) f in
      let b = map_parts (map_each (λ v. grow t r v) a.0) bag w g in
      ap (option_map bag) (each_twice (λ v. grow s t v) (λ v. grow t r v) (λ v. grow s r v) vs a.0 b.0 (λ v u w i j. grown_twice s t r v u w h.2 k.2 i j) a.1 b.1) ∙ ap Some b.2
  grown_twice (set_of z c s) (set_of z' c' t) (set_of y d r) v u w h k e f = stays (λ u. grow (set_of z' c' t) (set_of y d r) u) v u w e f
  grown_twice (set_of z c s) (set_of z' c' t) r v u w h k e f = absurd k
  grown_twice (sequence cs a adds) (sequence cs' a' adds') (sequence ds b addeds) (fields ps qs) u w h k e f =
      let x = both_parts_parts (carried_parts true cs cs' ps) (carried_parts true adds adds' qs) u e in
      let g : grow (sequence cs' a' adds') (sequence ds b addeds) (fields x.0 x.1) ≡ Some w = subst (λ u. grow (sequence cs' a' adds') (sequence ds b addeds) u ≡ Some w) (sym x.4) f in
      let y = both_parts_parts (carried_parts true cs' ds x.0) (carried_parts true adds' addeds x.1) w g in
      both_parts_from _ _ y.0 y.1 (parts_twice false false cs cs' ds ps x.0 y.0 h.0 k.0 x.2 y.2) (parts_twice a a' adds adds' addeds qs x.1 y.1 h.2 k.2 x.3 y.3) ∙ ap Some y.4
  grown_twice (sequence cs a adds) (sequence cs' a' adds') (sequence ds b addeds) v u w h k e f = stays (λ u. grow (sequence cs' a' adds') (sequence ds b addeds) u) v u w e f
  grown_twice (sequence cs a adds) (sequence cs' a' adds') r v u w h k e f = absurd k
  grown_twice (set cs a adds) (set cs' a' adds') (set ds b addeds) (fields ps qs) u w h k e f =
      let x = both_parts_parts (carried_parts true cs cs' ps) (carried_parts true adds adds' qs) u e in
      let g : grow (set cs' a' adds') (set ds b addeds) (fields x.0 x.1) ≡ Some w = subst (λ u. grow (set cs' a' adds') (set ds b addeds) u ≡ Some w) (sym x.4) f in
      let y = both_parts_parts (carried_parts true cs' ds x.0) (carried_parts true adds' addeds x.1) w g in
      both_parts_from _ _ y.0 y.1 (parts_twice false false cs cs' ds ps x.0 y.0 h.0 k.0 x.2 y.2) (parts_twice a a' adds adds' addeds qs x.1 y.1 h.2 k.2 x.3 y.3) ∙ ap Some y.4
  grown_twice (set cs a adds) (set cs' a' adds') (set ds b addeds) v u w h k e f = stays (λ u. grow (set cs' a' adds') (set ds b addeds) u) v u w e f
  grown_twice (set cs a adds) (set cs' a' adds') r v u w h k e f = absurd k
  grown_twice (group cs) (group cs') (group ds) (fields ps qs) u w h k e f =
      let x = both_parts_parts (carried_parts true cs cs' ps) (Some qs) u e in
      let g : grow (group cs') (group ds) (fields x.0 x.1) ≡ Some w = subst (λ u. grow (group cs') (group ds) u ≡ Some w) (sym x.4) f in
      let y = both_parts_parts (carried_parts true cs' ds x.0) (Some x.1) w g in
      both_parts_from _ _ y.0 y.1 (parts_twice false false cs cs' ds ps x.0 y.0 h k x.2 y.2) (x.3 ∙ y.3) ∙ ap Some y.4
  grown_twice (group cs) (group cs') (group ds) v u w h k e f = stays (λ u. grow (group cs') (group ds) u) v u w e f
  grown_twice (group cs) (group cs') r v u w h k e f = absurd k
  grown_twice (choice roots a adds) (choice roots' a' adds') (choice others b addeds) (chosen false i v) u w h k e f =
      let x = map_parts (carried_alternative true roots roots' i v) (λ w. chosen false i w) u e in
      let g : grow (choice roots' a' adds') (choice others b addeds) (chosen false i x.0) ≡ Some w = subst (λ u. grow (choice roots' a' adds') (choice others b addeds) u ≡ Some w) (sym x.2) f in
      let y = map_parts (carried_alternative true roots' others i x.0) (λ w. chosen false i w) w g in
      ap (option_map (λ w. chosen false i w)) (alternative_twice false false roots roots' others i v x.0 y.0 h.0 k.0 x.1 y.1) ∙ ap Some y.2
  grown_twice (choice roots a adds) (choice roots' a' adds') (choice others b addeds) (chosen true i v) u w h k e f =
      let x = map_parts (carried_alternative true adds adds' i v) (λ w. chosen true i w) u e in
      let g : grow (choice roots' a' adds') (choice others b addeds) (chosen true i x.0) ≡ Some w = subst (λ u. grow (choice roots' a' adds') (choice others b addeds) u ≡ Some w) (sym x.2) f in
      let y = map_parts (carried_alternative true adds' addeds i x.0) (λ w. chosen true i w) w g in
      ap (option_map (λ w. chosen true i w)) (alternative_twice a a' adds adds' addeds i v x.0 y.0 h.2 k.2 x.1 y.1) ∙ ap Some y.2
  grown_twice (choice roots a adds) (choice roots' a' adds') (choice others b addeds) v u w h k e f = stays (λ u. grow (choice roots' a' adds') (choice others b addeds) u) v u w e f
  grown_twice (choice roots a adds) (choice roots' a' adds') r v u w h k e f = absurd k
  grown_twice cut cut r v u w h k e f = stays (λ u. grow cut r u) v u w e f
  grown_twice boolean boolean r v u w h k e f = stays (λ u. grow boolean r u) v u w e f
  grown_twice null null r v u w h k e f = stays (λ u. grow null r u) v u w e f
  grown_twice object_identifier object_identifier r v u w h k e f = stays (λ u. grow object_identifier r u) v u w e f
  grown_twice (integer b c) (integer b' c') r v u w h k e f = stays (λ u. grow (integer b' c') r u) v u w e f
  grown_twice (enumerated rs m ds) (enumerated rs' m' ds') r v u w h k e f = stays (λ u. grow (enumerated rs' m' ds') r u) v u w e f
  grown_twice (bit_string z c) (bit_string z' c') r v u w h k e f = stays (λ u. grow (bit_string z' c') r u) v u w e f
  grown_twice (octet_string z c) (octet_string z' c') r v u w h k e f = stays (λ u. grow (octet_string z' c') r u) v u w e f
  grown_twice (character_string n z a c) (character_string n' z' a' c') r v u w h k e f = stays (λ u. grow (character_string n' z' a' c') r u) v u w e f
  grown_twice s t r v u w h k e f = absurd h

  parts_twice : (more more' : Bool) (cs ds es : Components) (ps qs rs : Parts) → ExtendsEach more cs ds → ExtendsEach more' ds es →
      carried_parts true cs ds ps ≡ Some qs → carried_parts true ds es qs ≡ Some rs → carried_parts true cs es ps ≡ Some rs
  parts_twice more more' no_component ds es end qs rs h k e f = sym (absent_twice more' ds es qs k e) ∙ f
  parts_twice more more' no_component ds es (absent ps) qs rs h k e f = cc
  parts_twice more more' no_component ds es (present v ps) qs rs h k e f = cc
  parts_twice more more' (component t o s cs) no_component es ps qs rs h k e f = absurd h
  parts_twice more more' (component t o s cs) (component t' o' s' ds) no_component ps qs rs h k e f = absurd k
  parts_twice more more' (component t o s cs) (component t' o' s' ds) (component y i r es) end qs rs h k e f = cc
  parts_twice more more' (component t o s cs) (component t' o' s' ds) (component y i r es) (absent ps) qs rs h k e f =
      let a = map_parts (carried_parts true cs ds ps) absent qs e in
      let g : carried_parts true (component t' o' s' ds) (component y i r es) (absent a.0) ≡ Some rs =
      subst (λ q. carried_parts true (component t' o' s' ds) (component y i r es) q ≡ Some rs) (sym a.2) f in
      let b = map_parts (carried_parts true ds es a.0) absent rs g in
      ap (option_map absent) (parts_twice more more' cs ds es ps a.0 b.0 h.3 k.3 a.1 b.1) ∙ ap Some b.2
  parts_twice more more' (component t o s cs) (component t' o' s' ds) (component y i r es) (present v ps) qs rs h k e f =
      let a = chain_parts (grow s s' v) (λ w. option_map (λ q. present w q) (carried_parts true cs ds ps)) qs e in
      let b = map_parts (carried_parts true cs ds ps) (λ q. present a.0 q) qs a.2 in
      let g : carried_parts true (component t' o' s' ds) (component y i r es) (present a.0 b.0) ≡ Some rs =
      subst (λ q. carried_parts true (component t' o' s' ds) (component y i r es) q ≡ Some rs) (sym b.2) f in
      let c = chain_parts (grow s' r a.0) (λ w. option_map (λ q. present w q) (carried_parts true ds es b.0)) rs g in
      let d = map_parts (carried_parts true ds es b.0) (λ q. present c.0 q) rs c.2 in
      put (grow s r v) c.0 (carried_parts true cs es ps) d.0 (grown_twice s s' r v a.0 c.0 h.2 k.2 a.1 c.1) (parts_twice more more' cs ds es ps b.0 d.0 h.3 k.3 b.1 d.1) ∙ ap Some d.2
    where
      put : (o : Option Value) (w : Value) (p : Option Parts) (q : Parts) → o ≡ Some w → p ≡ Some q → option_and_then (λ w. option_map (λ q. present w q) p) o ≡ Some (present w q)
      put o w p q e f = rw (e, f) refl

  alternative_twice : (more more' : Bool) (as_ bs cs : Alternatives) (i : ℕ) (v u w : Value) → ExtendsAlternatives more as_ bs →
      ExtendsAlternatives more' bs cs → carried_alternative true as_ bs i v ≡ Some u → carried_alternative true bs cs i u ≡ Some w → carried_alternative true as_ cs i v ≡ Some w
  alternative_twice more more' no_alternative bs cs i v u w h k e f = cc
  alternative_twice more more' (alternative t s as_) no_alternative cs i v u w h k e f = absurd h
  alternative_twice more more' (alternative t s as_) (alternative t' s' bs) no_alternative i v u w h k e f = absurd k
  alternative_twice more more' (alternative t s as_) (alternative t' s' bs) (alternative y r cs) zero v u w h k e f = grown_twice s s' r v u w h.1 k.1 e f
  alternative_twice more more' (alternative t s as_) (alternative t' s' bs) (alternative y r cs) (suc i) v u w h k e f = alternative_twice more more' as_ bs cs i v u w h.2 k.2 e f
