-- Values carried over between two versions, and the versions, with all defaults in normal form.
use Rattle.std.proofs.Common.{◌≡◌, ℕ, zero, suc, Bool, true, false, Some, option_map, option_and_then, refl, ap, sym, ◌∙◌, arith}
use Rattle.asn1_model.specs.Value.{Value, members, bag, fields, chosen, Parts, end, absent, present, same, depth}
use Rattle.asn1_model.specs.Schema.{Presence, required, optional, by_default, Schema, cut, boolean, null, integer}
use Rattle.asn1_model.specs.Schema.{enumerated, bit_string, octet_string, character_string, object_identifier}
use Rattle.asn1_model.specs.Schema.{sequence_of, set_of, sequence, set, group, choice, Components, no_component}
use Rattle.asn1_model.specs.Schema.{component, Alternatives, no_alternative, alternative}
use Rattle.asn1_model.specs.Normal.{normal}
use Rattle.asn1_model.specs.Versions.{carried, map_each, both_parts, all_absent, grow, carried_parts, carried_alternative, drop, KeepsPresence, Extends, ExtendsEach, ExtendsAlternatives}
use Rattle.asn1_laws_values.proofs.Normals.{normal_again}
use Rattle.asn1_laws_values.specs.Tidied.{changed_default, tidied, tidied_each, tidied_alternatives}
use Rattle.asn1_laws_values.proofs.Tidied.{tidied_alike}
use Rattle.std.specs.Prelude.{All, Contains}

-- ---- values
tidied_absent : (cs : Components) → all_absent (tidied_each cs) ≡ all_absent cs
unfolding tidied_each
tidied_absent no_component = refl
tidied_absent (component t required s cs) = refl
tidied_absent (component t optional s cs) = ap (option_map absent) (tidied_absent cs)
tidied_absent (component t (by_default d) s cs) = ap (option_map absent) (tidied_absent cs)

mutual
  unfolding tidied tidied_each tidied_alternatives carried carried_parts carried_alternative

  pub tidied_grows : (s s' : Schema) (v : Value) → grow (tidied s) (tidied s') v ≡ grow s s' v
  tidied_grows (sequence_of z h s) (sequence_of z' h' s') (members vs) = λ i. option_map members (map_each (λ v. tidied_grows s s' v i) vs)
  tidied_grows (set_of z h s) (set_of z' h' s') (bag vs) = λ i. option_map bag (map_each (λ v. tidied_grows s s' v i) vs)
  tidied_grows (sequence cs e adds) (sequence cs' e' adds') (fields ps qs) = λ i. both_parts (tidied_parts_grow cs cs' ps i) (tidied_parts_grow adds adds' qs i)
  tidied_grows (set cs e adds) (set cs' e' adds') (fields ps qs) = λ i. both_parts (tidied_parts_grow cs cs' ps i) (tidied_parts_grow adds adds' qs i)
  tidied_grows (group cs) (group cs') (fields ps qs) = ap (λ o. both_parts o (Some qs)) (tidied_parts_grow cs cs' ps)
  tidied_grows (choice roots e adds) (choice roots' e' adds') (chosen false j v) = ap (option_map (λ w. chosen false j w)) (tidied_alternative_grows roots roots' j v)
  tidied_grows (choice roots e adds) (choice roots' e' adds') (chosen true j v) = ap (option_map (λ w. chosen true j w)) (tidied_alternative_grows adds adds' j v)
  tidied_grows s s' v = refl

  tidied_parts_grow : (cs cs' : Components) (ps : Parts) → carried_parts true (tidied_each cs) (tidied_each cs') ps ≡ carried_parts true cs cs' ps
  tidied_parts_grow (component t o s cs) (component t' o' s' cs') (present v ps) = λ i. option_and_then (λ w. option_map (λ qs. present w qs) (tidied_parts_grow cs cs' ps i)) (tidied_grows s s' v i)
  tidied_parts_grow (component t o s cs) (component t' o' s' cs') (absent ps) = ap (option_map absent) (tidied_parts_grow cs cs' ps)
  tidied_parts_grow no_component cs' end = tidied_absent cs'
  tidied_parts_grow cs cs' ps = refl

  tidied_alternative_grows : (os os' : Alternatives) (j : ℕ) (v : Value) → carried_alternative true (tidied_alternatives os) (tidied_alternatives os') j v ≡ carried_alternative true os os' j v
  tidied_alternative_grows (alternative t s os) (alternative t' s' os') zero v = tidied_grows s s' v
  tidied_alternative_grows (alternative t s os) (alternative t' s' os') (suc j) v = tidied_alternative_grows os os' j v
  tidied_alternative_grows os os' j v = refl

mutual
  unfolding tidied tidied_each tidied_alternatives carried carried_parts carried_alternative

  pub tidied_lessens : (s s' : Schema) (v : Value) → carried false (tidied s) (tidied s') v ≡ carried false s s' v
  tidied_lessens (sequence_of z h s) (sequence_of z' h' s') (members vs) = λ i. option_map members (map_each (λ v. tidied_lessens s s' v i) vs)
  tidied_lessens (set_of z h s) (set_of z' h' s') (bag vs) = λ i. option_map bag (map_each (λ v. tidied_lessens s s' v i) vs)
  tidied_lessens (sequence cs e adds) (sequence cs' e' adds') (fields ps qs) = λ i. both_parts (tidied_parts_lessen cs cs' ps i) (tidied_parts_lessen adds adds' qs i)
  tidied_lessens (set cs e adds) (set cs' e' adds') (fields ps qs) = λ i. both_parts (tidied_parts_lessen cs cs' ps i) (tidied_parts_lessen adds adds' qs i)
  tidied_lessens (group cs) (group cs') (fields ps qs) = ap (λ o. both_parts o (Some qs)) (tidied_parts_lessen cs cs' ps)
  tidied_lessens (choice roots e adds) (choice roots' e' adds') (chosen false j v) = ap (option_map (λ w. chosen false j w)) (tidied_alternative_lessens roots roots' j v)
  tidied_lessens (choice roots e adds) (choice roots' e' adds') (chosen true j v) = ap (option_map (λ w. chosen true j w)) (tidied_alternative_lessens adds adds' j v)
  tidied_lessens (enumerated roots e adds) (enumerated roots' e' adds') v = refl
  tidied_lessens s s' v = refl

  tidied_parts_lessen : (cs cs' : Components) (ps : Parts) → carried_parts false (tidied_each cs) (tidied_each cs') ps ≡ carried_parts false cs cs' ps
  tidied_parts_lessen (component t o s cs) (component t' o' s' cs') (present v ps) =
      λ i. option_and_then (λ w. option_map (λ qs. present w qs) (tidied_parts_lessen cs cs' ps i)) (tidied_lessens s s' v i)
  tidied_parts_lessen (component t o s cs) (component t' o' s' cs') (absent ps) = ap (option_map absent) (tidied_parts_lessen cs cs' ps)
  tidied_parts_lessen cs cs' ps = refl

  tidied_alternative_lessens : (os os' : Alternatives) (j : ℕ) (v : Value) → carried_alternative false (tidied_alternatives os) (tidied_alternatives os') j v ≡ carried_alternative false os os' j v
  tidied_alternative_lessens (alternative t s os) (alternative t' s' os') zero v = tidied_lessens s s' v
  tidied_alternative_lessens (alternative t s os) (alternative t' s' os') (suc j) v = tidied_alternative_lessens os os' j v
  tidied_alternative_lessens os os' j v = refl

pub tidied_normal : (s : Schema) (v : Value) → normal (tidied s) v ≡ normal s v
tidied_normal s v = sym ((tidied_alike (depth v) s).normal_is v (omega arith))

pub tidied_drops : (s s' : Schema) (v : Value) → drop (tidied s) (tidied s') v ≡ drop s s' v
tidied_drops s s' v = ap (carried false (tidied s) (tidied s')) (tidied_normal s' v) ∙ tidied_lessens s s' (normal s' v)

-- ---- versions
default_again : (s : Schema) (d : Value) → normal (tidied s) (normal s d) ≡ normal s d
default_again s d = tidied_normal s (normal s d) ∙ normal_again s d

tidied_presence : (s s' : Schema) (o o' : Presence) → KeepsPresence (tidied s) (tidied s') (changed_default (λ d. normal s d) o) (changed_default (λ d. normal s' d) o') ≡ KeepsPresence s s' o o'
tidied_presence s s' (by_default d) (by_default d') =
    let g : grow (tidied s) (tidied s') (normal (tidied s) (normal s d)) ≡ grow s s' (normal s d) = ap (grow (tidied s) (tidied s')) (default_again s d) ∙ tidied_grows s s' (normal s d) in
    let n = default_again s' d' in
    λ i. (w : Value) × (g i ≡ Some w) × (same w (n i) ≡ true)
tidied_presence s s' required required = refl
tidied_presence s s' optional optional = refl
tidied_presence s s' o o' = refl

mutual
  unfolding tidied tidied_each tidied_alternatives Extends ExtendsEach ExtendsAlternatives

  pub tidied_extends : (s s' : Schema) → Extends (tidied s) (tidied s') ≡ Extends s s'
  tidied_extends (sequence_of z h s) (sequence_of z' h' s') = λ i. (z ≡ z') × (h ≡ h') × tidied_extends s s' i
  tidied_extends (set_of z h s) (set_of z' h' s') = λ i. (z ≡ z') × (h ≡ h') × tidied_extends s s' i
  tidied_extends (sequence cs e adds) (sequence cs' e' adds') = λ i. tidied_each_extends false cs cs' i × (e ≡ e') × tidied_each_extends e adds adds' i
  tidied_extends (set cs e adds) (set cs' e' adds') = λ i. tidied_each_extends false cs cs' i × (e ≡ e') × tidied_each_extends e adds adds' i
  tidied_extends (group cs) (group cs') = tidied_each_extends false cs cs'
  tidied_extends (choice roots e adds) (choice roots' e' adds') = λ i. tidied_alternatives_extend false roots roots' i × (e ≡ e') × tidied_alternatives_extend e adds adds' i
  tidied_extends cut cut = refl
  tidied_extends boolean boolean = refl
  tidied_extends null null = refl
  tidied_extends object_identifier object_identifier = refl
  tidied_extends (integer b h) (integer b' h') = refl
  tidied_extends (enumerated roots e adds) (enumerated roots' e' adds') = refl
  tidied_extends (bit_string z h) (bit_string z' h') = refl
  tidied_extends (octet_string z h) (octet_string z' h') = refl
  tidied_extends (character_string k z a h) (character_string k' z' a' h') = refl
  tidied_extends s s' = refl

  tidied_each_extends : (more : Bool) (cs cs' : Components) → ExtendsEach more (tidied_each cs) (tidied_each cs') ≡ ExtendsEach more cs cs'
  tidied_each_extends more (component t o s cs) (component t' o' s' cs') = λ i. (All (Contains t') t) × tidied_presence s s' o o' i × tidied_extends s s' i × tidied_each_extends more cs cs' i
  tidied_each_extends more no_component no_component = refl
  tidied_each_extends true no_component (component t' o' s' cs') = refl
  tidied_each_extends false no_component (component t' o' s' cs') = refl
  tidied_each_extends more (component t o s cs) no_component = refl

  tidied_alternatives_extend : (more : Bool) (os os' : Alternatives) → ExtendsAlternatives more (tidied_alternatives os) (tidied_alternatives os') ≡ ExtendsAlternatives more os os'
  tidied_alternatives_extend more (alternative t s os) (alternative t' s' os') = λ i. (t ≡ t') × tidied_extends s s' i × tidied_alternatives_extend more os os' i
  tidied_alternatives_extend more no_alternative no_alternative = refl
  tidied_alternatives_extend true no_alternative (alternative t' s' os') = refl
  tidied_alternatives_extend false no_alternative (alternative t' s' os') = refl
  tidied_alternatives_extend more (alternative t s os) no_alternative = refl
