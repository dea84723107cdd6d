-- Values above the level at which two types differ.
use Rattle.std.proofs.Common.{◌≡◌, ℕ, zero, suc, ◌+◌, ◌≤◌, max, Bool, true, false, cond, ◌&&◌, List, ◌∷◌, Some, None, option_map, refl, ap, sym, ◌∙◌, subst, inl, inr, ◌⊎◌, arith}
use Rattle.std.proofs.lemmas.Bool.{and_parts}
use Rattle.asn1_model.specs.Value.{Value, members, bag, fields, chosen, Values, no_more, member, Parts, end, absent, present, each, map_members, depth, depth_of_members, depth_of_parts}
use Rattle.asn1_model.specs.Schema.{Tag, Size, Counts, Presence, required, optional, by_default, Schema, cut}
use Rattle.asn1_model.specs.Schema.{sequence_of, set_of, sequence, set, group, choice, Components, no_component}
use Rattle.asn1_model.specs.Schema.{component, Alternatives, no_alternative, alternative}
use Rattle.asn1_model.specs.Normal.{normal, normal_parts, normal_alternative, is_empty_group, is_default_by, is_at_default, is_group_left_out}
use Rattle.asn1_model.specs.Tidy.{has_normal_default, is_tidy, are_tidy, are_tidy_alternatives}
use Rattle.asn1_model.specs.Form.{refused, both, given}
use Rattle.asn1_model.specs.Normal.{presence_bits, is_required, alternative_count}
use Rattle.asn1_model.specs.Rules.{Rules, uper, aper, uper_strict, aper_strict, oer, coer, canonical, encoding, per, octet_encoding, IsEncoding}
use Rattle.asn1_model.specs.Per
use Rattle.asn1_model.specs.Oer
use Rattle.asn1_laws_values.proofs.Normal.{normal_depth, normal_stays}
use Rattle.asn1_laws_values.specs.Unfolding.{is_constructed, AgreesTo, AgreesEach, AgreesAlternatives}

pub record AlikeTo (n : ℕ) (s s' : Schema) : Type 0 where
  pub normal_is : (v : Value) → depth v ≤ n → normal s v ≡ normal s' v
  pub packed_is : (al : Bool) (v : Value) → depth v ≤ n → Per.form al s v ≡ Per.form al s' v
  pub octets_is : (v : Value) → depth v ≤ n → Oer.form s v ≡ Oer.form s' v
  pub group_is : (v : Value) → depth v ≤ n → is_empty_group s v ≡ is_empty_group s' v

pub record EachAlikeTo (n : ℕ) (cs cs' : Components) : Type 0 where
  pub presence_bits_are : (ps : Parts) → presence_bits cs ps ≡ presence_bits cs' ps
  pub normal_are : (ps : Parts) → depth_of_parts ps ≤ n → normal_parts cs ps ≡ normal_parts cs' ps
  pub packed_are : (al : Bool) (ps : Parts) → depth_of_parts ps ≤ n → Per.component_forms al cs ps ≡ Per.component_forms al cs' ps
  pub packed_added : (al : Bool) (ps : Parts) → depth_of_parts ps ≤ n → Per.addition_forms al cs ps ≡ Per.addition_forms al cs' ps
  pub octets_are : (ps : Parts) → depth_of_parts ps ≤ n → Oer.component_forms cs ps ≡ Oer.component_forms cs' ps
  pub octets_added : (ps : Parts) → depth_of_parts ps ≤ n → Oer.addition_forms cs ps ≡ Oer.addition_forms cs' ps

pub record AlternativesAlikeTo (n : ℕ) (os os' : Alternatives) : Type 0 where
  pub count_is : alternative_count os ≡ alternative_count os'
  pub normal_are : (i : ℕ) (v : Value) → depth v ≤ n → normal_alternative os i v ≡ normal_alternative os' i v
  pub packed_are : (al : Bool) (i : ℕ) (v : Value) → depth v ≤ n → Per.alternative_form al os i v ≡ Per.alternative_form al os' i v
  pub octets_are : (b : Bool) (i : ℕ) (v : Value) → depth v ≤ n → Oer.alternative_form b os i v ≡ Oer.alternative_form b os' i v

pub equal_alike : (n : ℕ) (s s' : Schema) → s ≡ s' → AlikeTo n s s'
equal_alike n s s' e = subst (λ x. AlikeTo n s x) e (record { normal_is = λ v h. refl; packed_is = λ al v h. refl; octets_is = λ v h. refl; group_is = λ v h. refl })

-- ---- at the level of a cut nothing is nested
leaf_normal : (s : Schema) (v : Value) → is_constructed s ≡ true → depth v ≤ 0 → normal s v ≡ v
unfolding normal depth
leaf_normal (sequence_of z h s) (members vs) c d = absurd (omega arith)
leaf_normal (sequence_of z h s) v c d = refl
leaf_normal (set_of z h s) (bag vs) c d = absurd (omega arith)
leaf_normal (set_of z h s) v c d = refl
leaf_normal (sequence cs e adds) (fields ps qs) c d = absurd (omega arith)
leaf_normal (sequence cs e adds) v c d = refl
leaf_normal (set cs e adds) (fields ps qs) c d = absurd (omega arith)
leaf_normal (set cs e adds) v c d = refl
leaf_normal (group cs) (fields ps qs) c d = absurd (omega arith)
leaf_normal (group cs) v c d = refl
leaf_normal (choice roots e adds) (chosen a i v) c d = absurd (omega arith)
leaf_normal (choice roots e adds) v c d = refl
leaf_normal s v c d = refl

leaf_packed : (al : Bool) (s : Schema) (v : Value) → is_constructed s ≡ true → depth v ≤ 0 → Per.form al s v ≡ refused
unfolding Per.form depth
leaf_packed al cut v c d = refl
leaf_packed al (sequence_of z h s) (members vs) c d = absurd (omega arith)
leaf_packed al (sequence_of z h s) v c d = refl
leaf_packed al (set_of z h s) (bag vs) c d = absurd (omega arith)
leaf_packed al (set_of z h s) v c d = refl
leaf_packed al (sequence cs e adds) (fields ps qs) c d = absurd (omega arith)
leaf_packed al (sequence cs e adds) v c d = refl
leaf_packed al (set cs e adds) (fields ps qs) c d = absurd (omega arith)
leaf_packed al (set cs e adds) v c d = refl
leaf_packed al (group cs) (fields ps qs) c d = absurd (omega arith)
leaf_packed al (group cs) v c d = refl
leaf_packed al (choice roots e adds) (chosen a i v) c d = absurd (omega arith)
leaf_packed al (choice roots e adds) v c d = refl
leaf_packed al s v c d = cc

leaf_octets : (s : Schema) (v : Value) → is_constructed s ≡ true → depth v ≤ 0 → Oer.form s v ≡ refused
unfolding Oer.form depth
leaf_octets cut v c d = refl
leaf_octets (sequence_of z h s) (members vs) c d = absurd (omega arith)
leaf_octets (sequence_of z h s) v c d = refl
leaf_octets (set_of z h s) (bag vs) c d = absurd (omega arith)
leaf_octets (set_of z h s) v c d = refl
leaf_octets (sequence cs e adds) (fields ps qs) c d = absurd (omega arith)
leaf_octets (sequence cs e adds) v c d = refl
leaf_octets (set cs e adds) (fields ps qs) c d = absurd (omega arith)
leaf_octets (set cs e adds) v c d = refl
leaf_octets (group cs) (fields ps qs) c d = absurd (omega arith)
leaf_octets (group cs) v c d = refl
leaf_octets (choice roots e adds) (chosen a i v) c d = absurd (omega arith)
leaf_octets (choice roots e adds) v c d = refl
leaf_octets s v c d = cc

leaf_group : (s : Schema) (v : Value) → depth v ≤ 0 → is_empty_group s v ≡ false
unfolding depth
leaf_group (group cs) (fields ps qs) d = absurd (omega arith)
leaf_group (group cs) v d = refl
leaf_group s v d = refl

constructed_alike : (s s' : Schema) → is_constructed s ≡ true → is_constructed s' ≡ true → AlikeTo 0 s s'
constructed_alike s s' c c' = record {
  normal_is = λ v h. leaf_normal s v c h ∙ sym (leaf_normal s' v c' h);
  packed_is = λ al v h. leaf_packed al s v c h ∙ sym (leaf_packed al s' v c' h);
  octets_is = λ v h. leaf_octets s v c h ∙ sym (leaf_octets s' v c' h);
  group_is = λ v h. leaf_group s v h ∙ sym (leaf_group s' v h);
}

-- ---- SEQUENCE OF and SET OF
each_alike : {X : Type 0} (n : ℕ) (f g : Value → X) → ((v : Value) → depth v ≤ n → f v ≡ g v) → (vs : Values) → depth_of_members vs ≤ n → each f vs ≡ each g vs
unfolding depth_of_members
each_alike n f g h no_more d = refl
each_alike n f g h (member v vs) d = let a = h v (omega arith) in let b = each_alike n f g h vs (omega arith) in cc

map_alike : (n : ℕ) (f g : Value → Value) → ((v : Value) → depth v ≤ n → f v ≡ g v) → (vs : Values) → depth_of_members vs ≤ n → map_members f vs ≡ map_members g vs
unfolding depth_of_members
map_alike n f g h no_more d = refl
map_alike n f g h (member v vs) d = let a = h v (omega arith) in let b = map_alike n f g h vs (omega arith) in cc

module _ (n : ℕ) (z : Size) (held : Counts) (s s' : Schema) (a : AlikeTo n s s') where
  list_normal : (v : Value) → depth v ≤ suc n → normal (sequence_of z held s) v ≡ normal (sequence_of z held s') v
  unfolding normal depth
  list_normal (members vs) d = ap members (map_alike n (λ v. normal s v) (λ v. normal s' v) a.normal_is vs (omega arith))
  list_normal v d = refl

  list_packed : (al : Bool) (v : Value) → depth v ≤ suc n → Per.form al (sequence_of z held s) v ≡ Per.form al (sequence_of z held s') v
  unfolding Per.form depth
  list_packed al (members vs) d = ap (Per.sized al z held (λ c. false)) (each_alike n (λ v. Per.form al s v) (λ v. Per.form al s' v) (λ v h. a.packed_is al v h) vs (omega arith))
  list_packed al v d = refl

  list_octets : (v : Value) → depth v ≤ suc n → Oer.form (sequence_of z held s) v ≡ Oer.form (sequence_of z held s') v
  unfolding Oer.form depth
  list_octets (members vs) d = ap (Oer.members_form held) (each_alike n (λ v. Oer.form s v) (λ v. Oer.form s' v) a.octets_is vs (omega arith))
  list_octets v d = refl

  pub list_alike : AlikeTo (suc n) (sequence_of z held s) (sequence_of z held s')
  list_alike = record { normal_is = list_normal; packed_is = list_packed; octets_is = list_octets; group_is = λ v h. refl }

  bag_normal : (v : Value) → depth v ≤ suc n → normal (set_of z held s) v ≡ normal (set_of z held s') v
  unfolding normal depth
  bag_normal (bag vs) d = ap bag (map_alike n (λ v. normal s v) (λ v. normal s' v) a.normal_is vs (omega arith))
  bag_normal v d = refl

  bag_packed : (al : Bool) (v : Value) → depth v ≤ suc n → Per.form al (set_of z held s) v ≡ Per.form al (set_of z held s') v
  unfolding Per.form depth
  bag_packed al (bag vs) d = ap (λ xs. Per.in_any_order xs (Per.sized al z held (λ c. false)))
      (each_alike n (λ v. Per.form al s v) (λ v. Per.form al s' v) (λ v h. a.packed_is al v h) vs (omega arith))
  bag_packed al v d = refl

  bag_octets : (v : Value) → depth v ≤ suc n → Oer.form (set_of z held s) v ≡ Oer.form (set_of z held s') v
  unfolding Oer.form depth
  bag_octets (bag vs) d = ap (λ xs. Oer.in_any_order xs (Oer.members_form held)) (each_alike n (λ v. Oer.form s v) (λ v. Oer.form s' v) a.octets_is vs (omega arith))
  bag_octets v d = refl

  pub bag_alike : AlikeTo (suc n) (set_of z held s) (set_of z held s')
  bag_alike = record { normal_is = bag_normal; packed_is = bag_packed; octets_is = bag_octets; group_is = λ v h. refl }

-- ---- components

-- equal except for defaults, which have the same normal form in both
abbrev pub SameDefault : Schema → Schema → Presence → Presence → Type 0
SameDefault s s' required required = Unit {0}
SameDefault s s' optional optional = Unit {0}
SameDefault s s' (by_default d) (by_default e) = normal s d ≡ normal s' e
SameDefault s s' o o' = ⊥

tidy_default : (s s' : Schema) (o : Presence) → has_normal_default s o ≡ true → has_normal_default s' o ≡ true → SameDefault s s' o o
tidy_default s s' required h k = tt
tidy_default s s' optional h k = tt
tidy_default s s' (by_default d) h k = normal_stays s d h ∙ sym (normal_stays s' d k)

default_alike : (s s' : Schema) (o o' : Presence) (v w : Value) → SameDefault s s' o o' → v ≡ w → is_default_by (λ d. normal s d) o v ≡ is_default_by (λ d. normal s' d) o' w
default_alike s s' required required v w h e = refl
default_alike s s' optional optional v w h e = refl
default_alike s s' (by_default d) (by_default f) v w h e = cc
default_alike s s' o o' v w h e = absurd h

same_required : (s s' : Schema) (o o' : Presence) → SameDefault s s' o o' → is_required o ≡ is_required o'
same_required s s' required required h = refl
same_required s s' optional optional h = refl
same_required s s' (by_default d) (by_default f) h = refl
same_required s s' o o' h = absurd h

module _ (n : ℕ) (t : List Tag) (o o' : Presence) (s s' : Schema) (cs cs' : Components) (h : SameDefault s s' o o') (a : AlikeTo n s s') (b : EachAlikeTo n cs cs') where
  group_test : (v : Value) → depth v ≤ n → is_group_left_out s v ≡ is_group_left_out s' v
  group_test v d = let m = normal_depth s v in a.group_is (normal s v) (omega arith) ∙ ap (λ x. is_empty_group s' x) (a.normal_is v d)

  next_presence_bits : (ps : Parts) → presence_bits (component t o s cs) ps ≡ presence_bits (component t o' s' cs') ps
  next_presence_bits end = let e = b.presence_bits_are end in let q = same_required s s' o o' h in rw (q, e) refl
  next_presence_bits (absent ps) = let e = b.presence_bits_are ps in let q = same_required s s' o o' h in rw (q, e) refl
  next_presence_bits (present v ps) = let e = b.presence_bits_are ps in let q = same_required s s' o o' h in rw (q, e) refl

  next_normal : (ps : Parts) → depth_of_parts ps ≤ n → normal_parts (component t o s cs) ps ≡ normal_parts (component t o' s' cs') ps
  unfolding normal_parts depth_of_parts
  next_normal end d = refl
  next_normal (absent ps) d = ap absent (b.normal_are ps d)
  next_normal (present v ps) d =
      let e = a.normal_is v (omega arith) in
      let f = default_alike s s' o o' (normal s v) (normal s' v) h e in
      let g : is_empty_group s (normal s v) ≡ is_empty_group s' (normal s' v) = group_test v (omega arith) in
      let i = b.normal_are ps (omega arith) in
      rw (f, g, e, i) refl

  spelled_packed : (v : Value) (x : Per.BitForm) → depth v ≤ n → Per.spelled o s v x ≡ Per.spelled o' s' v x
  unfolding Per.spelled
  spelled_packed v x d =
      let f : is_at_default o s v ≡ is_at_default o' s' v = default_alike s s' o o' (normal s v) (normal s' v) h (a.normal_is v d) in
      let g = group_test v d in
      rw (f, g) refl

  spelled_octets : (v : Value) (x : Oer.OctetForm) → depth v ≤ n → Oer.spelled o s v x ≡ Oer.spelled o' s' v x
  unfolding Oer.spelled
  spelled_octets v x d =
      let f : is_at_default o s v ≡ is_at_default o' s' v = default_alike s s' o o' (normal s v) (normal s' v) h (a.normal_is v d) in
      let g = group_test v d in
      rw (f, g) refl

  next_packed : (al : Bool) (ps : Parts) → depth_of_parts ps ≤ n → Per.component_forms al (component t o s cs) ps ≡ Per.component_forms al (component t o' s' cs') ps
  unfolding Per.component_forms depth_of_parts
  next_packed al end d = refl
  next_packed al (absent ps) d = λ i. cond (same_required s s' o o' h i) refused (b.packed_are al ps d i)
  next_packed al (present v ps) d =
      let e : Per.spelled o s v (Per.form al s v) ≡ Per.spelled o' s' v (Per.form al s' v) =
      spelled_packed v (Per.form al s v) (omega arith) ∙ ap (Per.spelled o' s' v) (a.packed_is al v (omega arith)) in
      ap (λ x. both x (Per.component_forms al cs ps)) e ∙ ap (λ x. both (Per.spelled o' s' v (Per.form al s' v)) x) (b.packed_are al ps (omega arith))

  next_packed_added : (al : Bool) (ps : Parts) → depth_of_parts ps ≤ n → Per.addition_forms al (component t o s cs) ps ≡ Per.addition_forms al (component t o' s' cs') ps
  unfolding Per.addition_forms depth_of_parts
  next_packed_added al end d = refl
  next_packed_added al (absent ps) d = λ i. cond (same_required s s' o o' h i) None (option_map (λ xs. None ∷ xs) (b.packed_added al ps d i))
  next_packed_added al (present v ps) d =
      let e : Per.spelled o s v (Per.open_type al (Per.form al s v)) ≡ Per.spelled o' s' v (Per.open_type al (Per.form al s' v)) =
      spelled_packed v _ (omega arith) ∙ ap (λ x. Per.spelled o' s' v (Per.open_type al x)) (a.packed_is al v (omega arith)) in
      ap (λ (x : Per.BitForm). option_map (λ xs. Some x ∷ xs) (Per.addition_forms al cs ps)) e
      ∙ ap (λ x. option_map (λ xs. Some (Per.spelled o' s' v (Per.open_type al (Per.form al s' v))) ∷ xs) x) (b.packed_added al ps (omega arith))

  next_octets : (ps : Parts) → depth_of_parts ps ≤ n → Oer.component_forms (component t o s cs) ps ≡ Oer.component_forms (component t o' s' cs') ps
  unfolding Oer.component_forms depth_of_parts
  next_octets end d = refl
  next_octets (absent ps) d = λ i. cond (same_required s s' o o' h i) refused (b.octets_are ps d i)
  next_octets (present v ps) d =
      let e : Oer.spelled o s v (Oer.form s v) ≡ Oer.spelled o' s' v (Oer.form s' v) = spelled_octets v (Oer.form s v) (omega arith) ∙ ap (Oer.spelled o' s' v) (a.octets_is v (omega arith)) in
      ap (λ x. both x (Oer.component_forms cs ps)) e ∙ ap (λ x. both (Oer.spelled o' s' v (Oer.form s' v)) x) (b.octets_are ps (omega arith))

  next_octets_added : (ps : Parts) → depth_of_parts ps ≤ n → Oer.addition_forms (component t o s cs) ps ≡ Oer.addition_forms (component t o' s' cs') ps
  unfolding Oer.addition_forms depth_of_parts
  next_octets_added end d = refl
  next_octets_added (absent ps) d = λ i. cond (same_required s s' o o' h i) None (option_map (λ xs. None ∷ xs) (b.octets_added ps d i))
  next_octets_added (present v ps) d =
      let e : Oer.spelled o s v (Oer.open_type (Oer.form s v)) ≡ Oer.spelled o' s' v (Oer.open_type (Oer.form s' v)) =
      spelled_octets v _ (omega arith) ∙ ap (λ x. Oer.spelled o' s' v (Oer.open_type x)) (a.octets_is v (omega arith)) in
      ap (λ (x : Oer.OctetForm). option_map (λ xs. Some x ∷ xs) (Oer.addition_forms cs ps)) e
      ∙ ap (λ x. option_map (λ xs. Some (Oer.spelled o' s' v (Oer.open_type (Oer.form s' v))) ∷ xs) x) (b.octets_added ps (omega arith))

  pub component_alike : EachAlikeTo n (component t o s cs) (component t o' s' cs')
  component_alike = record {
    presence_bits_are = next_presence_bits;
    normal_are = next_normal;
    packed_are =
        next_packed;
    packed_added = next_packed_added;
    octets_are = next_octets;
    octets_added = next_octets_added;
  }

pub none_alike : (n : ℕ) → EachAlikeTo n no_component no_component
none_alike n = record {
  presence_bits_are = λ ps. refl;
  normal_are = λ ps d. refl;
  packed_are = λ al ps d. refl;
  packed_added =
      λ al ps d. refl;
  octets_are = λ ps d. refl;
  octets_added = λ ps d. refl;
}

-- ---- sequences, sets and groups
module _ (n : ℕ) (cs cs' : Components) (e : Bool) (adds adds' : Components) (a : EachAlikeTo n cs cs') (b : EachAlikeTo n adds adds') where
  fields_packed : (al : Bool) (ps qs : Parts) → max (depth_of_parts ps) (depth_of_parts qs) ≤ n →
      given (Per.addition_forms al adds qs) (Per.sequence_form al e (presence_bits cs ps) (Per.component_forms al cs ps))
      ≡ given (Per.addition_forms al adds' qs) (Per.sequence_form al e (presence_bits cs' ps) (Per.component_forms al cs' ps))
  fields_packed al ps qs d =
      let x = a.presence_bits_are ps in
      let y = a.packed_are al ps (omega arith) in
      let z = b.packed_added al qs (omega arith) in
      rw (x, y, z) refl

  fields_octets : (ps qs : Parts) → max (depth_of_parts ps) (depth_of_parts qs) ≤ n →
      given (Oer.addition_forms adds qs) (Oer.sequence_form e (presence_bits cs ps) (Oer.component_forms cs ps))
      ≡ given (Oer.addition_forms adds' qs) (Oer.sequence_form e (presence_bits cs' ps) (Oer.component_forms cs' ps))
  fields_octets ps qs d =
      let x = a.presence_bits_are ps in
      let y = a.octets_are ps (omega arith) in
      let z = b.octets_added qs (omega arith) in
      rw (x, y, z) refl

  fields_normal : (ps qs : Parts) → max (depth_of_parts ps) (depth_of_parts qs) ≤ n → fields (normal_parts cs ps) (normal_parts adds qs) ≡ fields (normal_parts cs' ps) (normal_parts adds' qs)
  fields_normal ps qs d = let x = a.normal_are ps (omega arith) in let y = b.normal_are qs (omega arith) in cc

  sequence_normal : (v : Value) → depth v ≤ suc n → normal (sequence cs e adds) v ≡ normal (sequence cs' e adds') v
  unfolding normal depth
  sequence_normal (fields ps qs) d = fields_normal ps qs (omega arith)
  sequence_normal v d = refl

  sequence_packed : (al : Bool) (v : Value) → depth v ≤ suc n → Per.form al (sequence cs e adds) v ≡ Per.form al (sequence cs' e adds') v
  unfolding Per.form depth
  sequence_packed al (fields ps qs) d = fields_packed al ps qs (omega arith)
  sequence_packed al v d = refl

  sequence_octets : (v : Value) → depth v ≤ suc n → Oer.form (sequence cs e adds) v ≡ Oer.form (sequence cs' e adds') v
  unfolding Oer.form depth
  sequence_octets (fields ps qs) d = fields_octets ps qs (omega arith)
  sequence_octets v d = refl

  pub sequence_alike : AlikeTo (suc n) (sequence cs e adds) (sequence cs' e adds')
  sequence_alike = record { normal_is = sequence_normal; packed_is = sequence_packed; octets_is = sequence_octets; group_is = λ v h. refl }

  set_normal : (v : Value) → depth v ≤ suc n → normal (set cs e adds) v ≡ normal (set cs' e adds') v
  unfolding normal depth
  set_normal (fields ps qs) d = fields_normal ps qs (omega arith)
  set_normal v d = refl

  set_packed : (al : Bool) (v : Value) → depth v ≤ suc n → Per.form al (set cs e adds) v ≡ Per.form al (set cs' e adds') v
  unfolding Per.form depth
  set_packed al (fields ps qs) d = fields_packed al ps qs (omega arith)
  set_packed al v d = refl

  set_octets : (v : Value) → depth v ≤ suc n → Oer.form (set cs e adds) v ≡ Oer.form (set cs' e adds') v
  unfolding Oer.form depth
  set_octets (fields ps qs) d = fields_octets ps qs (omega arith)
  set_octets v d = refl

  pub set_alike : AlikeTo (suc n) (set cs e adds) (set cs' e adds')
  set_alike = record { normal_is = set_normal; packed_is = set_packed; octets_is = set_octets; group_is = λ v h. refl }

module _ (n : ℕ) (cs cs' : Components) (a : EachAlikeTo n cs cs') where
  group_normal : (v : Value) → depth v ≤ suc n → normal (group cs) v ≡ normal (group cs') v
  unfolding normal depth
  group_normal (fields ps qs) d = ap (λ x. fields x qs) (a.normal_are ps (omega arith))
  group_normal v d = refl

  group_packed : (al : Bool) (v : Value) → depth v ≤ suc n → Per.form al (group cs) v ≡ Per.form al (group cs') v
  unfolding Per.form depth
  group_packed al (fields ps end) d = let x = a.presence_bits_are ps in let y = a.packed_are al ps (omega arith) in rw (x, y) refl
  group_packed al v d = refl

  group_octets : (v : Value) → depth v ≤ suc n → Oer.form (group cs) v ≡ Oer.form (group cs') v
  unfolding Oer.form depth
  group_octets (fields ps end) d = let x = a.presence_bits_are ps in let y = a.octets_are ps (omega arith) in rw (x, y) refl
  group_octets v d = refl

  group_empty : (v : Value) → is_empty_group (group cs) v ≡ is_empty_group (group cs') v
  group_empty (fields ps qs) = refl
  group_empty v = refl

  pub group_alike : AlikeTo (suc n) (group cs) (group cs')
  group_alike = record { normal_is = group_normal; packed_is = group_packed; octets_is = group_octets; group_is = λ v h. group_empty v }

-- ---- choices
module _ (n : ℕ) (t : Tag) (s s' : Schema) (os os' : Alternatives) (a : AlikeTo n s s') (b : AlternativesAlikeTo n os os') where
  next_alternative_normal : (i : ℕ) (v : Value) → depth v ≤ n → normal_alternative (alternative t s os) i v ≡ normal_alternative (alternative t s' os') i v
  unfolding normal_alternative
  next_alternative_normal zero v d = a.normal_is v d
  next_alternative_normal (suc i) v d = b.normal_are i v d

  next_alternative_packed : (al : Bool) (i : ℕ) (v : Value) → depth v ≤ n → Per.alternative_form al (alternative t s os) i v ≡ Per.alternative_form al (alternative t s' os') i v
  unfolding Per.alternative_form
  next_alternative_packed al zero v d = a.packed_is al v d
  next_alternative_packed al (suc i) v d = b.packed_are al i v d

  next_alternative_octets : (c : Bool) (i : ℕ) (v : Value) → depth v ≤ n → Oer.alternative_form c (alternative t s os) i v ≡ Oer.alternative_form c (alternative t s' os') i v
  unfolding Oer.alternative_form
  next_alternative_octets false zero v d = ap (both (Oer.tag_form t)) (a.octets_is v d)
  next_alternative_octets true zero v d = ap (λ x. both (Oer.tag_form t) (Oer.open_type x)) (a.octets_is v d)
  next_alternative_octets false (suc i) v d = b.octets_are false i v d
  next_alternative_octets true (suc i) v d = b.octets_are true i v d

  pub alternative_alike : AlternativesAlikeTo n (alternative t s os) (alternative t s' os')
  alternative_alike = record { count_is = ap (λ m. m + 1) b.count_is; normal_are = next_alternative_normal; packed_are = next_alternative_packed; octets_are = next_alternative_octets }

pub no_alternative_alike : (n : ℕ) → AlternativesAlikeTo n no_alternative no_alternative
no_alternative_alike n = record { count_is = refl; normal_are = λ i v d. refl; packed_are = λ al i v d. refl; octets_are = λ b i v d. refl }

module _ (n : ℕ) (os os' : Alternatives) (e : Bool) (adds adds' : Alternatives) (a : AlternativesAlikeTo n os os') (b : AlternativesAlikeTo n adds adds') where
  choice_normal : (v : Value) → depth v ≤ suc n → normal (choice os e adds) v ≡ normal (choice os' e adds') v
  unfolding normal depth
  choice_normal (chosen false i v) d = ap (chosen false i) (a.normal_are i v (omega arith))
  choice_normal (chosen true i v) d = ap (chosen true i) (b.normal_are i v (omega arith))
  choice_normal v d = refl

  choice_packed : (e : Bool) (al : Bool) (v : Value) → depth v ≤ suc n → Per.form al (choice os e adds) v ≡ Per.form al (choice os' e adds') v
  unfolding Per.form depth
  choice_packed e al (chosen false i v) d = let x = a.count_is in let y = a.packed_are al i v (omega arith) in rw (x, y) refl
  choice_packed true al (chosen true i v) d = let y = b.packed_are al i v (omega arith) in rw y refl
  choice_packed false al (chosen true i v) d = refl
  choice_packed e al v d = refl

  choice_octets : (e : Bool) (v : Value) → depth v ≤ suc n → Oer.form (choice os e adds) v ≡ Oer.form (choice os' e adds') v
  unfolding Oer.form depth
  choice_octets e (chosen false i v) d = a.octets_are false i v (omega arith)
  choice_octets true (chosen true i v) d = b.octets_are true i v (omega arith)
  choice_octets false (chosen true i v) d = refl
  choice_octets e v d = refl

  pub choice_alike : AlikeTo (suc n) (choice os e adds) (choice os' e adds')
  choice_alike = record { normal_is = choice_normal; packed_is = λ al v d. choice_packed e al v d; octets_is = λ v d. choice_octets e v d; group_is = λ v h. refl }

-- ---- all kinds
pub zero_alike : (s s' : Schema) → ((is_constructed s && is_constructed s') ≡ true) ⊎ (s ≡ s') → AlikeTo 0 s s'
zero_alike s s' (inl c) = let p = and_parts _ _ c in constructed_alike s s' p.0 p.1
zero_alike s s' (inr e) = equal_alike 0 s s' e

mutual
  unfolding AgreesTo AgreesEach AgreesAlternatives is_tidy are_tidy are_tidy_alternatives

  pub agree : (n : ℕ) (s s' : Schema) → is_tidy s ≡ true → is_tidy s' ≡ true → AgreesTo n s s' → AlikeTo n s s'
  agree zero s s' l l' h = zero_alike s s' h
  agree (suc n) (sequence_of z c s) (sequence_of z' c' s') l l' h =
      subst (λ x. AlikeTo (suc n) (sequence_of z c s) (sequence_of x c' s')) h.0
      (subst (λ x. AlikeTo (suc n) (sequence_of z c s) (sequence_of z x s')) h.1 (list_alike n z c s s' (agree n s s' l l' h.2)))
  agree (suc n) (set_of z c s) (set_of z' c' s') l l' h =
      subst (λ x. AlikeTo (suc n) (set_of z c s) (set_of x c' s')) h.0 (subst (λ x. AlikeTo (suc n) (set_of z c s) (set_of z x s')) h.1 (bag_alike n z c s s' (agree n s s' l l' h.2)))
  agree (suc n) (sequence cs e adds) (sequence cs' e' adds') l l' h =
      subst (λ x. AlikeTo (suc n) (sequence cs e adds) (sequence cs' x adds')) h.1
      (sequence_alike n cs cs' e adds adds' (agree_each n cs cs' ((and_parts _ _ l).0) ((and_parts _ _ l').0) h.0) (agree_each n adds adds' ((and_parts _ _ l).1) ((and_parts _ _ l').1) h.2))
  agree (suc n) (set cs e adds) (set cs' e' adds') l l' h =
      subst (λ x. AlikeTo (suc n) (set cs e adds) (set cs' x adds')) h.1
      (set_alike n cs cs' e adds adds' (agree_each n cs cs' ((and_parts _ _ l).0) ((and_parts _ _ l').0) h.0) (agree_each n adds adds' ((and_parts _ _ l).1) ((and_parts _ _ l').1) h.2))
  agree (suc n) (group cs) (group cs') l l' h = group_alike n cs cs' (agree_each n cs cs' l l' h)
  agree (suc n) (choice roots e adds) (choice roots' e' adds') l l' h =
      subst (λ x. AlikeTo (suc n) (choice roots e adds) (choice roots' x adds')) h.1
      (choice_alike n roots roots' e adds adds' (agree_alternatives n roots roots' ((and_parts _ _ l).0) ((and_parts _ _ l').0) h.0)
      (agree_alternatives n adds adds' ((and_parts _ _ l).1) ((and_parts _ _ l').1) h.2))
  agree (suc n) s s' l l' h = equal_alike (suc n) s s' h

  agree_each : (n : ℕ) (cs cs' : Components) → are_tidy cs ≡ true → are_tidy cs' ≡ true → AgreesEach n cs cs' → EachAlikeTo n cs cs'
  agree_each n no_component no_component l l' h = none_alike n
  agree_each n no_component (component t' o' s' cs') l l' h = absurd h
  agree_each n (component t o s cs) no_component l l' h = absurd h
  agree_each n (component t o s cs) (component t' o' s' cs') l l' h =
      let k = tidy_default s s' o ((and_parts _ _ ((and_parts _ _ l).0)).0) (subst (λ x. has_normal_default s' x ≡ true) (sym h.1) ((and_parts _ _ ((and_parts _ _ l').0)).0)) in
      let x = agree n s s' ((and_parts _ _ ((and_parts _ _ l).0)).1) ((and_parts _ _ ((and_parts _ _ l').0)).1) h.2 in
      let y = agree_each n cs cs' ((and_parts _ _ l).1) ((and_parts _ _ l').1) h.3 in
      subst (λ x. EachAlikeTo n (component t o s cs) (component x o' s' cs')) h.0
      (subst (λ x. EachAlikeTo n (component t o s cs) (component t x s' cs')) h.1 (component_alike n t o o s s' cs cs' k x y))

  agree_alternatives : (n : ℕ) (os os' : Alternatives) → are_tidy_alternatives os ≡ true → are_tidy_alternatives os' ≡ true → AgreesAlternatives n os os' → AlternativesAlikeTo n os os'
  agree_alternatives n no_alternative no_alternative l l' h = no_alternative_alike n
  agree_alternatives n no_alternative (alternative t' s' os') l l' h = absurd h
  agree_alternatives n (alternative t s os) no_alternative l l' h = absurd h
  agree_alternatives n (alternative t s os) (alternative t' s' os') l l' h =
      subst (λ x. AlternativesAlikeTo n (alternative t s os) (alternative x s' os')) h.0
      (alternative_alike n t s s' os os' (agree n s s' ((and_parts _ _ l).0) ((and_parts _ _ l').0) h.1) (agree_alternatives n os os' ((and_parts _ _ l).1) ((and_parts _ _ l').1) h.2))

-- ---- encodings
messages_are : (al : Bool) (n : ℕ) (s s' : Schema) (v : Value) → AlikeTo n s s' → depth v ≤ n → Per.message al s v ≡ Per.message al s' v
unfolding Per.message
messages_are al n s s' v h d = ap Per.complete (h.packed_is al v d)

encodings_are : (r : Rules) (n : ℕ) (s s' : Schema) (v : Value) → AlikeTo n s s' → depth v ≤ n → encoding r s v ≡ encoding r s' v
unfolding encoding per octet_encoding
encodings_are uper n s s' v h d = let e = messages_are false n s s' v h d in rw e refl
encodings_are uper_strict n s s' v h d = let e = messages_are false n s s' v h d in rw e refl
encodings_are aper n s s' v h d = let e = messages_are true n s s' v h d in rw e refl
encodings_are aper_strict n s s' v h d = let e = messages_are true n s s' v h d in rw e refl
encodings_are oer n s s' v h d = let e = h.octets_is v d in rw e refl
encodings_are coer n s s' v h d = let e = h.octets_is v d in rw e refl

pub canonical_is : (r : Rules) (n : ℕ) (s s' : Schema) (v : Value) → AlikeTo n s s' → depth v ≤ n → canonical r s v ≡ canonical r s' v
unfolding canonical
canonical_is r n s s' v h d =
    let e = h.normal_is v d in
    let m = normal_depth s v in
    let f = encodings_are r n s s' (normal s v) h (omega arith) in
    rw (f, e) refl

pub reading_is : (r : Rules) (n : ℕ) (s s' : Schema) (v : Value) (w : List ℕ) → AlikeTo n s s' → depth v ≤ n → IsEncoding r s v w ≡ IsEncoding r s' v w
unfolding IsEncoding
reading_is uper n s s' v w h d = let e = messages_are false n s s' v h d in rw e refl
reading_is uper_strict n s s' v w h d = let e = messages_are false n s s' v h d in rw e refl
reading_is aper n s s' v w h d = let e = messages_are true n s s' v h d in rw e refl
reading_is aper_strict n s s' v w h d = let e = messages_are true n s s' v h d in rw e refl
reading_is oer n s s' v w h d = let e = h.octets_is v d in rw e refl
reading_is coer n s s' v w h d = let e = h.octets_is v d in rw e refl

pub alike_means_the_same : (r : Rules) (n : ℕ) (s s' : Schema) (v : Value) (w : List ℕ) → AlikeTo n s s' → depth v ≤ n →
    (normal s v ≡ normal s' v) × (canonical r s v ≡ canonical r s' v) × (IsEncoding r s v w → IsEncoding r s' v w) × (IsEncoding r s' v w → IsEncoding r s v w)
alike_means_the_same r n s s' v w h d =
    let e = reading_is r n s s' v w h d in
    (h.normal_is v d, canonical_is r n s s' v h d, λ x. subst (λ (T : Type 0). T) e x, λ x. subst (λ (T : Type 0). T) (sym e) x)

pub means_the_same : (r : Rules) (n : ℕ) (s s' : Schema) (v : Value) (w : List ℕ) → is_tidy s ≡ true → is_tidy s' ≡ true →
    AgreesTo n s s' → depth v ≤ n → (normal s v ≡ normal s' v) × (canonical r s v ≡ canonical r s' v) × (IsEncoding r s v w → IsEncoding r s' v w) × (IsEncoding r s' v w → IsEncoding r s v w)
means_the_same r n s s' v w l l' h d = alike_means_the_same r n s s' v w (agree n s s' l l' h) d
